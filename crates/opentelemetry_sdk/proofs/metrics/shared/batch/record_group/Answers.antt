use Rattle.std.proofs.Common.{ℕ, List, sym, subst, arith}
use Rattle.otel_model.specs.State.{InstrumentState}
use Rattle.opentelemetry_sdk.specs.Groups.{series_at}
use Rattle.opentelemetry_sdk.specs.declared.metrics.shared.series.Series.{Series}
use Rattle.opentelemetry_sdk.proofs.Grouping.{AreTaken, group-within, instrument_after_each}
use Rattle.opentelemetry_sdk.proofs.Preparing.{ready-next}
use Rattle.opentelemetry_sdk.proofs.pipeline.Writes.{set-changed}
use Rattle.opentelemetry_sdk.proofs.metrics.shared.batch.record_group.Goals as goal
use Rattle.opentelemetry_sdk.proofs.metrics.shared.batch.record_group.Goals.{After-series-series}

-- the instrument takes the values
taken : (c : After-series-series) → AreTaken c.args.instruments.now.items c.series-series.result.now.instrument c.args.values.now
taken c =
    let k = c.requires.known in
    subst (λ (s : Series). AreTaken c.args.instruments.now.items s.instrument c.args.values.now) (sym c.series-series.ensures)
    (subst (λ (is : List InstrumentState). AreTaken is (series_at c.args.waiting.now.series c.args.place).instrument c.args.values.now) k.2.inside.instruments k.2.known.0.taken)

pub change_all-requires : goal.change_all-requires
change_all-requires c = c.requires.alike.1

pub index_mut-requires : goal.index_mut-requires
index_mut-requires c = omega (arith, group-within c.series-series.result.now.instrument c.args.values.now c.args.instruments.now.items c.requires.alike (taken (goal.at.index_mut-requires c).After-series-series))

pub returns : goal.returns
returns c = λ st gs ready.
    let n : ℕ = c.series-series.result.now.instrument in
    let vs = c.args.values.now in
    let lt = group-within n vs c.args.instruments.now.items c.requires.alike (taken (goal.at.returns c).After-series-series) in
    ready-next c.args.waiting.now.series c.args.place vs gs c.series-series.result.now c.series-series.ensures c.args.pipelines.now c.change_all.new.pipelines c.args.instruments.now.items _
    c.change_all.ensures.lawful c.change_all.ensures.streams
    (set-changed (instrument_after_each vs) c.args.instruments.now.items n c.index_mut.result.now c.accept_each.new.self lt c.index_mut.ensures.value c.accept_each.ensures)
    st ready
