use Rattle.std.proofs.Common.{◌∙◌, ap, sym}
use Rattle.otel_aggregate.specs.Streams.{AggregateContents}
use Rattle.otel_aggregate.specs.value_map.Contents.{is_next_placed}
use Rattle.otel_aggregate.specs.value_map.Numbers.{is_placed}
use Rattle.otel_model_stream.specs.Sets.{AttributeSet}
use Rattle.opentelemetry_sdk.specs.pipeline.Known.{is_known_to}
use Rattle.opentelemetry_sdk.specs.pipeline.Streams.{StreamContents}
use Rattle.opentelemetry_sdk.proofs.pipeline.Settled.{placed-known, used-prepared}
use Rattle.opentelemetry_sdk.proofs.pipeline.metric_stream.MetricStream.prepare_known.Goals as goal

-- the entry that they use is there
pub returns-clause-known : goal.returns-clause-known
returns-clause-known c = λ e.
    let l = c.args.attributes.now in
    let a : AggregateContents = c.self.inside.aggregate in
    sym (ap (λ (h : StreamContents). is_known_to l h.stream) c.self.view_is)
    ∙ sym (placed-known l c.self.inside.demand a)
    ∙ ap (λ (s : AttributeSet). is_placed s a.state.map_state.table.entries) (sym (used-prepared l c.self.inside.demand a c.self.invariant))
    ∙ ap (λ (x : AggregateContents). is_next_placed x.pending x.state.map_state.table.entries) (sym (c.prepare_known.ensures.ready e))
    ∙ c.prepare_known.ensures.there e
