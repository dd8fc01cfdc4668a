use Rattle.std.proofs.Common.{◌≡◌, ◌∙◌, ◌∷◌, drop, ap, subst}
use Rattle.indexmap.specs.IndexMap.{keys}
use Rattle.opentelemetry_sdk.specs.Waiting.{Waits, record_in}
use Rattle.opentelemetry_sdk.specs.declared.metrics.shared.pending.PendingRecord.TheVariants as pending
use Rattle.opentelemetry_sdk.proofs.SeriesLemmas.{key-at}
use Rattle.opentelemetry_sdk.proofs.WaitingLemmas.{passed, taken}
use Rattle.opentelemetry_sdk.proofs.metrics.shared.waiting.Waiting.first.Goals as goal

pub returns-in_ok-series-in-Plain-clause-first : goal.returns-in_ok-series-in-Plain-clause-first
returns-in_ok-series-in-Plain-clause-first c =
    let w = c.self.inside in
    let s = c.in_ok-series-in-Plain.series.now in
    let first = taken (keys w.series) w.records.items c.deref.result.now w.made c.in-Plain.place c.in-Plain.value c.in_ok-place.field-0.now s c.deref.ensures.value c.in_ok-place.ensures.lookup.0 c.in_ok-place.ensures.lookup.1 c.in-Plain.is (key-at w.series.entries c.in-Plain.place _ c.in_ok-series-in-Plain.ensures.entry) in
    let rest = ap (λ ps. pending.Plain s.instrument c.in-Plain.value s.attributes ∷ ps) (passed (record_in (keys w.series)) w.records.items w.made) in
    rw c.given.ensures (subst (λ (v : Waits). v.records ≡ pending.Plain s.instrument c.in-Plain.value s.attributes ∷ drop 1 v.records) c.self.view_is (first ∙ rest))
