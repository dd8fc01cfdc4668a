use Rattle.std.proofs.Common.{◌≡◌, ◌∙◌, map, drop, length, sym, ap, arith, ltb-true}
use Rattle.indexmap.proofs.CallerLemmas.{keys-with_value_at}
use Rattle.indexmap.specs.IndexMap.{keys}
use Rattle.opentelemetry_sdk.specs.Pending.{call_in}
use Rattle.opentelemetry_sdk.specs.Waiting.{Waits, record_in}
use Rattle.opentelemetry_sdk.proofs.SeriesLemmas.{key-at, list-at, lists-kept}
use Rattle.opentelemetry_sdk.proofs.WaitingLemmas.{passed, taken}
use Rattle.opentelemetry_sdk.proofs.metrics.shared.waiting.Waiting.take_first.Goals as goal

pub invariant_of-self-in-Plain : goal.invariant_of-self-in-Plain
invariant_of-self-in-Plain c = rw (keys-with_value_at c.self.inside.series c.in-Plain.place c.share.new.self) (
  omega (arith, ltb-true _ _ (sym c.in_ok-first.ensures.lookup.0), ap length c.deref.ensures.value),
  c.self.invariant.1,
  lists-kept c.self.inside.series.entries c.in-Plain.place c.in_ok-list-in-Plain.list.now c.share.new.self (sym c.in_ok-list-in-Plain.ensures.value) c.share.ensures.kept c.self.invariant.2,
  (λ none. absurd (omega arith)),
)

-- the record is of the series at its place, whose list is shared
pub returns-in_ok-list-in-Plain-clause-first : goal.returns-in_ok-list-in-Plain-clause-first
returns-in_ok-list-in-Plain-clause-first c =
    let w = c.self.inside in
    let s = c.in_ok-instrument-in-Plain.field-0.0.now in
    let entry = c.in_ok-instrument-in-Plain.ensures.entry in
    let first = taken (keys w.series) w.records.items c.deref.result.now w.made c.in-Plain.place c.in-Plain.value c.in_ok-first.field-0.now s c.deref.ensures.value c.in_ok-first.ensures.lookup.0 c.in_ok-first.ensures.lookup.1 c.in-Plain.is (key-at w.series.entries c.in-Plain.place _ entry) in
    let list : c.share.result ≡ s.attributes = c.share.ensures.shared ∙ list-at w.series.entries c.in-Plain.place _ c.in_ok-list-in-Plain.list.now entry c.in_ok-list-in-Plain.ensures.value c.self.invariant.2 in
    rw (keys-with_value_at w.series c.in-Plain.place c.share.new.self, list) (sym (ap (λ (v : Waits). map call_in v.records) c.self.view_is) ∙ ap (map call_in) first)

pub returns-in_ok-list-in-Plain-clause-rest : goal.returns-in_ok-list-in-Plain-clause-rest
returns-in_ok-list-in-Plain-clause-rest c =
    rw (keys-with_value_at c.self.inside.series c.in-Plain.place c.share.new.self) (passed (record_in _) c.self.inside.records.items c.self.inside.made ∙ ap (λ (w : Waits). drop 1 w.records) c.self.view_is)

pub returns-in_ok-list-in-Plain-clause-kept : goal.returns-in_ok-list-in-Plain-clause-kept
returns-in_ok-list-in-Plain-clause-kept c =
    rw (keys-with_value_at c.self.inside.series c.in-Plain.place c.share.new.self) (ap (λ (w : Waits). w.emptied) c.self.view_is, ap (λ (w : Waits). w.series) c.self.view_is, ap (λ (w : Waits). w.room) c.self.view_is)
