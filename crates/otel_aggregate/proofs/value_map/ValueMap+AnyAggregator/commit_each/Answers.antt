use Rattle.std.proofs.Common.{◌≡◌, ◌∙◌, ap, sym, subst, fold, is_some, true, true≢false, refl, List, ℕ, Option, Some, None}
use Rattle.std.specs.Prelude.{IfSome}
use Rattle.otel_model_stream.specs.Folds.{Sample}
use Rattle.otel_model_stream.specs.Maps.{MapState, measured_map}
use Rattle.otel_model_stream.specs.Sets.{AttributeSet}
use Rattle.otel_aggregate.specs.AnyKept.{empty_for}
use Rattle.otel_aggregate.specs.value_map.Contents.{MapContents, NamesEntry, is_next_placed, next_of, pending_in}
use Rattle.otel_aggregate.specs.value_map.Numbers.{set_named}
use Rattle.otel_aggregate.specs.Any.{aggregate_of, samples_of}
use Rattle.otel_aggregate.specs.value_map.Slots.{write_each}
use Rattle.otel_aggregate.proofs.EachLemmas.{measured-each, same-set}
use Rattle.otel_aggregate.proofs.value_map.PlaceLemmas.{sound-changed}
use Rattle.otel_aggregate.proofs.value_map.ValueMap+AnyAggregator.commit_each.Goals as goal
use Rattle.otel_aggregate.proofs.value_map.ValueMap+AnyAggregator.commit_each.Goals.{In-Some, In_default}

-- the number that is taken out names the entry of the set that is prepared next
next : (c : In-Some) → NamesEntry c.self.inside.table c.in-Some.number × (next_of (pending_in c.self.inside.table.numbers c.self.inside.pending) ≡ Some (set_named c.in-Some.number c.self.inside.table.numbers))
next c = subst (λ r. IfSome r (λ n. NamesEntry c.self.inside.table n × (next_of (pending_in c.self.inside.table.numbers c.self.inside.pending) ≡ Some (set_named n c.self.inside.table.numbers)))) c.in-Some.is
    (c.take_next.ensures.there c.self.inside.table _ _ c.self.invariant.2)

-- the entries of the others are there still
pub invariant_of-self : goal.invariant_of-self
invariant_of-self c =
    let at = (goal.at.invariant_of-self c).In-Some in
    let vs : List Sample = samples_of (aggregate_of c.args.settings.now) c.args.values.now in (
      c.self.invariant.0 ∙ sym c.touch_each.ensures.counted,
      c.self.invariant.1,
      sound-changed c.self.inside.table c.touch_each.new.self (set_named c.in-Some.number c.self.inside.table.numbers) (write_each vs) (same-set vs) (c.touch_each.ensures.table _ (next at).0.0) c.touch_each.ensures.numbers _ _ _ _ c.take_next.new.self
          (c.take_next.ensures.made (ap is_some c.in-Some.is)) (c.take_next.ensures.later c.self.inside.table _ _ c.self.invariant.2),
    )

-- the set that is prepared next is that of the entry
pub returns-in-Some-clause-measured : goal.returns-in-Some-clause-measured
returns-in-Some-clause-measured c = λ s e.
    let at = next (goal.at.returns-in-Some-clause-measured c).In-Some in
    let vs : List Sample = samples_of (aggregate_of c.args.settings.now) c.args.values.now in
    let st : MapState = record { limit = c.self.inside.limit; empty = empty_for c.self.inside.config; table = c.self.inside.table.table } in
    let g : AttributeSet = set_named c.in-Some.number c.self.inside.table.numbers in
    let one : Some g ≡ Some s = sym at.1 ∙ ap (λ (h : MapContents). next_of h.pending) c.self.view_is ∙ e in
    let same : g ≡ s = cc in
    (λ i. record st { table = c.touch_each.ensures.table g at.0.0 i })
    ∙ sym (measured-each g vs st at.0.1)
    ∙ (λ i. fold (λ (m : MapState) (v : Sample). measured_map (same i) v m) (ap (λ (h : MapContents). h.state) c.self.view_is i) vs)

gone : (o : Option ℕ) → ((n : ℕ) → o ≡ Some n → ⊥) → is_some o ≡ true → ⊥
gone None none e = true≢false (sym e)
gone (Some n) none e = none n refl

-- there is one
some : (c : In_default) → is_some c.take_next.result ≡ true
some c = c.take_next.ensures.some c.self.inside.table _ _ c.self.invariant.2 (ap (λ (h : MapContents). is_next_placed h.pending h.state.table.entries) c.self.view_is ∙ c.requires)

pub invariant_of-self-in_default : goal.invariant_of-self-in_default
invariant_of-self-in_default c = (c.self.invariant.0, c.self.invariant.1, c.take_next.ensures.later c.self.inside.table _ _ c.self.invariant.2)

pub returns-in_default-clause-measured : goal.returns-in_default-clause-measured
returns-in_default-clause-measured c = absurd (gone c.take_next.result c.in_default.not-Some (some (goal.at.returns-in_default-clause-measured c).In_default))

pub returns-in_default-clause-rest : goal.returns-in_default-clause-rest
returns-in_default-clause-rest c = absurd (gone c.take_next.result c.in_default.not-Some (some (goal.at.returns-in_default-clause-rest c).In_default))
