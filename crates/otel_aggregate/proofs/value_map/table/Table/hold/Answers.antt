use Rattle.std.proofs.Common.{refl, ap, sym, subst, ◌∙◌, ◌≡◌, ℕ, ◌<◌, ◌-◌, ◌^◌, Option, Some, None}
use Rattle.std.specs.Option.{IfSome, option_map}
use Rattle.slab.specs.Slab.{get}
use Rattle.otel_model_stream.specs.Folds.{Fold}
use Rattle.otel_model_stream.specs.Entries.{take_handle, at_entry}
use Rattle.otel_aggregate.specs.value_map.Keyed.{Slotted}
use Rattle.otel_aggregate.specs.value_map.Slots.{held, Kept, kept_of, look_in, table_at}
use Rattle.otel_aggregate.specs.declared.value_map.slots.Slot.{Slot}
use Rattle.otel_aggregate.specs.value_map.Numbers.{number_of, handles_at}
use Rattle.otel_aggregate.proofs.value_map.ShownLemmas.{handles-kept}
use Rattle.otel_aggregate.proofs.value_map.TouchLemmas.{kept-touched, table-touched, counted-touched}
use Rattle.otel_aggregate.proofs.value_map.table.Table.hold.Goals as goal

pub invariant_of-self : goal.invariant_of-self
invariant_of-self g c =
    (kept-touched held take_handle (λ s k. refl) (λ k. refl) (λ k. refl) _ _ c.args.number c.hold.ensures.look c.self.inside.none c.self.inside.keys.sets c.self.inside.keys.aliases c.self.invariant.0, c.self.invariant.1)

pub returns-clause-table : goal.returns-clause-table
returns-clause-table g c = λ s e.
    table-touched held take_handle (λ s k. refl) (λ k. refl) (λ k. refl) _ _ c.args.number c.hold.ensures.look c.self.inside.none c.self.inside.keys.sets c.self.inside.keys.aliases s c.self.invariant.0
    (ap (λ (t : Slotted). number_of s t.numbers) c.self.view_is ∙ e)
    ∙ ap (λ (t : Slotted). at_entry s take_handle t.table) c.self.view_is

pub hold-requires : goal.hold-requires
hold-requires g c =
    let look = look_in g.A.Aggregator.meaning c.self.inside.slots in
    let s = c.requires.0 in
    let e = ap (λ (t : Slotted). number_of s t.numbers) c.self.view_is ∙ c.requires.1 in
    let few : handles_at s (table_at look c.self.inside.none c.self.inside.keys.sets) < 2 ^ 64 - 1 = subst (λ (t : Slotted). handles_at s t.table < 2 ^ 64 - 1) (sym c.self.view_is) c.requires.2 in
    let held_there = handles-kept look c.self.inside.none c.self.inside.keys.sets c.self.inside.keys.aliases s c.args.number c.self.invariant.0 e in
    by g.A.Aggregator.meaning (get c.self.inside.slots c.args.number) _ held_there few
  where
    by : {A : Type 0} (meaning : A → Fold) (o : Option (Slot A)) (m : ℕ) → option_map (λ (k : Kept). k.handles) (option_map (kept_of meaning) o) ≡ Some m → m < 2 ^ 64 - 1 → IfSome o (λ slot. slot.handles < 2 ^ 64 - 1)
    by meaning None m q h = tt
    by meaning (Some slot) m q h = let k : slot.handles ≡ m = cc in subst (λ n. n < 2 ^ 64 - 1) (sym k) h

pub returns-clause-counted : goal.returns-clause-counted
returns-clause-counted g c =
    rw (← c.self.view_is) (counted-touched held take_handle (λ s k. refl) (λ k. refl) (λ k. refl) _ _ c.args.number c.hold.ensures.look c.self.inside.keys.sets)
