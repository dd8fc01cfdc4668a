use Rattle.std.proofs.Common.{rules, ◌≡◌, ◌∙◌, ◌++◌, ◌∷◌, [], ℕ, Some, true, ap, sym, subst}
use Rattle.std.specs.List.{AllByRecursion}
use Rattle.otel_model_stream.specs.Entries.{Table}
use Rattle.otel_aggregate.specs.value_map.Contents.{MapContents, IsSound, NamesEntry}
use Rattle.otel_aggregate.specs.value_map.Keyed.{Slotted}
use Rattle.otel_aggregate.specs.value_map.Numbers.{Numbers, number_of, set_named, is_placed}
use Rattle.otel_aggregate.proofs.All.{all-append, all-each}
use Rattle.otel_aggregate.proofs.value_map.ValueMap.prepare_known.Goals as goal
use Rattle.otel_aggregate.proofs.value_map.ValueMap.prepare_known.Goals.{in-None, in-Some-allow}

-- a number names an entry by the numbers and the table alone
names-same : (t after : Slotted) → after.numbers ≡ t.numbers → after.table ≡ t.table → (n : ℕ) → NamesEntry t n → NamesEntry after n
names-same t after numbers table n there =
    subst (λ (x : Table). (number_of (set_named n after.numbers) after.numbers ≡ Some n) × (is_placed (set_named n after.numbers) x.entries ≡ true)) (sym table)
    (subst (λ (ns : Numbers). (number_of (set_named n ns) ns ≡ Some n) × (is_placed (set_named n ns) t.table.entries ≡ true)) (sym numbers) there)

-- the others have their entries still, and the new number names one
pub invariant_of-self-then-is_ok : goal.invariant_of-self-then-is_ok
invariant_of-self-then-is_ok g c =
    let t = c.self.inside.table in
    let u = c.self-2.inside.table in
    let items : c.push.new.self.items ≡ c.in-Some.numbers.items ++ c.in-At.number ∷ [] = search rules in
    let numbers : u.numbers ≡ t.numbers = ap (λ (h : MapContents). h.numbers) c.self-2.view_is ∙ elim c.match-allow.branch [
      | in-None w ↦ ap (λ (h : MapContents). h.numbers) w.self-is ∙ w.prepare.ensures.numbers
      | in-Some-allow w ↦ ap (λ (h : MapContents). h.numbers) w.self-is ∙ w.prepare_allowed.ensures.numbers
    ] in
    let table : u.table ≡ t.table = ap (λ (h : MapContents). h.state.table) c.self-2.view_is ∙ elim c.match-allow.branch [
      | in-None w ↦ ap (λ (h : MapContents). h.state.table) w.self-is ∙ ap (λ m. m.table) w.prepare.ensures.same
      | in-Some-allow w ↦ ap (λ (h : MapContents). h.state.table) w.self-is ∙ ap (λ m. m.table) w.prepare_allowed.ensures.same
    ] in (
      c.self-2.invariant.0,
      c.self-2.invariant.1,
      subst (AllByRecursion (NamesEntry u)) (sym items) (all-append (NamesEntry u) c.in-Some.numbers.items (c.in-At.number ∷ [])
          (all-each (NamesEntry t) (NamesEntry u) (names-same t u numbers table) c.in-Some.numbers.items (c.in-Some.ensures.sound t _ _ c.self.invariant.2))
          (subst (IsSound u _ _) c.in-At.is c.self-2.invariant.2, tt)),
    )
