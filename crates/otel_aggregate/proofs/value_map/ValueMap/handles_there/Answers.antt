use Rattle.std.proofs.Common.{◌≡◌, ◌∙◌, ◌-◌, ◌++◌, ℕ, List, Some, length, slice_get, take, ap, subst, sym}
use Rattle.std.specs.Option.{option_to_list}
use Rattle.otel_model_stream.specs.Entries.{Entry}
use Rattle.otel_aggregate.specs.value_map.Contents.{MapContents, IsSound, next_of, pending_in}
use Rattle.otel_aggregate.specs.value_map.Numbers.{handles_at, set_named}
use Rattle.otel_aggregate.proofs.value_map.PlaceLemmas.{last-apart, next-taken, unheld}
use Rattle.otel_aggregate.proofs.value_map.ValueMap.handles_there.Goals as goal

pub returns-in_default : goal.returns-in_default
returns-in_default g c = λ s e.
    subst (λ (h : MapContents). 0 ≡ handles_at s h.state.table) c.self.view_is
    (unheld c.self.inside.table _ _ c.self.inside.pending s c.self.invariant.2 c.in_default.not-At c.in_default.not-Several (ap (λ (x : Entry). x.set) c.law_of_empty_set.ensures.1) (ap (λ (h : MapContents). next_of h.pending) c.self.view_is ∙ e))

pub returns-in-Some : goal.returns-in-Some
returns-in-Some g c = λ s e.
    let t = c.self.inside.table in
    let n : ℕ = c.in-Some.number.now in
    let ks : List ℕ = c.in-Several.numbers.items in
    let last = next-taken t ks (take (length ks - 1) ks) (Some n) (last-apart ks ∙ ap (λ o. take (length ks - 1) ks ++ option_to_list o) (sym (c.in-Some.ensures.value ∙ ap (λ ls. slice_get ls (length ls - 1)) c.deref.ensures.value))) (subst (IsSound t _ _) c.in-Several.is c.self.invariant.2) in
    let one : Some (set_named n t.numbers) ≡ Some s = sym last.1 ∙ ap (λ p. next_of (pending_in t.numbers p)) (sym c.in-Several.is) ∙ ap (λ (h : MapContents). next_of h.pending) c.self.view_is ∙ e in
    let same : set_named n t.numbers ≡ s = cc in
    c.handles-in-Some.ensures (set_named n t.numbers) last.0.0
    ∙ (λ i. handles_at (same i) (ap (λ (h : MapContents). h.state.table) c.self.view_is i))
