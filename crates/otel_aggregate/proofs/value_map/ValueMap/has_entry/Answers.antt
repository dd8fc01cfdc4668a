use Rattle.std.proofs.Common.{ap, arith, not, subst, sym, ◌∙◌}
use Rattle.otel_aggregate.specs.value_map.Contents.{MapContents, IsSound, is_next_placed, pending_in}
use Rattle.otel_aggregate.proofs.value_map.PlaceLemmas.{entry-there}
use Rattle.otel_aggregate.proofs.value_map.ValueMap.has_entry.Goals as goal

pub returns-in-Several : goal.returns-in-Several
returns-in-Several g c =
    let t = c.self.inside.table in
    ap not c.is_empty.ensures
    ∙ entry-there t c.in-Several.numbers.items c.in-Several.numbers.len (omega (arith, c.in-Several.numbers.ok)) (subst (IsSound t _ _) c.in-Several.is c.self.invariant.2)
    ∙ ap (λ p. is_next_placed (pending_in t.numbers p) t.table.entries) (sym c.in-Several.is)
    ∙ ap (λ (h : MapContents). is_next_placed h.pending h.state.table.entries) c.self.view_is
