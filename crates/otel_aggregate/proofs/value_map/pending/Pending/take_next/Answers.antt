use Rattle.std.proofs.Common.{◌≡◌, Some, sym, subst}
use Rattle.std.specs.Prelude.{IfSome}
use Rattle.otel_aggregate.specs.value_map.Contents.{IsSound, NamesEntry, next_of, pending_in}
use Rattle.otel_aggregate.specs.value_map.Numbers.{set_named}
use Rattle.otel_aggregate.proofs.value_map.PlaceLemmas.{next-taken}
use Rattle.otel_aggregate.proofs.value_map.pending.Pending.take_next.Goals as goal

pub returns-in-Several-clause-there : goal.returns-in-Several-clause-there
returns-in-Several-clause-there c = λ t few room sound.
    subst (λ p. IfSome c.pop.result (λ n. NamesEntry t n × (next_of (pending_in t.numbers p) ≡ Some (set_named n t.numbers)))) (sym c.in-Several.is)
    (next-taken t c.in-Several.numbers.items c.pop.new.self.items c.pop.result c.pop.ensures.items (subst (IsSound t few room) c.in-Several.is sound))
