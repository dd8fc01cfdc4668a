use Rattle.std.proofs.Common.{◌≡◌, drop}
use Rattle.otel_common.specs.Equality.{set_eq}
use Rattle.otel_aggregate.proofs.sets.listed.same_lists.Given as goal

-- the lists are equal if what is left of them is
abbrev pub invariant-loop-at : goal.invariant-loop-at
invariant-loop-at l = set_eq (drop l.at l.attributes) (drop l.at l.others) ≡ set_eq l.attributes l.others
