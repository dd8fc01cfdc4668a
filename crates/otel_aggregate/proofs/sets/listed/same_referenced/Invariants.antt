use Rattle.std.proofs.Common.{◌≡◌, drop}
use Rattle.otel_common.specs.Equality.{set_eq}
use Rattle.otel_aggregate.specs.sets.Keys.{shown}
use Rattle.otel_aggregate.proofs.sets.listed.same_referenced.Given as goal

-- the two are the same if what is left of them is
abbrev pub invariant-loop-at : goal.invariant-loop-at
invariant-loop-at l = set_eq (shown (drop l.at l.references)) (drop l.at l.attributes) ≡ set_eq (shown l.references) l.attributes
