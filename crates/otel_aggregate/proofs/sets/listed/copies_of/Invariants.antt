use Rattle.std.proofs.Common.{◌≡◌, ◌++◌, drop}
use Rattle.otel_aggregate.specs.sets.Keys.{shown}
use Rattle.otel_aggregate.proofs.sets.listed.copies_of.Given as goal

-- the copies and what is left are all
abbrev pub invariant-loop-at : goal.invariant-loop-at
invariant-loop-at l = l.copies.items ++ shown (drop l.at l.references) ≡ shown l.references
