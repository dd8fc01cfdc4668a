use Rattle.std.proofs.Common.{map}
use Rattle.std.specs.List.{AllZip}
use Rattle.metrics_script.specs.Boundaries.{IsBoundaryWord}
use Rattle.metrics_script.proofs.boundaries.boundaries_of.Given as goal

-- the words so far are those of the boundaries so far
abbrev pub invariant-loop-number : goal.invariant-loop-number
invariant-loop-number l = AllZip IsBoundaryWord (map (λ x. x.now) l.yielded) l.boundaries.items
