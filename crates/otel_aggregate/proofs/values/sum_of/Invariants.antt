use Rattle.std.proofs.Common.{◌≡◌, take}
use Rattle.otel_aggregate.specs.AnyKept.{sum_with}
use Rattle.otel_aggregate.proofs.values.sum_of.Given as goal

abbrev pub invariant-loop-value : goal.invariant-loop-value
invariant-loop-value l = l.sum ≡ sum_with l.start (take l.value-index l.values)
