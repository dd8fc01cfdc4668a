use Rattle.std.proofs.Common.{◌≡◌, take}
use Rattle.otel_aggregate.specs.AnyKept.{least_from, greatest_from}
use Rattle.otel_aggregate.proofs.values.range_of.Given as goal

abbrev pub invariant-loop-value : goal.invariant-loop-value
invariant-loop-value l = (l.least ≡ least_from l.fn.least (take l.value-index l.values)) × (l.greatest ≡ greatest_from l.fn.greatest (take l.value-index l.values))
