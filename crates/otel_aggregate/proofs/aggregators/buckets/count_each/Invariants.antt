use Rattle.std.proofs.Common.{◌≡◌, take}
use Rattle.otel_aggregate.specs.AnyKept.{counts_with}
use Rattle.otel_aggregate.proofs.aggregators.buckets.count_each.Given as goal

abbrev pub invariant-loop-value : goal.invariant-loop-value
invariant-loop-value l = l.counts ≡ counts_with l.bounds l.initial.counts (take l.value-index l.values)
