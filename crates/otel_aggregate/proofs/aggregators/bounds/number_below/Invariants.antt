use Rattle.std.proofs.Common.{◌≡◌, ℕ, ◌+◌, ◌/◌, ◌^◌, ◌<◌, ◌≤◌, length}
use Rattle.otel_model_stream.specs.Folds.{bounds_below}
use Rattle.otel_aggregate.proofs.aggregators.bounds.number_below.Given as goal

-- 2^k numbers are left
abbrev pub invariant-loop-step : goal.invariant-loop-step
invariant-loop-step l = record {
  power : (k : ℕ) × (l.step ≡ 2 ^ k / 2) × (bounds_below l.bounds l.value < l.below + 2 ^ k) × (l.below + 2 ^ k ≤ length l.bounds + 1);
  least : l.below ≤ bounds_below l.bounds l.value;
}

abbrev pub decreases-loop-step : goal.decreases-loop-step
decreases-loop-step l = l.step
