use Rattle.std.proofs.Common.{◌≡◌, ◌++◌, ℕ, List, length}
use Rattle.otel_prometheus.specs.Samples.{Pair}
use Rattle.otel_prometheus.specs.Fronts.{IsFront}
use Rattle.otel_prometheus.specs.Points.{buckets}
use Rattle.otel_prometheus.specs.Series.{samples_text}
use Rattle.otel_prometheus.proofs.samples.push_buckets.Given as goal

abbrev pub decreases-loop-bound : goal.decreases-loop-bound
decreases-loop-bound l = length l.bounds_left

-- with the buckets that are left the text is whole
abbrev pub invariant-loop-bound : goal.invariant-loop-bound
invariant-loop-bound l = (name : List ℕ) (labels : List Pair) → IsFront l.front name labels
    → l.out.items ++ samples_text (buckets l.format name labels l.before l.bounds_left l.counts_left) ≡ l.fn.out.items ++ samples_text (buckets l.format name labels 0 l.bounds l.counts)
