-- Bucket bounds, and which aggregations are valid (Metrics SDK, "Aggregation" and "Explicit Bucket Histogram
-- Aggregation").
use Rattle.std.specs.Prelude.{ℕ, ℤ, int_lt, Bool, true, ◌&&◌, List, [], ◌∷◌, codes}
use Rattle.otel_common.specs.declared.metrics.Aggregation.{Aggregation}
use Rattle.otel_common.specs.declared.metrics.Aggregation.TheVariants.{Drop, Default, Sum, LastValue, ExplicitBucketHistogram}

-- whether each bound is greater than the one before it; an empty list rises
abbrev pub rises : List ℤ → Bool
rises [] = true
rises (a ∷ []) = true
rises (a ∷ b ∷ bounds) = int_lt a b && rises (b ∷ bounds)

-- whether the bounds rise, if the aggregation has any
abbrev pub is_valid : Aggregation → Bool
is_valid Drop = true
is_valid Default = true
is_valid Sum = true
is_valid LastValue = true
is_valid (ExplicitBucketHistogram bounds m) = rises bounds

-- the name of the variant
abbrev pub aggregation_name : Aggregation → List ℕ
aggregation_name Drop = codes "Drop"
aggregation_name Default = codes "Default"
aggregation_name Sum = codes "Sum"
aggregation_name LastValue = codes "LastValue"
aggregation_name (ExplicitBucketHistogram bounds m) = codes "ExplicitBucketHistogram"

-- the text of the error for bounds that don't rise
abbrev pub aggregation_bounds_fault_text : List ℕ
aggregation_bounds_fault_text = codes "aggregation: explicit bucket histogram: non-monotonic boundaries"
