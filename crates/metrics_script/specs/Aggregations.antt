-- Aggregations in a script.
use Rattle.std.specs.Prelude.{◌≡◌, ◌++◌, ℕ, List, codes, if◌then◌else◌}
use Rattle.otel_common.specs.declared.metrics.Aggregation.{Aggregation}
use Rattle.otel_common.specs.declared.metrics.Aggregation.TheVariants.{Drop, Default, Sum, LastValue, ExplicitBucketHistogram}
use Rattle.metrics_script.specs.Boundaries.{ReadsBoundaries}

-- a name alone, or `hist:` or `plain:` and a histogram's bounds; `hist:` also keeps the least and the greatest value
abbrev pub IsAggregationWord : List ℕ → Aggregation → Type 0
IsAggregationWord word Drop = word ≡ codes "drop"
IsAggregationWord word Default = word ≡ codes "default"
IsAggregationWord word Sum = word ≡ codes "sum"
IsAggregationWord word LastValue = word ≡ codes "lastvalue"
IsAggregationWord word (ExplicitBucketHistogram bounds record_min_max) = (rest : List ℕ) × (word ≡ (if record_min_max then codes "hist:" else codes "plain:") ++ rest) × ReadsBoundaries rest bounds
