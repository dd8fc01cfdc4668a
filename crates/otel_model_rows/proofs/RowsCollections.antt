-- Worked rows on what a collection contains, on what instruments accepted, and on what answered collections add up to.
use Rattle.std.specs.Prelude.{◌≡◌, ℕ, pos, negsuc, Bool, true, false, List, [], ◌∷◌, map, Some, None, codes}
use Rattle.std.proofs.Common.{refl}
use Rattle.otel_common.specs.declared.scopes.InstrumentationScope.{InstrumentationScope}
use Rattle.otel_data.specs.declared.aggregated.AggregatedMetrics.{AggregatedMetrics}
use Rattle.otel_data.specs.declared.aggregated.AggregatedMetrics.TheVariants.{U64, I64}
use Rattle.otel_data.specs.declared.aggregated.MetricData.{MetricData}
use Rattle.otel_data.specs.declared.aggregated.MetricData.TheVariants as data_of
use Rattle.otel_data.specs.declared.collections.Metric.{Metric}
use Rattle.otel_data.specs.declared.points.HistogramDataPoint.{HistogramDataPoint}
use Rattle.otel_data.specs.declared.points.SumDataPoint.{SumDataPoint}
use Rattle.otel_model_stream.specs.Events.{Point}
use Rattle.otel_model_stream.specs.Folds as folds
use Rattle.otel_model_stream.specs.Folds.{Total, Last, Spreads, Spread}
use Rattle.otel_model.specs.Accepted.{accepted_amount, accepted_for}
use Rattle.otel_model.specs.Answered.{data_total, content_total, metric_total}
use Rattle.otel_model.specs.Calls.{InstrumentKind, Counter, UpDownCounter, ObservableCounter, ObservableUpDownCounter, Gauge, UnknownReader, Reply}
use Rattle.otel_model.specs.Collections.{natural_of, shows_differences, differences, data_by, exported_temporality, aggregated_metrics, content_of, metric, points_in, number_of_points, has_points, ScopedMetric, in_scope, has_metrics, collection}
use Rattle.otel_model.specs.Demands.{Aggregation, Drop, Default, Sum, LastValue, ExplicitBucketHistogram, Identity, Demand, ReaderAnswers, Temporality, Cumulative, Delta, answers_by}
use Rattle.otel_model.specs.Resources.{empty_resource}
use Rattle.otel_model.specs.State.{InstrumentState}
use Rattle.otel_model.specs.Steps.{collect_reply}
use Rattle.otel_model.specs.Machine.{new_part, new_state}
use Rattle.otel_model_rows.specs.Rows.{a, b, m, scope_named, x1, y1, cumulative, delta, low_memory}

-- ======== differences ========
abbrev demand : InstrumentKind → Aggregation → Demand
demand kind aggregation = record { identity = record { scope = m; kind = kind; signed = false; description = codes "d"; unit = codes "u"; name = a }; spelling = codes "A"; aggregation = aggregation; allow = None; limit = 1 }

abbrev all_delta : ReaderAnswers
all_delta = answers_by (λ kind. Delta)

-- of observed sums alone, and only in a delta stream
pub showing_differences : (shows_differences delta (demand ObservableCounter Sum) ≡ true)
    × (shows_differences cumulative (demand ObservableCounter Sum) ≡ false)
    × (shows_differences delta (demand Counter Sum) ≡ false)
    × (shows_differences delta (demand ObservableUpDownCounter Sum) ≡ false)
    × (shows_differences all_delta (demand ObservableUpDownCounter Sum) ≡ true)
    × (shows_differences delta (demand ObservableCounter (ExplicitBucketHistogram [] true)) ≡ false)
showing_differences = (refl, refl, refl, refl, refl, refl)

abbrev before : List Point
before = (x1, Last 5) ∷ []

abbrev now : List Point
now = (x1, Last 8) ∷ (y1, Last 3) ∷ []

pub differences_or_not : (differences delta (demand ObservableCounter Sum) before now ≡ (x1, Last 3) ∷ (y1, Last 3) ∷ []) × (differences cumulative (demand ObservableCounter Sum) before now ≡ now)
differences_or_not = (refl, refl)

-- ======== metrics ========
abbrev value : ℕ → SumDataPoint ℕ
value n = record { attributes = x1; exemplars = []; value = n }

abbrev sums : Temporality → Bool → List (SumDataPoint ℕ) → MetricData ℕ
sums temporality is_monotonic points = data_of.Sum (record { data_points = points; start_time = 100; time = 200; temporality = temporality; is_monotonic = is_monotonic })

abbrev gauges : MetricData ℕ
gauges = data_of.Gauge (record { data_points = record { attributes = x1; exemplars = []; value = 7 } ∷ []; start_time = 100; time = 200 })

abbrev seven : List Point
seven = (x1, Total 7) ∷ []

-- `Drop` and `Default` count as sums
pub data_of_aggregations : map (λ aggregation. data_by (λ n. n) natural_of Delta Counter aggregation 100 200 seven) (Drop ∷ Default ∷ Sum ∷ LastValue ∷ [])
    ≡ sums Delta true (value 7 ∷ []) ∷ sums Delta true (value 7 ∷ []) ∷ sums Delta true (value 7 ∷ []) ∷ gauges ∷ []
data_of_aggregations = refl

abbrev spread : Spread
spread = record { has_min_max = true; has_sum = true; count = 2; sum = 10; least = Some (pos 3); greatest = Some (pos 7); counts = 1 ∷ 1 ∷ [] }

abbrev bucket_point : HistogramDataPoint ℕ
bucket_point = record { attributes = x1; exemplars = []; bounds = pos 5 ∷ []; bucket_counts = 1 ∷ 1 ∷ []; count = 2; min = Some 3; max = Some 7; sum = 10 }

abbrev buckets : MetricData ℕ
buckets = data_of.Histogram (record { data_points = bucket_point ∷ []; start_time = 100; time = 200; temporality = Delta; has_sum = true })

pub data_of_histogram : data_by (λ n. n) natural_of Delta Counter (ExplicitBucketHistogram (pos 5 ∷ []) false) 100 200 ((x1, Spreads spread) ∷ []) ≡ buckets
data_of_histogram = refl

-- which sums rise and which histograms keep a sum follows from the kind
pub data_of_kind : (data_by (λ n. n) natural_of Delta UpDownCounter Sum 100 200 seven ≡ sums Delta false (value 7 ∷ []))
    × (data_by (λ n. n) natural_of Delta UpDownCounter (ExplicitBucketHistogram [] false) 100 200 [] ≡ data_of.Histogram (record { data_points = []; start_time = 100; time = 200; temporality = Delta; has_sum = false }))
    × (data_by (λ n. n) natural_of Delta Gauge (ExplicitBucketHistogram [] false) 100 200 [] ≡ data_of.Histogram (record { data_points = []; start_time = 100; time = 200; temporality = Delta; has_sum = true }))
data_of_kind = (refl, refl, refl)

pub exported : (exported_temporality delta (demand Counter Sum) ≡ Delta) × (exported_temporality delta (demand UpDownCounter Sum) ≡ Cumulative) × (exported_temporality cumulative (demand Counter Sum) ≡ Cumulative) × (exported_temporality low_memory (demand Gauge LastValue) ≡ Cumulative)
exported = (refl, refl, refl, refl)

-- 2^64 - 1 is -1 where numbers are signed
abbrev greatest : List Point
greatest = (x1, Total 18446744073709551615) ∷ []

pub of_number_type : (aggregated_metrics false Delta Counter Sum 100 200 greatest ≡ U64 (sums Delta true (value 18446744073709551615 ∷ [])))
    × (aggregated_metrics true Delta Counter Sum 100 200 greatest ≡ I64 (data_of.Sum (record { data_points = record { attributes = x1; exemplars = []; value = negsuc 0 } ∷ []; start_time = 100; time = 200; temporality = Delta; is_monotonic = true })))
of_number_type = (refl, refl)

pub contents : (content_of delta (demand Counter Sum) 100 200 seven ≡ U64 (sums Delta true (value 7 ∷ []))) × (content_of delta (demand UpDownCounter Sum) 100 200 seven ≡ U64 (sums Cumulative false (value 7 ∷ [])))
contents = (refl, refl)

-- the spelling and not the identity's name; differences if the stream shows them
pub metrics : metric delta 200 100 before (demand ObservableCounter Sum) ((x1, Last 8) ∷ []) ≡ record { name = codes "A"; description = codes "d"; unit = codes "u"; content = U64 (sums Delta true (value 3 ∷ [])) }
metrics = refl

-- ======== points ========
pub numbers_in : map points_in (gauges ∷ sums Delta true [] ∷ sums Delta true (value 1 ∷ value 2 ∷ []) ∷ buckets ∷ []) ≡ 1 ∷ 0 ∷ 2 ∷ 1 ∷ []
numbers_in = refl

abbrev signed : AggregatedMetrics
signed = I64 (data_of.Gauge (record { data_points = record { attributes = x1; exemplars = []; value = negsuc 0 } ∷ []; start_time = 100; time = 200 }))

abbrev metric_with : AggregatedMetrics → Metric
metric_with content = record { name = a; description = []; unit = []; content = content }

pub numbers_of_points : map number_of_points (U64 gauges ∷ U64 (sums Delta true []) ∷ signed ∷ []) ≡ 1 ∷ 0 ∷ 1 ∷ []
numbers_of_points = refl

pub with_points : map has_points (metric_with (U64 gauges) ∷ metric_with (U64 (sums Delta true [])) ∷ metric_with signed ∷ []) ≡ true ∷ false ∷ true ∷ []
with_points = refl

-- ======== collections ========
abbrev n : InstrumentationScope
n = scope_named b

abbrev some_metrics : List ScopedMetric
some_metrics = (n, metric_with signed) ∷ (m, metric_with (U64 gauges)) ∷ (n, metric_with (U64 (sums Delta true []))) ∷ (n, metric_with (U64 gauges)) ∷ []

-- those of the scope that have points, in order
pub in_scopes : (in_scope some_metrics n ≡ record { scope = n; metrics = metric_with signed ∷ metric_with (U64 gauges) ∷ [] }) × (in_scope some_metrics (record m { version = Some [] }) ≡ record { scope = record m { version = Some [] }; metrics = [] })
in_scopes = (refl, refl)

pub with_metrics : map has_metrics (record { scope = m; metrics = [] } ∷ record { scope = m; metrics = metric_with signed ∷ [] } ∷ []) ≡ false ∷ true ∷ []
with_metrics = refl

-- scopes that have metrics, in order of their meters
pub collected : collection empty_resource (m ∷ scope_named (codes "quiet") ∷ n ∷ []) some_metrics ≡ record {
  resource = empty_resource;
  scope_metrics = record { scope = m; metrics = metric_with (U64 gauges) ∷ [] } ∷ record { scope = n; metrics = metric_with signed ∷ metric_with (U64 gauges) ∷ [] } ∷ [];
}
collected = refl

pub replies_to_collections : (collect_reply (new_state empty_resource 0 []).shared 200 [] None ≡ Reply.Refused UnknownReader)
    × (collect_reply (new_state empty_resource 0 []).shared 200 [] (Some (new_part delta)) ≡ Reply.Collected (record { resource = empty_resource; scope_metrics = [] }))
replies_to_collections = (refl, refl)

-- ======== what instruments accepted ========
abbrev accepting : ℕ → ℕ → InstrumentState
accepting count sum = record { kind = Counter; signed = false; count = count; sum = sum }

pub accepted_amounts : map (λ σ. accepted_amount σ (accepting 3 50)) (folds.Sum ∷ folds.LastValue ∷ folds.Histogram [] true true ∷ []) ≡ 50 ∷ 0 ∷ 3 ∷ []
accepted_amounts = refl

abbrev counter : Identity
counter = (demand Counter Sum).identity

abbrev other : Identity
other = record counter { name = b }

-- of those that feed the stream, as far as both lists go
pub accepted : (accepted_for folds.Sum counter ((counter ∷ []) ∷ (other ∷ []) ∷ [] ∷ (other ∷ counter ∷ []) ∷ []) (accepting 1 10 ∷ accepting 2 20 ∷ accepting 4 40 ∷ accepting 8 80 ∷ []) ≡ 90)
    × (accepted_for (folds.Histogram [] true true) counter ((counter ∷ []) ∷ (counter ∷ []) ∷ []) (accepting 1 10 ∷ accepting 2 20 ∷ []) ≡ 3)
    × (accepted_for folds.Sum counter ((counter ∷ []) ∷ []) [] ≡ 0)
    × (accepted_for folds.Sum counter [] (accepting 1 10 ∷ []) ≡ 0)
    × (accepted_for folds.Sum counter ((counter ∷ []) ∷ (counter ∷ []) ∷ []) (accepting 1 18446744073709551615 ∷ accepting 1 2 ∷ []) ≡ 18446744073709551617)
accepted = (refl, refl, refl, refl, refl)

-- ======== what collections add up to ========
pub totals_of_data : map (data_total (λ n. n)) (gauges ∷ sums Delta true (value 3 ∷ value 4 ∷ []) ∷ sums Delta true (value 18446744073709551615 ∷ value 4 ∷ []) ∷ buckets ∷ [])
    ≡ 0 ∷ 7 ∷ 3 ∷ 2 ∷ []
totals_of_data = refl

pub total_of_counts : data_total (λ n. n) (data_of.Histogram (record { data_points = record bucket_point { count = 18446744073709551615 } ∷ bucket_point ∷ []; start_time = 100; time = 200; temporality = Delta; has_sum = true })) ≡ 1
total_of_counts = refl

-- signed values count by their bits
abbrev signed_sums : AggregatedMetrics
signed_sums = I64 (data_of.Sum (record { data_points = record { attributes = x1; exemplars = []; value = negsuc 2 } ∷ record { attributes = y1; exemplars = []; value = pos 1 } ∷ []; start_time = 100; time = 200; temporality = Delta; is_monotonic = false }))

pub totals_of_metrics : (map content_total (U64 gauges ∷ U64 (sums Delta true (value 3 ∷ [])) ∷ U64 buckets ∷ signed_sums ∷ []) ≡ 0 ∷ 3 ∷ 2 ∷ 18446744073709551614 ∷ [])
    × (metric_total (metric_with signed_sums) ≡ 18446744073709551614)
totals_of_metrics = (refl, refl)
