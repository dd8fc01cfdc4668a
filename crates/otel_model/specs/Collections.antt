-- What a collection contains (Metrics SDK, "MetricReader" and "Metric points" of the data model).
use Rattle.std.specs.Prelude.{ℕ, nat_lt, ℤ, Bool, true, false, cond, ◌&&◌, List, map, filter, length}
use Rattle.otel_common.specs.Scopes.{scope_eq}
use Rattle.otel_common.specs.declared.metrics.Temporality.{Temporality}
use Rattle.otel_common.specs.declared.metrics.Temporality.TheVariants.{Cumulative, Delta}
use Rattle.otel_common.specs.declared.resource.Resource.{Resource}
use Rattle.otel_common.specs.declared.scopes.InstrumentationScope.{InstrumentationScope}
use Rattle.otel_data.specs.declared.aggregated.AggregatedMetrics.{AggregatedMetrics}
use Rattle.otel_data.specs.declared.aggregated.MetricData.{MetricData}
use Rattle.otel_data.specs.declared.collections.Metric.{Metric}
use Rattle.otel_data.specs.declared.collections.ResourceMetrics.{ResourceMetrics}
use Rattle.otel_data.specs.declared.collections.ScopeMetrics.{ScopeMetrics}
use Rattle.otel_model_stream.specs.Events.{Point}
pub use Rattle.otel_model_stream.specs.Observed.{value_before, less, difference}
pub use Rattle.otel_model_stream.specs.Data.{value_of, spread_of, natural_of, signed_of, gauge_point, sum_point, histogram_point, gauge_of, sum_of, histogram_of}
use Rattle.otel_model.specs.Calls.{InstrumentKind}
use Rattle.otel_model.specs.Demands.{Aggregation, ReaderAnswers, Demand}
use Rattle.otel_model.specs.Streams.{is_drained, is_delta, has_sum, is_monotonic_kind}

-- ======== differences ========
-- whether a stream shows differences: an observed sum in a delta stream shows what was added since the last collection
abbrev pub shows_differences : ReaderAnswers → Demand → Bool
shows_differences answers d = is_drained d && is_delta answers d

-- the points of a stream, as differences from the points `before` if the stream shows differences
abbrev pub differences : ReaderAnswers → Demand → List Point → List Point → List Point
differences answers d before ps = cond (shows_differences answers d) (map (difference before) ps) ps

-- ======== points ========
-- the points of a metric, with numbers of one type
module _ {T : Type 0} (of_bits : ℕ → T) (of_whole : ℤ → T) where
  -- the data of an instrument of this kind in the form of the aggregation. `Drop` and `Default`, which make no stream,
  -- count as sums
  abbrev pub data_by : Temporality → InstrumentKind → Aggregation → ℕ → ℕ → List Point → MetricData T
  data_by temporality kind Aggregation.Drop start now ps = sum_of of_bits of_whole temporality (is_monotonic_kind kind) start now ps
  data_by temporality kind Aggregation.Default start now ps = sum_of of_bits of_whole temporality (is_monotonic_kind kind) start now ps
  data_by temporality kind Aggregation.Sum start now ps = sum_of of_bits of_whole temporality (is_monotonic_kind kind) start now ps
  data_by temporality kind Aggregation.LastValue start now ps = gauge_of of_bits of_whole start now ps
  data_by temporality kind (Aggregation.ExplicitBucketHistogram bounds m) start now ps = histogram_of of_bits of_whole temporality bounds (has_sum kind) start now ps

-- ======== metrics ========
-- the aggregation temporality that a collection reports for a stream
abbrev pub exported_temporality : ReaderAnswers → Demand → Temporality
exported_temporality answers d = cond (is_delta answers d) Delta Cumulative

-- the points of a stream, with numbers of its type: `i64` if signed, otherwise `u64`
abbrev pub aggregated_metrics : Bool → Temporality → InstrumentKind → Aggregation → ℕ → ℕ → List Point → AggregatedMetrics
aggregated_metrics false temporality kind a start now ps = AggregatedMetrics.U64 (data_by (λ n. n) natural_of temporality kind a start now ps)
aggregated_metrics true temporality kind a start now ps = AggregatedMetrics.I64 (data_by signed_of (λ z. z) temporality kind a start now ps)

-- the data of the stream of a demand
abbrev pub content_of : ReaderAnswers → Demand → ℕ → ℕ → List Point → AggregatedMetrics
content_of answers d start now ps = aggregated_metrics d.identity.signed (exported_temporality answers d) d.identity.kind d.aggregation start now ps

-- the metric of a stream: its name as spelled by the demand, the description and unit of its identity, and its points
-- with their start and time, as differences from the points `before` if the stream shows differences
abbrev pub metric : ReaderAnswers → ℕ → ℕ → List Point → Demand → List Point → Metric
metric answers now start before d ps = record {
  name = d.spelling;
  description = d.identity.description;
  unit = d.identity.unit;
  content = content_of answers d start now (differences answers d before ps);
}

-- the number of data points
abbrev pub points_in : {T : Type 0} → MetricData T → ℕ
points_in (MetricData.Gauge gauge) = length gauge.data_points
points_in (MetricData.Sum sum) = length sum.data_points
points_in (MetricData.Histogram histogram) = length histogram.data_points

-- the number of data points, of either number type
abbrev pub number_of_points : AggregatedMetrics → ℕ
number_of_points (AggregatedMetrics.U64 points) = points_in points
number_of_points (AggregatedMetrics.I64 points) = points_in points

-- whether a metric has data points
abbrev pub has_points : Metric → Bool
has_points m = nat_lt 0 (number_of_points m.content)

-- ======== collections ========
-- a metric with the scope that it belongs to
abbrev pub ScopedMetric : Type 0
ScopedMetric = InstrumentationScope × Metric

-- a scope with those of its metrics that have points
abbrev pub in_scope : List ScopedMetric → InstrumentationScope → ScopeMetrics
in_scope ms scope = record { scope = scope; metrics = map (λ (m : ScopedMetric). m.1) (filter (λ (m : ScopedMetric). scope_eq m.0 scope && has_points m.1) ms) }

-- whether a scope has metrics
abbrev pub has_metrics : ScopeMetrics → Bool
has_metrics s = nat_lt 0 (length s.metrics)

-- a collection: the resource, and the scopes that have metrics, in the order of their meters
abbrev pub collection : Resource → List InstrumentationScope → List ScopedMetric → ResourceMetrics
collection resource meters ms = record { resource = resource; scope_metrics = filter has_metrics (map (in_scope ms) meters) }
