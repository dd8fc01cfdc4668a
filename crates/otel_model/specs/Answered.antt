-- The collections that a reader was given (Metrics SDK, "Collect").
use Rattle.std.specs.Prelude.{◌≡◌, ℕ, ◌+◌, ◌≤◌, false, List, ◌∷◌, ◌++◌, length, sum_by}
use Rattle.std.specs.Int.{cast_unsigned, w64}
use Rattle.std.specs.List.{AllZip}
use Rattle.otel_common.specs.declared.resource.Resource.{Resource}
use Rattle.otel_common.specs.declared.scopes.InstrumentationScope.{InstrumentationScope}
use Rattle.otel_data.specs.declared.aggregated.AggregatedMetrics.{AggregatedMetrics}
use Rattle.otel_data.specs.declared.aggregated.MetricData.{MetricData}
use Rattle.otel_data.specs.declared.collections.Metric.{Metric}
use Rattle.otel_data.specs.declared.collections.ResourceMetrics.{ResourceMetrics}
use Rattle.otel_model_stream.specs.Folds.{wrap}
use Rattle.otel_model_stream.specs.Totals.{recorded_total, points_total}
use Rattle.otel_model.specs.Calls.{Observed, Call, Collect, Reply}
use Rattle.otel_model.specs.Collections.{ScopedMetric, number_of_points, collection}
use Rattle.otel_model.specs.Demands.{Demand, ReaderAnswers, Views}
use Rattle.otel_model.specs.Streams.{is_drained, is_delta, aggregate_of}
use Rattle.otel_model.specs.Sent.{observed_events}
use Rattle.otel_model.specs.History.{made_calls, meters_in, builds_in, streams_of, feeds_by, history, points_with}

-- ======== totals of points ========
-- what the points of a metric add up to, modulo 2^64: the bits of the values for a sum, the counts for a histogram,
-- nothing for a gauge
abbrev pub data_total : {T : Type 0} → (T → ℕ) → MetricData T → ℕ
data_total bits (MetricData.Gauge gauge) = 0
data_total bits (MetricData.Sum sum) = wrap (sum_by (λ p. bits p.value) sum.data_points)
data_total bits (MetricData.Histogram histogram) = wrap (sum_by (λ p. p.count) histogram.data_points)

-- the same for either number type
abbrev pub content_total : AggregatedMetrics → ℕ
content_total (AggregatedMetrics.U64 points) = data_total (λ n. n) points
content_total (AggregatedMetrics.I64 points) = data_total (cast_unsigned w64) points

-- what the points of a metric add up to
abbrev pub metric_total : Metric → ℕ
metric_total m = content_total m.content

-- ======== the collections that a reader was given ========
-- a statement about a collection, given the calls made before it, its time, its observations and its result
abbrev pub OfCollection : Type 1
OfCollection = List Call → ℕ → List Observed → ResourceMetrics → Type 0

-- the statement holds of each collection that reader r was given
abbrev pub OfEachCollection : OfCollection → ℕ → List Call → List Reply → Type 0
OfEachCollection P r calls replies = (earlier later : List Call) (answered rest : List Reply) (now : ℕ) (os : List Observed) (c : ResourceMetrics)
    → calls ≡ earlier ++ Collect r now os ∷ later → replies ≡ answered ++ Reply.Collected c ∷ rest → length answered ≡ length earlier
    → P (made_calls earlier answered) now os c

-- the metric has the scope, name, description and unit of the demanded stream, and P holds of both
pub record IsMetricOf (P : Demand → Metric → Type 0) (d : Demand) (m : ScopedMetric) : Type 0 where
  pub scope : m.0 ≡ d.identity.scope
  pub name : m.1.name ≡ d.spelling
  pub description : m.1.description ≡ d.identity.description
  pub unit : m.1.unit ≡ d.identity.unit
  pub holds : P d m.1

-- there is a metric for each of these streams, of which P holds, and the collection is made of those that have points
abbrev pub HasMetrics : (Demand → Metric → Type 0) → Resource → List InstrumentationScope → List Demand → ResourceMetrics → Type 0
HasMetrics P resource meters streams c = (ms : List ScopedMetric) × AllZip (IsMetricOf P) streams ms × (c ≡ collection resource meters ms)

-- a statement about a stream and its metric, given the calls made before the collection and the observations
abbrev pub OfMetric : Type 1
OfMetric = List Call → List Observed → Demand → Metric → Type 0

-- in each collection that reader r was given the statement holds of the metric of each stream that it had by then
abbrev pub OfEachMetric : (Views → ReaderAnswers → ℕ → OfMetric) → Views → Resource → ℕ → List Call → List Reply → ℕ → ReaderAnswers → Type 0
OfEachMetric P views resource identity calls replies r answers =
    OfEachCollection (λ before now os c. HasMetrics (P views answers r before os) resource (meters_in before) (streams_of views answers (builds_in before)) c) r calls replies

-- ======== what is said of them ========
-- the metric has at most two points more than the limit of its stream
abbrev pub HasFewPoints : Views → ReaderAnswers → ℕ → OfMetric
HasFewPoints views answers r before os d m = number_of_points m.content ≤ d.limit + 2

-- unless the stream is drained, the points of its metric add up to those of its window with the observations, modulo
-- 2^64
abbrev pub ShowsWindow : Views → ReaderAnswers → ℕ → OfMetric
ShowsWindow views answers r before os d m = is_drained d ≡ false → metric_total m ≡ wrap (points_total (points_with views answers r d before os))

-- unless the stream is drained or delta, the points of its metric add up to all that was recorded before the collection
-- and by its observations, modulo 2^64
abbrev pub ShowsAll : Views → ReaderAnswers → ℕ → OfMetric
ShowsAll views answers r before os d m = is_drained d ≡ false → is_delta answers d ≡ false
    → metric_total m ≡ wrap (recorded_total (aggregate_of d) (history views answers r d before ++ observed_events (feeds_by views answers before) d os))
