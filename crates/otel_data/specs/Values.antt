-- Values and counts of a collection, by scope, metric and attributes.
use Rattle.std.specs.Prelude.{ℕ, ℤ, ◌&&◌, Bool, false, List, Option, Some, None}
use Rattle.std.specs.List.{find, list_all, list_any}
use Rattle.std.specs.Option.{option_and_then, option_map}
use Rattle.otel_common.specs.Equality.{bytes_eq, key_value_eq}
use Rattle.otel_common.specs.declared.attributes.KeyValue.{KeyValue}
use Rattle.otel_data.specs.declared.aggregated.AggregatedMetrics.{AggregatedMetrics}
use Rattle.otel_data.specs.declared.aggregated.AggregatedMetrics.TheVariants as numbers
use Rattle.otel_data.specs.declared.aggregated.MetricData.{MetricData}
use Rattle.otel_data.specs.declared.aggregated.MetricData.TheVariants as points
use Rattle.otel_data.specs.declared.collections.Metric.{Metric}
use Rattle.otel_data.specs.declared.collections.ResourceMetrics.{ResourceMetrics}
use Rattle.otel_data.specs.declared.gauges.Gauge.{Gauge}
use Rattle.otel_data.specs.declared.histograms.Histogram.{Histogram}
use Rattle.otel_data.specs.declared.numbers.NumberValue.{NumberValue}
use Rattle.otel_data.specs.declared.numbers.NumberValue.TheVariants.{U64, I64}
use Rattle.otel_data.specs.declared.sums.Sum.{Sum}

-- the points by number type: those of `u64`, or else those of `i64`
abbrev pub parts_of : AggregatedMetrics → Option (MetricData ℕ) × Option (MetricData ℤ)
parts_of (numbers.U64 content) = (Some content, None)
parts_of (numbers.I64 content) = (None, Some content)

-- the points by aggregation: a gauge, or else a sum, or else a histogram
abbrev pub kinds_of : {T : Type 0} → MetricData T → Option (Gauge T) × Option (Sum T) × Option (Histogram T)
kinds_of (points.Gauge gauge) = (Some gauge, None, None)
kinds_of (points.Sum sum) = (None, Some sum, None)
kinds_of (points.Histogram histogram) = (None, None, Some histogram)

-- whether there is an attribute, this one
abbrev pub is_this : KeyValue → Option KeyValue → Bool
is_this own None = false
is_this own (Some given) = key_value_eq given own

-- whether this attribute is the first of its key among these
abbrev pub is_first : List KeyValue → KeyValue → Bool
is_first attributes own = is_this own (find (λ given. bytes_eq given.key own.key) attributes)

abbrev pub has_key : List KeyValue → List ℕ → Bool
has_key attributes key = list_any (λ own. bytes_eq own.key key) attributes

-- whether these attributes are a point's set: each of the point's is the first of its key here, and no other key is here
abbrev pub is_set : List KeyValue → List KeyValue → Bool
is_set attributes set = list_all (is_first attributes) set && list_all (λ given. has_key set given.key) attributes

-- the value of the first point with this set of attributes; a histogram has none
abbrev pub value_in : {T : Type 0} → List KeyValue → MetricData T → Option T
value_in attributes (points.Sum sum) = option_map (λ point. point.value) (find (λ point. is_set attributes point.attributes) sum.data_points)
value_in attributes (points.Gauge gauge) = option_map (λ point. point.value) (find (λ point. is_set attributes point.attributes) gauge.data_points)
value_in attributes (points.Histogram histogram) = None

-- the count of the first point with this set of attributes; only a histogram has one
abbrev pub count_in : {T : Type 0} → List KeyValue → MetricData T → Option ℕ
count_in attributes (points.Histogram histogram) = option_map (λ point. point.count) (find (λ point. is_set attributes point.attributes) histogram.data_points)
count_in attributes _ = None

-- the same of either number type
abbrev pub number_in : List KeyValue → AggregatedMetrics → Option NumberValue
number_in attributes (numbers.U64 content) = option_map U64 (value_in attributes content)
number_in attributes (numbers.I64 content) = option_map I64 (value_in attributes content)

abbrev pub any_count_in : List KeyValue → AggregatedMetrics → Option ℕ
any_count_in attributes (numbers.U64 content) = count_in attributes content
any_count_in attributes (numbers.I64 content) = count_in attributes content

-- the first metric of this name in the first scope of that name
abbrev pub metric_in : ResourceMetrics → List ℕ → List ℕ → Option Metric
metric_in collected scope name =
    option_and_then (λ metrics. find (λ metric. bytes_eq metric.name name) metrics.metrics)
    (find (λ metrics. bytes_eq metrics.scope.name scope) collected.scope_metrics)

abbrev pub value_at : ResourceMetrics → List ℕ → List ℕ → List KeyValue → Option NumberValue
value_at collected scope name attributes = option_and_then (λ metric. number_in attributes metric.content) (metric_in collected scope name)

abbrev pub count_at : ResourceMetrics → List ℕ → List ℕ → List KeyValue → Option ℕ
count_at collected scope name attributes = option_and_then (λ metric. any_count_in attributes metric.content) (metric_in collected scope name)
