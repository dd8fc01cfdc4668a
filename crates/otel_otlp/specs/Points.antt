-- The points of a metric as OTLP in JSON.
use Rattle.std.specs.Prelude.{ℕ, ℤ, pos, Bool, true, false, List, Option, Some, None, codes}
use Rattle.std.specs.Option.{option_map}
use Rattle.json.specs.Json.{Json, boolean, object, Members, no_members, member}
use Rattle.otel_common.specs.declared.attributes.KeyValue.{KeyValue}
use Rattle.otel_common.specs.declared.metrics.Temporality.{Temporality}
use Rattle.otel_common.specs.declared.metrics.Temporality.TheVariants.{Cumulative, Delta, LowMemory}
use Rattle.otel_data.specs.declared.aggregated.MetricData.{MetricData}
use Rattle.otel_data.specs.declared.aggregated.MetricData.TheVariants as kinds
use Rattle.otel_data.specs.declared.gauges.Gauge.{Gauge}
use Rattle.otel_data.specs.declared.histograms.Histogram.{Histogram}
use Rattle.otel_data.specs.declared.points.GaugeDataPoint.{GaugeDataPoint}
use Rattle.otel_data.specs.declared.points.HistogramDataPoint.{HistogramDataPoint}
use Rattle.otel_data.specs.declared.points.SumDataPoint.{SumDataPoint}
use Rattle.otel_data.specs.declared.sums.Sum.{Sum}
use Rattle.otel_otlp.specs.Arrays.{array_of, optional}
use Rattle.otel_otlp.specs.Attributes.{attributes_json}
use Rattle.otel_otlp.specs.Numbers.{quoted, whole, value_member}

-- AGGREGATION_TEMPORALITY_DELTA is 1 and AGGREGATION_TEMPORALITY_CUMULATIVE 2. No point has the other one.
abbrev pub temporality_json : Temporality → Json
temporality_json Cumulative = whole (pos 2)
temporality_json Delta = whole (pos 1)
temporality_json LowMemory = whole (pos 0)

-- the moments of a point, in nanoseconds since 1970
abbrev pub moments : ℕ → ℕ → Members → Members
moments start time rest = member (codes "startTimeUnixNano") (quoted start) (member (codes "timeUnixNano") (quoted time) rest)

-- what each point begins with
abbrev pub point_members : List KeyValue → ℕ → ℕ → Members → Members
point_members attributes start time rest = member (codes "attributes") (attributes_json attributes) (moments start time rest)

-- the sum of a point, if sums are kept
abbrev pub kept_sum : Bool → ℤ → Option ℤ
kept_sum false sum = None
kept_sum true sum = Some sum

-- how many values a histogram has, and their sum, where it is kept
abbrev pub totals : ℕ → Option ℤ → Members → Members
totals count sum rest = member (codes "count") (quoted count) (optional (codes "sum") (option_map whole sum) rest)

-- the buckets of a histogram
abbrev pub buckets : List ℕ → List ℤ → Members → Members
buckets counts bounds rest = member (codes "bucketCounts") (array_of quoted counts) (member (codes "explicitBounds") (array_of whole bounds) rest)

-- the least and the greatest value, where they are known
abbrev pub extremes : Option ℤ → Option ℤ → Members → Members
extremes min max rest = optional (codes "min") (option_map whole min) (optional (codes "max") (option_map whole max) rest)

module _ {T : Type 0} (integer : T → ℤ) where
  abbrev pub number_point_json : ℕ → ℕ → List KeyValue → T → Json
  number_point_json start time attributes value = object (point_members attributes start time (value_member (integer value) no_members))

  abbrev pub gauge_point_json : ℕ → ℕ → GaugeDataPoint T → Json
  gauge_point_json start time p = number_point_json start time p.attributes p.value

  abbrev pub sum_point_json : ℕ → ℕ → SumDataPoint T → Json
  sum_point_json start time p = number_point_json start time p.attributes p.value

  abbrev pub histogram_point_json : Bool → ℕ → ℕ → HistogramDataPoint T → Json
  histogram_point_json has_sum start time p =
      object (point_members p.attributes start time
      (totals p.count (kept_sum has_sum (integer p.sum))
      (buckets p.bucket_counts p.bounds
      (extremes (option_map integer p.min) (option_map integer p.max) no_members))))

  abbrev pub gauge_json : Gauge T → Json
  gauge_json g = object (member (codes "dataPoints") (array_of (gauge_point_json g.start_time g.time) g.data_points) no_members)

  abbrev pub sum_json : Sum T → Json
  sum_json s =
      object (member (codes "dataPoints") (array_of (sum_point_json s.start_time s.time) s.data_points)
      (member (codes "aggregationTemporality") (temporality_json s.temporality)
      (member (codes "isMonotonic") (boolean s.is_monotonic) no_members)))

  abbrev pub histogram_json : Histogram T → Json
  histogram_json h =
      object (member (codes "dataPoints") (array_of (histogram_point_json h.has_sum h.start_time h.time) h.data_points)
      (member (codes "aggregationTemporality") (temporality_json h.temporality) no_members))

  -- the points under the name of their aggregation
  abbrev pub data_members : MetricData T → Members
  data_members (kinds.Gauge g) = member (codes "gauge") (gauge_json g) no_members
  data_members (kinds.Sum s) = member (codes "sum") (sum_json s) no_members
  data_members (kinds.Histogram h) = member (codes "histogram") (histogram_json h) no_members
