-- What a request says of a collection. Numbers are integers, whatever their type: the protocol does not tell an unsigned
-- integer from a signed one. An array is a list of values: an empty one has no type.
use Rattle.std.specs.Prelude.{ℕ, ℤ, pos, List, Bool, cond, Option, Some, None, map}
use Rattle.std.specs.Option.{option_map}
use Rattle.otel_common.specs.declared.attributes.Array.{Array}
use Rattle.otel_common.specs.declared.attributes.Array.TheVariants as arrays
use Rattle.otel_common.specs.declared.attributes.KeyValue.{KeyValue}
use Rattle.otel_common.specs.declared.attributes.Value.{Value}
use Rattle.otel_common.specs.declared.attributes.Value.TheVariants as values
use Rattle.otel_common.specs.declared.metrics.Temporality.{Temporality}
use Rattle.otel_data.specs.declared.aggregated.AggregatedMetrics.{AggregatedMetrics}
use Rattle.otel_data.specs.declared.aggregated.AggregatedMetrics.TheVariants as number_types
use Rattle.otel_data.specs.declared.aggregated.MetricData.{MetricData}
use Rattle.otel_data.specs.declared.aggregated.MetricData.TheVariants as aggregations
use Rattle.otel_data.specs.declared.collections.Metric.{Metric}
use Rattle.otel_data.specs.declared.collections.ResourceMetrics.{ResourceMetrics}
use Rattle.otel_data.specs.declared.collections.ScopeMetrics.{ScopeMetrics}
use Rattle.otel_data.specs.declared.points.GaugeDataPoint.{GaugeDataPoint}
use Rattle.otel_data.specs.declared.points.HistogramDataPoint.{HistogramDataPoint}
use Rattle.otel_data.specs.declared.points.SumDataPoint.{SumDataPoint}

pub data Scalar : Type 0 where
  truth : Bool → Scalar
  integer : ℤ → Scalar
  text : List ℕ → Scalar

pub data Content : Type 0 where
  scalar : Scalar → Content
  list : List Scalar → Content

pub record Attribute : Type 0 where
  pub key : List ℕ
  pub content : Content

-- moments are in nanoseconds since 1970
pub record NumberPoint : Type 0 where
  pub attributes : List Attribute
  pub start : ℕ
  pub time : ℕ
  pub amount : ℤ

pub record SpreadPoint : Type 0 where
  pub attributes : List Attribute
  pub start : ℕ
  pub time : ℕ
  pub count : ℕ
  pub sum : Option ℤ
  pub counts : List ℕ
  pub bounds : List ℤ
  pub min : Option ℤ
  pub max : Option ℤ

pub data Points : Type 0 where
  gauge : List NumberPoint → Points
  sum : List NumberPoint → Temporality → Bool → Points
  histogram : List SpreadPoint → Temporality → Points

pub record MetricSaid : Type 0 where
  pub name : List ℕ
  pub description : List ℕ
  pub unit : List ℕ
  pub points : Points

pub record ScopeSaid : Type 0 where
  pub name : List ℕ
  pub version : Option (List ℕ)
  pub attributes : List Attribute
  pub metrics : List MetricSaid
  pub schema_url : Option (List ℕ)

pub record Collection : Type 0 where
  pub attributes : List Attribute
  pub scopes : List ScopeSaid
  pub schema_url : Option (List ℕ)

-- ======== what a collection has ========
abbrev pub scalars_of : Array → List Scalar
scalars_of (arrays.Bool bs) = map truth bs
scalars_of (arrays.I64 zs) = map integer zs
scalars_of (arrays.String ss) = map text ss

abbrev pub content_of : Value → Content
content_of (values.Bool b) = scalar (truth b)
content_of (values.I64 z) = scalar (integer z)
content_of (values.String s) = scalar (text s)
content_of (values.Array a) = list (scalars_of a)

abbrev pub attribute_of : KeyValue → Attribute
attribute_of p = record { key = p.key; content = content_of p.value }

abbrev pub attributes_of : List KeyValue → List Attribute
attributes_of ps = map attribute_of ps

module _ {T : Type 0} (whole : T → ℤ) where
  abbrev pub gauge_point : ℕ → ℕ → GaugeDataPoint T → NumberPoint
  gauge_point start time p = record { attributes = attributes_of p.attributes; start = start; time = time; amount = whole p.value }

  abbrev pub sum_point : ℕ → ℕ → SumDataPoint T → NumberPoint
  sum_point start time p = record { attributes = attributes_of p.attributes; start = start; time = time; amount = whole p.value }

  -- the sum is said where it is kept
  abbrev pub spread_point : Bool → ℕ → ℕ → HistogramDataPoint T → SpreadPoint
  spread_point has_sum start time p = record {
    attributes = attributes_of p.attributes;
    start = start;
    time = time;
    count = p.count;
    sum = cond has_sum (Some (whole p.sum)) None;
    counts = p.bucket_counts;
    bounds = p.bounds;
    min = option_map whole p.min;
    max = option_map whole p.max;
  }

  abbrev pub data_points : MetricData T → Points
  data_points (aggregations.Gauge g) = gauge (map (gauge_point g.start_time g.time) g.data_points)
  data_points (aggregations.Sum s) = sum (map (sum_point s.start_time s.time) s.data_points) s.temporality s.is_monotonic
  data_points (aggregations.Histogram h) = histogram (map (spread_point h.has_sum h.start_time h.time) h.data_points) h.temporality

abbrev pub points_of : AggregatedMetrics → Points
points_of (number_types.U64 d) = data_points pos d
points_of (number_types.I64 d) = data_points (λ z. z) d

abbrev pub metric_of : Metric → MetricSaid
metric_of m = record { name = m.name; description = m.description; unit = m.unit; points = points_of m.content }

abbrev pub scope_of : ScopeMetrics → ScopeSaid
scope_of s = record {
  name = s.scope.name;
  version = s.scope.version;
  attributes = attributes_of s.scope.attributes;
  metrics = map metric_of s.metrics;
  schema_url = s.scope.schema_url;
}

abbrev pub shown : ResourceMetrics → Collection
shown c = record {
  attributes = attributes_of c.resource.attributes;
  scopes = map scope_of c.scope_metrics;
  schema_url = c.resource.schema_url;
}
