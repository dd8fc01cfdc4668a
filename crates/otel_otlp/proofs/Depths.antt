-- A request nests 16 levels deep at most, so a reader of 128 levels reads it.
use Rattle.std.proofs.Common.{◌≡◌, ℕ, suc, ◌^◌, ◌≤◌, ◌∙◌, ap, sym, append-nil, option_and_then, ℤ, pos, negsuc, Bool, true, false, List, [], ◌∷◌, map, Option, Some, None, nat_lt, cond, codes, arith}
use Rattle.std.specs.Option.{option_map}
use Rattle.json.specs.Json.{Json, string, Members, no_members, member, value, if_last, max_depth, document}
use Rattle.json.specs.Lex.{tokens}
use Rattle.json.specs.Tree.{json_tokens, depth, items_depth, members_depth}
use Rattle.json.proofs.Printed.Trees.{value-json_tokens}
use Rattle.otel_common.specs.declared.attributes.Array.{Array}
use Rattle.otel_common.specs.declared.attributes.Array.TheVariants as arrays
use Rattle.otel_common.specs.declared.attributes.KeyValue.{KeyValue}
use Rattle.otel_common.specs.declared.attributes.Value.{Value}
use Rattle.otel_common.specs.declared.attributes.Value.TheVariants as values
use Rattle.otel_common.specs.declared.metrics.Temporality.{Temporality}
use Rattle.otel_common.specs.declared.metrics.Temporality.TheVariants.{Cumulative, Delta, LowMemory}
use Rattle.otel_common.specs.declared.scopes.InstrumentationScope.{InstrumentationScope}
use Rattle.otel_data.specs.declared.aggregated.AggregatedMetrics.{AggregatedMetrics}
use Rattle.otel_data.specs.declared.aggregated.AggregatedMetrics.TheVariants as number_types
use Rattle.otel_data.specs.declared.aggregated.MetricData.{MetricData}
use Rattle.otel_data.specs.declared.aggregated.MetricData.TheVariants as kinds
use Rattle.otel_data.specs.declared.collections.Metric.{Metric}
use Rattle.otel_data.specs.declared.collections.ResourceMetrics.{ResourceMetrics}
use Rattle.otel_data.specs.declared.collections.ScopeMetrics.{ScopeMetrics}
use Rattle.otel_data.specs.declared.points.HistogramDataPoint.{HistogramDataPoint}
use Rattle.otel_otlp.specs.Arrays.{items_from, array_of, optional}
use Rattle.otel_otlp.specs.Attributes.{bool_json, integer_json, string_json, items_json, value_json, attribute_json, attributes_json}
use Rattle.otel_otlp.specs.Numbers.{quoted, whole, value_member}
use Rattle.otel_otlp.specs.Points.{temporality_json, number_point_json, gauge_point_json, sum_point_json, histogram_point_json, kept_sum, buckets, extremes, data_members}
use Rattle.otel_otlp.specs.Requests.{points_members, metric_json, scope_json, scope_metrics_json, resource_metrics_json, request_of}

items_within : {A : Type 0} (f : A → Json) (k : ℕ) → ((x : A) → depth (f x) ≤ k) → (xs : List A) → items_depth (items_from (map f xs)) ≤ k
items_within f k h [] = omega arith
items_within f k h (x ∷ xs) = omega (arith, h x, items_within f k h xs)

array_within : {A : Type 0} (f : A → Json) (k : ℕ) → ((x : A) → depth (f x) ≤ k) → (xs : List A) → depth (array_of f xs) ≤ suc k
array_within f k h xs = omega (arith, items_within f k h xs)

-- ======== attributes ========
items_json_within : (a : Array) → depth (items_json a) ≤ 2
items_json_within (arrays.Bool bs) = array_within bool_json 1 (λ b. omega arith) bs
items_json_within (arrays.I64 zs) = array_within integer_json 1 (λ z. omega arith) zs
items_json_within (arrays.String ss) = array_within string_json 1 (λ s. omega arith) ss

value_within : (v : Value) → depth (value_json v) ≤ 4
value_within (values.Bool b) = omega arith
value_within (values.I64 z) = omega arith
value_within (values.String s) = omega arith
value_within (values.Array a) = omega (arith, items_json_within a)

attributes_within : (ps : List KeyValue) → depth (attributes_json ps) ≤ 6
attributes_within ps = array_within attribute_json 5 (λ p. omega (arith, value_within p.value)) ps

-- ======== points ========
value_member_within : (z : ℤ) (rest : Members) (k : ℕ) → members_depth rest ≤ k → members_depth (value_member z rest) ≤ k
value_member_within (pos n) rest k h = go (nat_lt n (2 ^ 63))
  where
    go : (b : Bool) → members_depth (cond b (member (codes "asInt") (quoted n) rest) (member (codes "asDouble") (whole (pos n)) rest)) ≤ k
    go true = omega arith
    go false = omega arith
value_member_within (negsuc n) rest k h = omega arith

-- a number or nothing adds no level
optional_within : {A : Type 0} (f : A → Json) → ((x : A) → depth (f x) ≤ 0) → (name : List ℕ) (o : Option A) (rest : Members) (k : ℕ) → members_depth rest ≤ k → members_depth (optional name (option_map f o) rest) ≤ k
optional_within f e name None rest k h = h
optional_within f e name (Some x) rest k h = omega (arith, e x)

temporality_within : (t : Temporality) → depth (temporality_json t) ≤ 0
temporality_within Cumulative = omega arith
temporality_within Delta = omega arith
temporality_within LowMemory = omega arith

module _ {T : Type 0} (integer : T → ℤ) where
  number_point_within : (start time : ℕ) (attributes : List KeyValue) (value : T) → depth (number_point_json integer start time attributes value) ≤ 7
  number_point_within start time attributes value = omega (arith, attributes_within attributes, value_member_within (integer value) no_members 0 (omega arith))

  spread_within : (p : HistogramDataPoint T) → members_depth (buckets p.bucket_counts p.bounds (extremes (option_map integer p.min) (option_map integer p.max) no_members)) ≤ 1
  spread_within p =
      omega (
        arith,
        array_within quoted 0 (λ n. omega arith) p.bucket_counts,
        array_within whole 0 (λ z. omega arith) p.bounds,
        optional_within whole (λ m. omega arith) (codes "min") (option_map integer p.min)
            (optional (codes "max") (option_map whole (option_map integer p.max)) no_members) 0
            (optional_within whole (λ m. omega arith) (codes "max") (option_map integer p.max) no_members 0 (omega arith)),
      )

  histogram_point_within : (has_sum : Bool) (start time : ℕ) (p : HistogramDataPoint T) → depth (histogram_point_json integer has_sum start time p) ≤ 7
  histogram_point_within has_sum start time p =
      omega (
        arith,
        attributes_within p.attributes,
        optional_within whole (λ m. omega arith) (codes "sum") (kept_sum has_sum (integer p.sum)) (buckets p.bucket_counts p.bounds (extremes (option_map integer p.min) (option_map integer p.max) no_members)) 1 (spread_within p),
      )

  data_within : (points : MetricData T) → members_depth (data_members integer points) ≤ 9
  data_within (kinds.Gauge g) = omega (arith, array_within (gauge_point_json integer g.start_time g.time) 7 (λ p. number_point_within g.start_time g.time p.attributes p.value) g.data_points)
  data_within (kinds.Sum s) =
      omega (arith, temporality_within s.temporality, array_within (sum_point_json integer s.start_time s.time) 7 (λ p. number_point_within s.start_time s.time p.attributes p.value) s.data_points)
  data_within (kinds.Histogram h) =
      omega (arith, temporality_within h.temporality, array_within (histogram_point_json integer h.has_sum h.start_time h.time) 7 (histogram_point_within h.has_sum h.start_time h.time) h.data_points)

-- ======== requests ========
points_within : (d : AggregatedMetrics) → members_depth (points_members d) ≤ 9
points_within (number_types.U64 points) = data_within pos points
points_within (number_types.I64 points) = data_within (λ z. z) points

metric_within : (m : Metric) → depth (metric_json m) ≤ 10
metric_within m = omega (arith, points_within m.content)

scope_within : (s : InstrumentationScope) → depth (scope_json s) ≤ 7
scope_within s =
    omega (
      arith,
      optional_within string (λ t. omega arith) (codes "version") s.version (member (codes "attributes") (attributes_json s.attributes) no_members) 6
          (omega (arith, attributes_within s.attributes)),
    )

scope_metrics_within : (s : ScopeMetrics) → depth (scope_metrics_json s) ≤ 12
scope_metrics_within s =
    omega (
      arith,
      scope_within s.scope,
      array_within metric_json 10 metric_within s.metrics,
      optional_within string (λ t. omega arith) (codes "schemaUrl") s.scope.schema_url no_members 0 (omega arith),
    )

resource_metrics_within : (c : ResourceMetrics) → depth (resource_metrics_json c) ≤ 14
resource_metrics_within c =
    omega (
      arith,
      attributes_within c.resource.attributes,
      array_within scope_metrics_json 12 scope_metrics_within c.scope_metrics,
      optional_within string (λ t. omega arith) (codes "schemaUrl") c.resource.schema_url no_members 0 (omega arith),
    )

pub request_within : (c : ResourceMetrics) → depth (request_of c) ≤ 16
request_within c = omega (arith, resource_metrics_within c)

-- what reads as the tokens of a request is the request
pub document_is : (c : ResourceMetrics) (text : List ℕ) → tokens text ≡ json_tokens (request_of c) → document text ≡ Some (request_of c)
document_is c text e =
    ap (option_and_then (λ p. if_last p.0 p.1))
    (ap (value max_depth) (e ∙ sym (append-nil (json_tokens (request_of c))))
    ∙ value-json_tokens (request_of c) max_depth [] (omega (arith, request_within c)))
