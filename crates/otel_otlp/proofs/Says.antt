-- A request says the whole collection.
use Rattle.std.proofs.Common.{◌≡◌, ℕ, ◌^◌, ℤ, pos, negsuc, Bool, true, false, cond, List, [], ◌∷◌, map, nat_lt, refl, ap, codes, Option, Some, None, option_map, option_and_then}
use Rattle.json.specs.Json.{Json, string, Members, no_members, member}
use Rattle.otel_common.specs.declared.attributes.Array.{Array}
use Rattle.otel_common.specs.declared.attributes.Array.TheVariants as arrays
use Rattle.otel_common.specs.declared.attributes.KeyValue.{KeyValue}
use Rattle.otel_common.specs.declared.attributes.Value.{Value}
use Rattle.otel_common.specs.declared.attributes.Value.TheVariants as values
use Rattle.otel_common.specs.declared.metrics.Temporality.{Temporality}
use Rattle.otel_common.specs.declared.metrics.Temporality.TheVariants.{Cumulative, Delta, LowMemory}
use Rattle.otel_data.specs.declared.aggregated.AggregatedMetrics.{AggregatedMetrics}
use Rattle.otel_data.specs.declared.aggregated.AggregatedMetrics.TheVariants as number_types
use Rattle.otel_data.specs.declared.aggregated.MetricData.{MetricData}
use Rattle.otel_data.specs.declared.aggregated.MetricData.TheVariants as aggregations
use Rattle.otel_data.specs.declared.collections.Metric.{Metric}
use Rattle.otel_data.specs.declared.collections.ResourceMetrics.{ResourceMetrics}
use Rattle.otel_data.specs.declared.collections.ScopeMetrics.{ScopeMetrics}
use Rattle.otel_data.specs.declared.points.GaugeDataPoint.{GaugeDataPoint}
use Rattle.otel_data.specs.declared.points.HistogramDataPoint.{HistogramDataPoint}
use Rattle.otel_data.specs.declared.points.SumDataPoint.{SumDataPoint}
use Rattle.otel_otlp.specs.Arrays.{items_from, array_of, optional}
use Rattle.otel_otlp.specs.Attributes.{bool_json, integer_json, string_json, items_json, value_json, attribute_json, attributes_json}
use Rattle.otel_otlp.specs.Numbers.{quoted, whole, value_member}
use Rattle.otel_otlp.specs.Points.{temporality_json, gauge_point_json, sum_point_json, histogram_point_json, data_members, extremes}
use Rattle.otel_otlp.specs.Requests.{points_members, metric_json, scope_metrics_json, resource_metrics_json, request_of}
use Rattle.otel_otlp.specs.Reading.{string_in, listed, member_at, natural_in, double_in, applied, each, all_in, or_absent, optional_field, scalar_in, content_in, attribute_in, attributes_in, temporality_of, amount_of, number_in, spread_in, points_in, metric_in, scope_in, resource_metrics_in, only, collection_of}
use Rattle.otel_otlp.specs.Shown.{Scalar, truth, integer, text, Content, scalar, list, Attribute, NumberPoint, SpreadPoint, Points, gauge, sum, histogram, MetricSaid, ScopeSaid, Collection, scalars_of, attribute_of, attributes_of, gauge_point, sum_point, spread_point, data_points, points_of, metric_of, scope_of, shown}
use Rattle.otel_otlp.specs.Shown as said
use Rattle.otel_otlp.proofs.Digits.{natural_reads, integer_reads}

each_says : {X A : Type 0} (f : X → Json) (r : Json → Option A) (g : X → A) → ((x : X) → r (f x) ≡ Some (g x)) → (xs : List X) → each r (listed (items_from (map f xs))) ≡ Some (map g xs)
each_says f r g h [] = refl
each_says f r g h (x ∷ xs) = λ i. applied (option_map (λ y ys. y ∷ ys) (h x i)) (each_says f r g h xs i)

each_itself : {A : Type 0} (f : A → Json) (r : Json → Option A) → ((x : A) → r (f x) ≡ Some x) → (xs : List A) → each r (listed (items_from (map f xs))) ≡ Some xs
each_itself f r h [] = refl
each_itself f r h (x ∷ xs) = λ i. applied (option_map (λ y ys. y ∷ ys) (h x i)) (each_itself f r h xs i)

-- ======== attributes ========
array_says : (a : Array) → all_in scalar_in (items_json a) ≡ Some (scalars_of a)
array_says (arrays.Bool bs) = each_says bool_json scalar_in truth (λ b. refl) bs
array_says (arrays.I64 zs) = each_says integer_json scalar_in integer (λ z. ap (option_map integer) (integer_reads z)) zs
array_says (arrays.String ss) = each_says string_json scalar_in text (λ s. refl) ss

content_says : (v : Value) → content_in (value_json v) ≡ Some (said.content_of v)
content_says (values.Bool b) = refl
content_says (values.I64 z) = λ i. option_map scalar (option_map integer (integer_reads z i))
content_says (values.String s) = refl
content_says (values.Array a) = ap (option_map list) (array_says a)

attribute_says : (p : KeyValue) → attribute_in (attribute_json p) ≡ Some (attribute_of p)
attribute_says p = λ i. applied (option_map (λ k c. record { key = k; content = c }) (Some p.key)) (content_says p.value i)

attributes_say : (ps : List KeyValue) → all_in attribute_in (attributes_json ps) ≡ Some (attributes_of ps)
attributes_say ps = each_says attribute_json attribute_in attribute_of attribute_says ps

-- ======== points ========
temporality_says : (t : Temporality) → option_and_then temporality_of (double_in (temporality_json t)) ≡ Some t
temporality_says Cumulative = ap (option_and_then temporality_of) (integer_reads (pos 2))
temporality_says Delta = ap (option_and_then temporality_of) (integer_reads (pos 1))
temporality_says LowMemory = ap (option_and_then temporality_of) (integer_reads (pos 0))

amount_says : (z : ℤ) → amount_of (member_at (codes "asInt") (value_member z no_members)) (member_at (codes "asDouble") (value_member z no_members)) ≡ Some z
amount_says (pos n) = go (nat_lt n (2 ^ 63))
  where
    chosen : Bool → Members
    chosen b = cond b (member (codes "asInt") (quoted n) no_members) (member (codes "asDouble") (whole (pos n)) no_members)

    go : (b : Bool) → amount_of (member_at (codes "asInt") (chosen b)) (member_at (codes "asDouble") (chosen b)) ≡ Some (pos n)
    go true = integer_reads (pos n)
    go false = integer_reads (pos n)
amount_says (negsuc n) = integer_reads (negsuc n)

module _ {T : Type 0} (number : T → ℤ) where
  least_says : (low high : Option T) → or_absent double_in (member_at (codes "min") (extremes (option_map number low) (option_map number high) no_members)) ≡ Some (option_map number low)
  least_says None None = refl
  least_says None (Some y) = refl
  least_says (Some x) high = ap (option_map (λ z. Some z)) (integer_reads (number x))

  greatest_says : (low high : Option T) → or_absent double_in (member_at (codes "max") (extremes (option_map number low) (option_map number high) no_members)) ≡ Some (option_map number high)
  greatest_says None None = refl
  greatest_says (Some x) None = refl
  greatest_says None (Some y) = ap (option_map (λ z. Some z)) (integer_reads (number y))
  greatest_says (Some x) (Some y) = ap (option_map (λ z. Some z)) (integer_reads (number y))

  gauge_says : (start time : ℕ) (p : GaugeDataPoint T) → number_in (gauge_point_json number start time p) ≡ Some (gauge_point number start time p)
  gauge_says start time p =
      λ i. applied (applied (applied (option_map (λ a x y v. record { attributes = a; start = x; time = y; amount = v }) (attributes_say p.attributes i)) (natural_reads start i)) (natural_reads time i)) (amount_says (number p.value) i)

  sum_says : (start time : ℕ) (p : SumDataPoint T) → number_in (sum_point_json number start time p) ≡ Some (sum_point number start time p)
  sum_says start time p =
      λ i. applied (applied (applied (option_map (λ a x y v. record { attributes = a; start = x; time = y; amount = v }) (attributes_say p.attributes i)) (natural_reads start i)) (natural_reads time i)) (amount_says (number p.value) i)

  -- a sum that isn't kept is not read
  no_sum_says : (low high : Option T) → or_absent double_in (member_at (codes "sum") (extremes (option_map number low) (option_map number high) no_members)) ≡ Some None
  no_sum_says None None = refl
  no_sum_says None (Some y) = refl
  no_sum_says (Some x) None = refl
  no_sum_says (Some x) (Some y) = refl

  counts_say : (p : HistogramDataPoint T) → all_in natural_in (array_of quoted p.bucket_counts) ≡ Some p.bucket_counts
  counts_say p = each_itself quoted natural_in natural_reads p.bucket_counts

  bounds_say : (p : HistogramDataPoint T) → all_in double_in (array_of whole p.bounds) ≡ Some p.bounds
  bounds_say p = each_itself whole double_in integer_reads p.bounds

  -- what a reader makes of the parts of a point
  abbrev joined_spread : Option (List Attribute) → Option ℕ → Option ℕ → Option ℕ → Option (Option ℤ) → Option (List ℕ) → Option (List ℤ) → Option (Option ℤ) → Option (Option ℤ) → Option SpreadPoint
  joined_spread attributes start time count total counts bounds least most =
      applied (applied (applied (applied (applied (applied (applied (applied
      (option_map (λ a x y c z cs bs l g. record { attributes = a; start = x; time = y; count = c; sum = z; counts = cs; bounds = bs; min = l; max = g }) attributes)
      start) time) count) total) counts) bounds) least) most

  histogram_says : (has_sum : Bool) (start time : ℕ) (p : HistogramDataPoint T) → spread_in (histogram_point_json number has_sum start time p) ≡ Some (spread_point number has_sum start time p)
  histogram_says false start time p =
      λ i. joined_spread (attributes_say p.attributes i) (natural_reads start i) (natural_reads time i) (natural_reads p.count i) (no_sum_says p.min p.max i)
      (counts_say p i) (bounds_say p i) (least_says p.min p.max i) (greatest_says p.min p.max i)
  histogram_says true start time p =
      λ i. joined_spread (attributes_say p.attributes i) (natural_reads start i) (natural_reads time i) (natural_reads p.count i) (option_map (λ z. Some z) (integer_reads (number p.sum) i))
      (counts_say p i) (bounds_say p i) (least_says p.min p.max i) (greatest_says p.min p.max i)

  data_says : (d : MetricData T) → points_in (data_members number d) ≡ Some (data_points number d)
  data_says (aggregations.Gauge g) =
      ap (option_map gauge) (each_says (gauge_point_json number g.start_time g.time) number_in (gauge_point number g.start_time g.time) (gauge_says g.start_time g.time) g.data_points)
  data_says (aggregations.Sum s) =
      λ i. applied (applied (option_map (λ ps t m. sum ps t m)
      (each_says (sum_point_json number s.start_time s.time) number_in (sum_point number s.start_time s.time) (sum_says s.start_time s.time) s.data_points i))
      (temporality_says s.temporality i)) (Some s.is_monotonic)
  data_says (aggregations.Histogram g) =
      λ i. applied (option_map (λ ps t. histogram ps t)
      (each_says (histogram_point_json number g.has_sum g.start_time g.time) spread_in (spread_point number g.has_sum g.start_time g.time) (histogram_says g.has_sum g.start_time g.time) g.data_points i))
      (temporality_says g.temporality i)

-- ======== collections ========
points_say : (d : AggregatedMetrics) → points_in (points_members d) ≡ Some (points_of d)
points_say (number_types.U64 d) = data_says pos d
points_say (number_types.I64 d) = data_says (λ z. z) d

metric_says : (m : Metric) → metric_in (metric_json m) ≡ Some (metric_of m)
metric_says m = λ i. applied (Some (λ p. record { name = m.name; description = m.description; unit = m.unit; points = p })) (points_say m.content i)

own_members : List ℕ → Option (List ℕ) → List KeyValue → Members
own_members name v ps = member (codes "name") (string name) (optional (codes "version") (option_map string v) (member (codes "attributes") (attributes_json ps) no_members))

version_says : (name : List ℕ) (v : Option (List ℕ)) (ps : List KeyValue) → optional_field string_in (codes "version") (own_members name v ps) ≡ Some v
unfolding own_members
version_says name None ps = refl
version_says name (Some v) ps = refl

own_say : (name : List ℕ) (v : Option (List ℕ)) (ps : List KeyValue) → attributes_in (own_members name v ps) ≡ Some (attributes_of ps)
unfolding own_members
own_say name None ps = attributes_say ps
own_say name (Some v) ps = attributes_say ps

url_says : (u : Option (List ℕ)) → optional_field string_in (codes "schemaUrl") (optional (codes "schemaUrl") (option_map string u) no_members) ≡ Some u
url_says None = refl
url_says (Some u) = refl

scope_says : (s : ScopeMetrics) → scope_in (scope_metrics_json s) ≡ Some (scope_of s)
unfolding own_members
scope_says s =
    λ i. applied (applied (applied (applied (Some (λ v a m u. record { name = s.scope.name; version = v; attributes = a; metrics = m; schema_url = u }))
    (version_says s.scope.name s.scope.version s.scope.attributes i)) (own_say s.scope.name s.scope.version s.scope.attributes i))
    (each_says metric_json metric_in metric_of metric_says s.metrics i)) (url_says s.scope.schema_url i)

resource_says : (c : ResourceMetrics) → resource_metrics_in (resource_metrics_json c) ≡ Some (shown c)
resource_says c =
    λ i. applied (applied (option_map (λ a s u. record { attributes = a; scopes = s; schema_url = u }) (attributes_say c.resource.attributes i))
    (each_says scope_metrics_json scope_in scope_of scope_says c.scope_metrics i)) (url_says c.resource.schema_url i)

pub request_says : (c : ResourceMetrics) → collection_of (request_of c) ≡ Some (shown c)
request_says c = λ i. option_and_then only (applied (option_map (λ x xs. x ∷ xs) (resource_says c i)) (Some []))
