-- Worked rows on values and counts of a collection.
use Rattle.std.specs.Prelude.{◌≡◌, ℕ, pos, negsuc, true, false, List, [], ◌∷◌, map, Some, None, codes}
use Rattle.std.specs.Option.{option_map}
use Rattle.std.proofs.Common.{refl}
use Rattle.otel_common.specs.declared.attributes.KeyValue.{KeyValue}
use Rattle.otel_common.specs.declared.attributes.Value.TheVariants as value
use Rattle.otel_common.specs.declared.metrics.Temporality.TheVariants.{Cumulative}
use Rattle.otel_data.specs.Values.{kinds_of, parts_of, is_this, is_first, has_key, is_set, value_in, count_in, number_in, any_count_in, metric_in, value_at, count_at}
use Rattle.otel_data.specs.declared.aggregated.AggregatedMetrics.{AggregatedMetrics}
use Rattle.otel_data.specs.declared.aggregated.AggregatedMetrics.TheVariants.{U64, I64}
use Rattle.otel_data.specs.declared.aggregated.MetricData.{MetricData}
use Rattle.otel_data.specs.declared.aggregated.MetricData.TheVariants as points
use Rattle.otel_data.specs.declared.collections.Metric.{Metric}
use Rattle.otel_data.specs.declared.collections.ResourceMetrics.{ResourceMetrics}
use Rattle.otel_data.specs.declared.collections.ScopeMetrics.{ScopeMetrics}
use Rattle.otel_data.specs.declared.gauges.Gauge.{Gauge}
use Rattle.otel_data.specs.declared.histograms.Histogram.{Histogram}
use Rattle.otel_data.specs.declared.numbers.NumberValue.TheVariants as number
use Rattle.otel_data.specs.declared.points.SumDataPoint.{SumDataPoint}
use Rattle.otel_data.specs.declared.sums.Sum.{Sum}

abbrev is : List ℕ → ℕ → KeyValue
is key n = record { key = key; value = value.I64 (pos n) }

abbrev a1 : KeyValue
a1 = is (codes "a") 1

abbrev b2 : KeyValue
b2 = is (codes "b") 2

abbrev b3 : KeyValue
b3 = is (codes "b") 3

-- ======== sets of attributes ========
pub this : map (is_this b2) (Some b2 ∷ Some b3 ∷ Some (is (codes "c") 2) ∷ None ∷ []) ≡ true ∷ false ∷ false ∷ false ∷ []
this = refl

pub first : map (λ attributes. is_first attributes b2) ((b2 ∷ []) ∷ (a1 ∷ b2 ∷ b3 ∷ []) ∷ (b3 ∷ b2 ∷ []) ∷ (a1 ∷ []) ∷ [] ∷ []) ≡ true ∷ true ∷ false ∷ false ∷ false ∷ []
first = refl

pub keys : map (has_key (a1 ∷ b2 ∷ [])) (codes "a" ∷ codes "b" ∷ codes "c" ∷ [] ∷ []) ≡ true ∷ true ∷ false ∷ false ∷ []
keys = refl

-- in either order, and of a key the first value
pub sets : map (λ attributes. is_set attributes (a1 ∷ b2 ∷ [])) ((a1 ∷ b2 ∷ []) ∷ (b2 ∷ a1 ∷ []) ∷ (b2 ∷ a1 ∷ b3 ∷ []) ∷ []) ≡ true ∷ true ∷ true ∷ []
sets = refl

-- another value, one attribute less, one more, and of a key a later value
pub no_sets : map (λ attributes. is_set attributes (a1 ∷ b2 ∷ [])) ((a1 ∷ b3 ∷ []) ∷ (a1 ∷ []) ∷ (a1 ∷ b2 ∷ is (codes "c") 1 ∷ []) ∷ (b3 ∷ a1 ∷ b2 ∷ []) ∷ [] ∷ []) ≡ false ∷ false ∷ false ∷ false ∷ false ∷ []
no_sets = refl

pub empty_set : map (λ attributes. is_set attributes []) ([] ∷ (a1 ∷ []) ∷ []) ≡ true ∷ false ∷ []
empty_set = refl

-- ======== points ========
abbrev point : ℕ → List KeyValue → SumDataPoint ℕ
point n place = record { attributes = place; exemplars = []; value = n }

abbrev total : Sum ℕ
total = record { data_points = point 5 (a1 ∷ []) ∷ point 7 (a1 ∷ b2 ∷ []) ∷ point 8 (a1 ∷ b2 ∷ []) ∷ []; start_time = 0; time = 1; temporality = Cumulative; is_monotonic = true }

abbrev sum : MetricData ℕ
sum = points.Sum total

abbrev last : Gauge ℕ
last = record { data_points = []; start_time = 2; time = 3 }

abbrev gauge : AggregatedMetrics
gauge = I64 (points.Gauge (record { data_points = record { attributes = a1 ∷ b2 ∷ []; exemplars = []; value = negsuc 6 } ∷ []; start_time = 0; time = 1 }))

pub number_types : (parts_of (U64 sum) ≡ (Some sum, None)) × (parts_of (I64 (points.Gauge (record { data_points = []; start_time = 2; time = 3 }))) ≡ (None, Some (points.Gauge (record { data_points = []; start_time = 2; time = 3 }))))
number_types = (refl, refl)

abbrev spread : Histogram ℕ
spread = record { data_points = record { attributes = a1 ∷ b2 ∷ []; exemplars = []; bounds = []; bucket_counts = []; count = 3; min = None; max = None; sum = 44 } ∷ []; start_time = 0; time = 1; temporality = Cumulative; has_sum = true }

abbrev histogram : MetricData ℕ
histogram = points.Histogram spread

pub aggregations : (kinds_of sum ≡ (None, Some total, None)) × (kinds_of histogram ≡ (None, None, Some spread)) × (kinds_of (points.Gauge last) ≡ (Some last, None, None))
aggregations = (refl, refl, refl)

pub values : map (λ attributes. value_in attributes sum) ((b2 ∷ a1 ∷ []) ∷ (a1 ∷ []) ∷ (b2 ∷ []) ∷ []) ≡ Some 7 ∷ Some 5 ∷ None ∷ []
values = refl

pub no_value : value_in (a1 ∷ b2 ∷ []) histogram ≡ None
no_value = refl

pub counts : map (count_in (b2 ∷ a1 ∷ [])) (histogram ∷ sum ∷ []) ≡ Some 3 ∷ None ∷ []
counts = refl

pub no_count : count_in (a1 ∷ []) histogram ≡ None
no_count = refl

pub numbers : map (number_in (b2 ∷ a1 ∷ [])) (U64 sum ∷ gauge ∷ U64 histogram ∷ []) ≡ Some (number.U64 7) ∷ Some (number.I64 (negsuc 6)) ∷ None ∷ []
numbers = refl

pub any_counts : map (any_count_in (b2 ∷ a1 ∷ [])) (U64 histogram ∷ U64 sum ∷ gauge ∷ []) ≡ Some 3 ∷ None ∷ None ∷ []
any_counts = refl

-- ======== collections ========
abbrev named : List ℕ → AggregatedMetrics → Metric
named name content = record { name = name; description = []; unit = []; content = content }

abbrev of_scope : List ℕ → List Metric → ScopeMetrics
of_scope name metrics = record { scope = record { name = name; version = None; schema_url = None; attributes = [] }; metrics = metrics }

abbrev in_shop : List Metric
in_shop = named (codes "sum") (U64 sum) ∷ named (codes "gauge") gauge ∷ named (codes "sum") gauge ∷ named (codes "histogram") (U64 histogram) ∷ []

-- two scopes of one name, of which the first counts
abbrev collected : ResourceMetrics
collected = record { resource = record { attributes = []; schema_url = None }; scope_metrics = of_scope [] [] ∷ of_scope (codes "shop") in_shop ∷ of_scope (codes "shop") (named (codes "late") gauge ∷ []) ∷ [] }

pub metrics : map (λ name. option_map (λ metric. metric.content) (metric_in collected (codes "shop") name)) (codes "sum" ∷ codes "gauge" ∷ codes "late" ∷ []) ≡ Some (U64 sum) ∷ Some gauge ∷ None ∷ []
metrics = refl

pub no_scope : map (λ scope. metric_in collected scope (codes "sum")) ([] ∷ codes "none" ∷ []) ≡ None ∷ None ∷ []
no_scope = refl

pub values_by_name : map (λ name. value_at collected (codes "shop") name (b2 ∷ a1 ∷ [])) (codes "sum" ∷ codes "gauge" ∷ codes "histogram" ∷ codes "none" ∷ []) ≡ Some (number.U64 7) ∷ Some (number.I64 (negsuc 6)) ∷ None ∷ None ∷ []
values_by_name = refl

pub counts_by_name : map (λ name. count_at collected (codes "shop") name (b2 ∷ a1 ∷ [])) (codes "histogram" ∷ codes "sum" ∷ codes "none" ∷ []) ≡ Some 3 ∷ None ∷ None ∷ []
counts_by_name = refl
