-- The names and types of families.
use Rattle.std.specs.Prelude.{ℕ, ◌==◌, ◌||◌, ◌&&◌, List, [], ◌∷◌, ◌++◌, Bool, true, false, cond, length, drop, Option, Some, None, codes}
use Rattle.std.specs.List.{list_any, starts_with, ends_with}
use Rattle.std.specs.Option.{option_map}
use Rattle.otel_common.specs.Equality.{bytes_eq}
use Rattle.otel_common.specs.declared.metrics.Temporality.{Temporality}
use Rattle.otel_common.specs.declared.metrics.Temporality.TheVariants.{Cumulative, Delta, LowMemory}
use Rattle.otel_data.specs.declared.aggregated.AggregatedMetrics.{AggregatedMetrics}
use Rattle.otel_data.specs.declared.aggregated.AggregatedMetrics.TheVariants as number_types
use Rattle.otel_data.specs.declared.aggregated.MetricData.{MetricData}
use Rattle.otel_data.specs.declared.aggregated.MetricData.TheVariants as aggregations
use Rattle.otel_data.specs.declared.collections.Metric.{Metric}
use Rattle.otel_prometheus.specs.Names.{name_of, without_end, without_gap}
use Rattle.otel_prometheus.specs.Samples.{is_metric_byte}
use Rattle.otel_prometheus.specs.Units.{unit_suffix}
use Rattle.otel_prometheus.specs.declared.headings.Heading.{Heading}
use Rattle.otel_prometheus.specs.declared.headings.Kind.{Kind}
use Rattle.otel_prometheus.specs.declared.headings.Kind.TheVariants as kinds

-- ======== types ========
abbrev pub sum_kind : Bool → Kind
sum_kind is_monotonic = cond is_monotonic kinds.Counter kinds.Gauge

-- only what covers all records since the stream was made can be shown
abbrev pub if_cumulative : Temporality → Kind → Option Kind
if_cumulative Cumulative k = Some k
if_cumulative Delta k = None
if_cumulative LowMemory k = None

abbrev pub points_kind : {T : Type 0} → MetricData T → Option Kind
points_kind (aggregations.Gauge g) = Some kinds.Gauge
points_kind (aggregations.Sum s) = if_cumulative s.temporality (sum_kind s.is_monotonic)
points_kind (aggregations.Histogram h) = if_cumulative h.temporality kinds.Histogram

abbrev pub content_kind : AggregatedMetrics → Option Kind
content_kind (number_types.U64 d) = points_kind d
content_kind (number_types.I64 d) = points_kind d

abbrev pub keeps_last : {T : Type 0} → MetricData T → Bool
keeps_last (aggregations.Gauge g) = true
keeps_last (aggregations.Sum s) = false
keeps_last (aggregations.Histogram h) = false

abbrev pub is_last_value : AggregatedMetrics → Bool
is_last_value (number_types.U64 d) = keeps_last d
is_last_value (number_types.I64 d) = keeps_last d

abbrev pub kind_eq : Kind → Kind → Bool
kind_eq kinds.Counter kinds.Counter = true
kind_eq kinds.Gauge kinds.Gauge = true
kind_eq kinds.Histogram kinds.Histogram = true
kind_eq _ _ = false

-- ======== names ========
-- a name to which samples add ends is without a `_` before them, and that of a counter without `_total`
abbrev pub own_text : Kind → List ℕ → List ℕ
own_text kinds.Counter text = without_gap (without_end (codes "_total") text)
own_text kinds.Gauge text = text
own_text kinds.Histogram text = without_gap text

abbrev pub with_end : List ℕ → List ℕ → List ℕ
with_end text end = cond (ends_with ◌==◌ text end) text (text ++ end)

-- a text with a unit once at its end
abbrev pub with_unit : List ℕ → List ℕ → List ℕ
with_unit text [] = text
with_unit text (b ∷ unit) = with_end (without_gap text) (b ∷ unit)

-- a valid name without what a family of this type adds to it
abbrev pub plain_name : Kind → List ℕ → List ℕ
plain_name k text = own_text k (name_of is_metric_byte text)

-- the name of a metric's family; `_` if nothing is left
abbrev pub base_name : Kind → Metric → List ℕ
base_name k m = name_of is_metric_byte (with_unit (plain_name k m.name) (unit_suffix (is_last_value m.content) m.unit))

abbrev pub heading_with : Metric → Kind → Heading
heading_with m k = record { name = base_name k m; kind = k }

-- the heading of a metric; none if it can't be shown
abbrev pub heading_of : Metric → Option Heading
heading_of m = option_map (heading_with m) (content_kind m.content)

-- ======== which names stand beside each other ========
abbrev pub same_heading : Heading → Heading → Bool
same_heading a b = kind_eq a.kind b.kind && bytes_eq a.name b.name

-- what a family of this type adds to its name in names of samples
abbrev pub sample_ends : Kind → List (List ℕ)
sample_ends kinds.Counter = codes "_total" ∷ (codes "_created" ∷ [])
sample_ends kinds.Gauge = []
sample_ends kinds.Histogram = codes "_bucket" ∷ (codes "_sum" ∷ (codes "_count" ∷ (codes "_created" ∷ [])))

abbrev pub is_sample_end : Kind → List ℕ → Bool
is_sample_end k end = list_any (bytes_eq end) (sample_ends k)

-- whether the name of b may be that of a sample of a
abbrev pub may_be_sample : Heading → Heading → Bool
may_be_sample a b = starts_with ◌==◌ b.name a.name && is_sample_end a.kind (drop (length a.name) b.name)

abbrev pub clashes : Heading → Heading → Bool
clashes a b = bytes_eq a.name b.name || may_be_sample a b || may_be_sample b a

-- the name of what says what the resource is
abbrev pub is_reserved : List ℕ → Bool
is_reserved name = bytes_eq name (codes "target") || bytes_eq name (codes "target_info")
