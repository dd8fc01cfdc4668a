-- The families of a collection, and what of it they leave out.
use Rattle.std.specs.Prelude.{ℕ, ◌||◌, List, [], ◌∷◌, ◌++◌, Bool, cond, length, Option, Some, None, fold}
use Rattle.std.specs.List.{list_any}
use Rattle.otel_data.specs.declared.aggregated.AggregatedMetrics.{AggregatedMetrics}
use Rattle.otel_data.specs.declared.aggregated.AggregatedMetrics.TheVariants as number_types
use Rattle.otel_data.specs.declared.aggregated.MetricData.{MetricData}
use Rattle.otel_data.specs.declared.aggregated.MetricData.TheVariants as aggregations
use Rattle.otel_data.specs.declared.collections.Metric.{Metric}
use Rattle.otel_data.specs.declared.collections.ResourceMetrics.{ResourceMetrics}
use Rattle.otel_data.specs.declared.collections.ScopeMetrics.{ScopeMetrics}
use Rattle.otel_prometheus.specs.Totals.{total}
use Rattle.otel_prometheus.specs.Headings.{heading_of, same_heading, clashes, is_reserved}
use Rattle.otel_prometheus.specs.declared.families.Family.{Family}
use Rattle.otel_prometheus.specs.declared.headings.Heading.{Heading}

-- whether a family of this heading can stand beside these
abbrev pub is_refused : List Family → Heading → Bool
is_refused fs h = is_reserved h.name || list_any (λ f. clashes f.heading h) fs

-- the families with one of this heading, if it can stand beside them
abbrev pub with_heading : List Family → Metric → Option Heading → List Family
with_heading fs m None = fs
with_heading fs m (Some h) = cond (is_refused fs h) fs (fs ++ record { heading = h; help = m.description } ∷ [])

abbrev pub with_metric : List Family → Metric → List Family
with_metric fs m = with_heading fs m (heading_of m)

abbrev pub with_scope : List Family → ScopeMetrics → List Family
with_scope fs s = fold with_metric fs s.metrics

-- the families: of names that can't stand in one text the first stands
abbrev pub families : ResourceMetrics → List Family
families c = fold with_scope [] c.scope_metrics

-- ======== what is left out ========
abbrev pub data_length : {T : Type 0} → MetricData T → ℕ
data_length (aggregations.Gauge g) = length g.data_points
data_length (aggregations.Sum s) = length s.data_points
data_length (aggregations.Histogram h) = length h.data_points

-- how many points there are
abbrev pub content_length : AggregatedMetrics → ℕ
content_length (number_types.U64 d) = data_length d
content_length (number_types.I64 d) = data_length d

-- points that cover one collection alone
abbrev pub delta_if : ℕ → Option Heading → ℕ
delta_if n None = n
delta_if n (Some h) = 0

abbrev pub delta_in : Metric → ℕ
delta_in m = delta_if (content_length m.content) (heading_of m)

abbrev pub delta_points : ResourceMetrics → ℕ
delta_points c = total (λ s. total delta_in s.metrics) c.scope_metrics

-- points of metrics that have no family
abbrev pub conflicting_if : List Family → ℕ → Option Heading → ℕ
conflicting_if fs n None = 0
conflicting_if fs n (Some h) = cond (list_any (λ f. same_heading f.heading h) fs) 0 n

abbrev pub conflicting_in : List Family → Metric → ℕ
conflicting_in fs m = conflicting_if fs (content_length m.content) (heading_of m)

abbrev pub conflicting_points : ResourceMetrics → ℕ
conflicting_points c = total (λ s. total (conflicting_in (families c)) s.metrics) c.scope_metrics
