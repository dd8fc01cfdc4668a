-- A collection as lines.
use Rattle.std.specs.Prelude.{ℕ, ◌%◌, ◌^◌, List, [], ◌∷◌, ◌++◌, Bool, false, cond, Option, Some, None, flat_map, map, codes}
use Rattle.otel_common.specs.declared.scopes.InstrumentationScope.{InstrumentationScope}
use Rattle.otel_data.specs.declared.collections.Metric.{Metric}
use Rattle.otel_data.specs.declared.collections.ResourceMetrics.{ResourceMetrics}
use Rattle.otel_data.specs.declared.collections.ScopeMetrics.{ScopeMetrics}
use Rattle.otel_prometheus.specs.Lines.{Line, help, kind, sample, finish}
use Rattle.otel_prometheus.specs.Numbers.{unsigned}
use Rattle.otel_prometheus.specs.Samples.{Pair, Sample}
use Rattle.otel_prometheus.specs.declared.text.formats.Format.{Format}
use Rattle.otel_prometheus.specs.declared.text.formats.Format.TheVariants as formats
use Rattle.otel_prometheus.specs.Totals.{total}
use Rattle.otel_prometheus.specs.Families.{families, delta_points, conflicting_points}
use Rattle.otel_prometheus.specs.Headings.{heading_of, same_heading}
use Rattle.otel_prometheus.specs.Labels.{resource_labels}
use Rattle.otel_prometheus.specs.Points.{content_series}
use Rattle.otel_prometheus.specs.Series.{Series, kept, doubled}
use Rattle.otel_prometheus.specs.declared.expositions.LeftOut.{LeftOut}
use Rattle.otel_prometheus.specs.declared.families.Family.{Family}
use Rattle.otel_prometheus.specs.declared.headings.Heading.{Heading}
use Rattle.otel_prometheus.specs.declared.headings.Kind.{Kind}
use Rattle.otel_prometheus.specs.declared.headings.Kind.TheVariants as kinds
use Rattle.otel_prometheus.specs.declared.settings.Settings.{Settings}

-- ======== the series of a family ========
abbrev pub belongs : Heading → Option Heading → Bool
belongs h None = false
belongs h (Some own) = same_heading h own

abbrev pub metric_series : Settings → Heading → InstrumentationScope → Metric → List Series
metric_series s h scope m = cond (belongs h (heading_of m)) (content_series s scope h m.content) []

abbrev pub scope_series : Settings → Heading → ScopeMetrics → List Series
scope_series s h sm = flat_map (metric_series s h sm.scope) sm.metrics

-- a series for each point of each metric of the family
abbrev pub family_series : Settings → ResourceMetrics → Heading → List Series
family_series s c h = flat_map (scope_series s h) c.scope_metrics

-- ======== the lines of a family ========
abbrev pub kind_word : Kind → List ℕ
kind_word kinds.Counter = codes "counter"
kind_word kinds.Gauge = codes "gauge"
kind_word kinds.Histogram = codes "histogram"

-- in Prometheus' format a counter's type is that of the samples' name
abbrev pub kind_end : Format → Kind → List ℕ
kind_end formats.Prometheus kinds.Counter = codes "_total"
kind_end formats.Prometheus kinds.Gauge = []
kind_end formats.Prometheus kinds.Histogram = []
kind_end formats.OpenMetrics k = []

abbrev pub help_lines : List ℕ → List ℕ → List Line
help_lines name [] = []
help_lines name (b ∷ bs) = help name (b ∷ bs) ∷ []

-- the help text and the type of a family
abbrev pub front_lines : Format → Family → List Line
front_lines f family =
    help_lines (family.heading.name ++ kind_end f family.heading.kind) family.help
    ++ kind (family.heading.name ++ kind_end f family.heading.kind) (kind_word family.heading.kind) ∷ []

-- the samples of a family: of series with the same labels those of the first
abbrev pub family_samples : Settings → ResourceMetrics → Heading → List Sample
family_samples s c h = flat_map (λ x. x.samples) (kept [] (family_series s c h))

abbrev pub family_lines : Settings → ResourceMetrics → Family → List Line
family_lines s c family = front_lines s.format family ++ map sample (family_samples s c family.heading)

-- ======== the resource ========
abbrev pub target_type : List ℕ → List ℕ → List Line
target_type name word = help name (codes "Target metadata") ∷ (kind name word ∷ [])

-- in OpenMetrics it is an information called `target`
abbrev pub target_front : Format → List Line
target_front formats.Prometheus = target_type (codes "target_info") (codes "gauge")
target_front formats.OpenMetrics = target_type (codes "target") (codes "info")

-- what the resource is, as labels
abbrev pub target_lines : Format → List Pair → List Line
target_lines f [] = []
target_lines f (l ∷ ls) = target_front f ++ (sample (record { name = codes "target_info"; labels = l ∷ ls; value = unsigned 1 }) ∷ [])

abbrev pub end_lines : Format → List Line
end_lines formats.Prometheus = []
end_lines formats.OpenMetrics = finish ∷ []

-- ======== the whole ========
abbrev pub lines_of : Settings → ResourceMetrics → List Line
lines_of s c = target_lines s.format (resource_labels c.resource.attributes) ++ (flat_map (family_lines s c) (families c) ++ end_lines s.format)

-- points whose labels are those of an earlier point of their family
abbrev pub doubled_points : Settings → ResourceMetrics → ℕ
doubled_points s c = total (λ f. doubled [] (family_series s c f.heading)) (families c)

-- counts modulo 2^64
abbrev pub left_out_of : Settings → ResourceMetrics → LeftOut
left_out_of s c = record {
  delta = delta_points c % 2 ^ 64;
  conflicting = conflicting_points c % 2 ^ 64;
  doubled = doubled_points s c % 2 ^ 64;
}
