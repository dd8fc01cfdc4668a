-- Families with their metrics, as one walk through a collection finds them by name.
use Rattle.std.specs.Prelude.{ℕ, List, [], ◌∷◌, ◌++◌, Bool, cond, filter, flat_map, fold, map}
use Rattle.std.specs.List.{list_any}
use Rattle.otel_common.specs.declared.scopes.InstrumentationScope.{InstrumentationScope}
use Rattle.otel_data.specs.declared.collections.Metric.{Metric}
use Rattle.otel_data.specs.declared.collections.ResourceMetrics.{ResourceMetrics}
use Rattle.otel_data.specs.declared.collections.ScopeMetrics.{ScopeMetrics}
use Rattle.otel_prometheus.specs.Collections.{belongs, front_lines}
use Rattle.otel_prometheus.specs.Families.{with_metric, conflicting_in}
use Rattle.otel_prometheus.specs.Headings.{heading_of, same_heading, sample_ends}
use Rattle.otel_prometheus.specs.Lines.{Line, sample}
use Rattle.otel_prometheus.specs.Points.{content_series}
use Rattle.otel_prometheus.specs.Series.{Series, kept}
use Rattle.otel_prometheus.specs.Totals.{total}
use Rattle.otel_prometheus.specs.declared.families.Family.{Family}
use Rattle.otel_prometheus.specs.declared.headings.Heading.{Heading}
use Rattle.otel_prometheus.specs.declared.settings.Settings.{Settings}

-- a metric, with its scope
pub record Member : Type 0 where
  pub scope : InstrumentationScope
  pub metric : Metric

-- a family, with its metrics
pub record Group : Type 0 where
  pub family : Family
  pub members : List Member

-- ======== one after another ========
abbrev pub members_of : ScopeMetrics → List Member
members_of s = map (λ m. record { scope = s.scope; metric = m }) s.metrics

abbrev pub all_members : ResourceMetrics → List Member
all_members c = flat_map members_of c.scope_metrics

abbrev pub families_of : List Member → List Family
families_of xs = fold (λ fs x. with_metric fs x.metric) [] xs

abbrev pub is_of : Heading → Member → Bool
is_of h x = belongs h (heading_of x.metric)

abbrev pub group_of : List Member → Family → Group
group_of xs f = record { family = f; members = filter (is_of f.heading) xs }

abbrev pub groups_of : List Member → List Group
groups_of xs = map (group_of xs) (families_of xs)

-- how many points of these have no family
abbrev pub conflicting_among : List Member → ℕ
conflicting_among xs = total (λ x. conflicting_in (families_of xs) x.metric) xs

abbrev pub has_family : List Member → Heading → Bool
has_family xs h = list_any (λ f. same_heading f.heading h) (families_of xs)

-- a family with one more metric, if it is one of it
abbrev pub joined : Bool → Group → Member → Group
joined joins g x = record { family = g.family; members = g.members ++ cond joins (x ∷ []) [] }

-- ======== names ========
abbrev pub sample_names : Heading → List (List ℕ)
sample_names h = map (λ end. h.name ++ end) (sample_ends h.kind)

abbrev pub names_of : List Family → List (List ℕ)
names_of fs = map (λ f. f.heading.name) fs

abbrev pub sample_names_of : List Family → List (List ℕ)
sample_names_of fs = flat_map (λ f. sample_names f.heading) fs

-- ======== what is shown of them ========
abbrev pub member_series : Settings → Heading → Member → List Series
member_series s h x = content_series s x.scope h x.metric.content

abbrev pub group_series : Settings → Group → List Series
group_series s g = flat_map (member_series s g.family.heading) g.members

abbrev pub group_lines : Settings → Group → List Line
group_lines s g = front_lines s.format g.family ++ map sample (flat_map (λ x. x.samples) (kept [] (group_series s g)))
