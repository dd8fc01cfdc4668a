-- What a collection gives of one reader's streams, scope by scope.
use Rattle.std.specs.Prelude.{◌≡◌, ℕ, Bool, true, false, ◌&&◌, List, [], ◌∷◌, ◌++◌, map, filter}
use Rattle.otel_common.specs.Scopes.{scope_eq}
use Rattle.otel_common.specs.declared.resource.Resource.{Resource}
use Rattle.otel_common.specs.declared.scopes.InstrumentationScope.{InstrumentationScope}
use Rattle.otel_data.specs.declared.collections.Metric.{Metric}
use Rattle.otel_data.specs.declared.collections.ResourceMetrics.{ResourceMetrics}
use Rattle.otel_data.specs.declared.collections.ScopeMetrics.{ScopeMetrics}
use Rattle.otel_model.specs.Collections.{ScopedMetric, in_scope, has_points, has_metrics}
use Rattle.otel_model.specs.Calls.{Observed}
use Rattle.otel_model.specs.State.{Shared, ReaderPart}
use Rattle.otel_model.specs.Steps.{collect_from}
use Rattle.opentelemetry_sdk.specs.pipeline.Pipelines.{is_streamed}
use Rattle.opentelemetry_sdk.specs.pipeline.Streams.{StreamContents, shown_metric}

-- the metric of a stream, with its scope
abbrev pub scoped_metric : ℕ → StreamContents → ScopedMetric
scoped_metric now h = (h.stream.demand.identity.scope, shown_metric now h)

-- the metrics of all streams, without those that drop
abbrev pub all_scoped : ℕ → List StreamContents → List ScopedMetric
all_scoped now streams = map (scoped_metric now) (filter is_streamed streams)

-- the metrics of a scope that have points
abbrev pub shown_in : InstrumentationScope → ℕ → List StreamContents → List Metric
shown_in scope now streams = (in_scope (all_scoped now streams) scope).metrics

abbrev pub if_shown : Bool → Metric → List Metric
if_shown true m = m ∷ []
if_shown false m = []

-- the metric of one stream, if it doesn't drop, has this scope and has points
abbrev pub shown_one : InstrumentationScope → ℕ → StreamContents → List Metric
shown_one scope now h = if_shown (is_streamed h && (scope_eq h.stream.demand.identity.scope scope && has_points (shown_metric now h))) (shown_metric now h)

abbrev pub scope_shown : ℕ → List StreamContents → InstrumentationScope → ScopeMetrics
scope_shown now streams scope = in_scope (all_scoped now streams) scope

-- the scopes of these meters that have metrics, with them
abbrev pub scopes_shown : ℕ → List StreamContents → List InstrumentationScope → List ScopeMetrics
scopes_shown now streams meters = filter has_metrics (map (scope_shown now streams) meters)

-- each list followed by the one at the same position among the others, if there is one
abbrev pub append_each : {A : Type 0} → List (List A) → List (List A) → List (List A)
append_each [] ys = []
append_each (x ∷ xs) [] = x ∷ xs
append_each (x ∷ xs) (y ∷ ys) = (x ++ y) ∷ append_each xs ys

-- c is what a collection of this reader gives, with this resource, the scopes of these meters and these observations
abbrev pub IsCollectedFrom : Resource → List InstrumentationScope → ℕ → List Observed → ReaderPart → ResourceMetrics → Type 0
IsCollectedFrom resource meters now os part c = (s : Shared) → s.resource ≡ resource → s.meters ≡ meters → c ≡ collect_from s now os part
