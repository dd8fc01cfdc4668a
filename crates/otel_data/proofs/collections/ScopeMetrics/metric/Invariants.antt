use Rattle.std.proofs.Common.{◌≡◌, drop}
use Rattle.std.specs.List.{find}
use Rattle.otel_common.specs.Equality.{bytes_eq}
use Rattle.otel_data.proofs.collections.ScopeMetrics.metric.Given as goal

-- no metric before the next one has the name
abbrev pub invariant-loop-metric : goal.invariant-loop-metric
invariant-loop-metric l = find (λ metric. bytes_eq metric.name l.name) l.metric-items ≡ find (λ metric. bytes_eq metric.name l.name) (drop l.metric-index l.metric-items)
