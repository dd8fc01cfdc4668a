use Rattle.std.proofs.Common.{◌≡◌, drop}
use Rattle.std.specs.List.{find}
use Rattle.otel_common.specs.Equality.{bytes_eq}
use Rattle.otel_data.proofs.collections.ResourceMetrics.scope.Given as goal

-- no scope before the next one has the name
abbrev pub invariant-loop-metrics : goal.invariant-loop-metrics
invariant-loop-metrics l = find (λ metrics. bytes_eq metrics.scope.name l.name) l.metrics-items ≡ find (λ metrics. bytes_eq metrics.scope.name l.name) (drop l.metrics-index l.metrics-items)
