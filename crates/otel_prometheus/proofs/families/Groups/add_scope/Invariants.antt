use Rattle.std.proofs.Common.{List, ◌++◌, map, take}
use Rattle.otel_prometheus.specs.Groups.{Member}
use Rattle.otel_prometheus.specs.Standing.{AreGroups}
use Rattle.otel_prometheus.proofs.families.Groups.add_scope.Given as goal

-- the families are those of the metrics so far
abbrev pub invariant-loop-metric : goal.invariant-loop-metric
invariant-loop-metric l = (seen : List Member) → AreGroups l.fn.self seen → AreGroups l.self (seen ++ map (λ m. record { scope = l.scope; metric = m }) (take l.metric-index l.metrics))
