use Rattle.std.proofs.Common.{◌≡◌, ◌+◌, ◌%◌, ◌^◌, drop}
use Rattle.otel_prometheus.specs.Totals.{total}
use Rattle.otel_prometheus.specs.Families.{delta_in}
use Rattle.otel_prometheus.proofs.families.delta_points.Given as goal

-- with what is left the count is whole
abbrev pub invariant-loop-scope : goal.invariant-loop-scope
invariant-loop-scope l = (l.count + total (λ s. total delta_in s.metrics) (drop l.scope-index l.scopes)) % 2 ^ 64 ≡ total (λ s. total delta_in s.metrics) l.scopes % 2 ^ 64
