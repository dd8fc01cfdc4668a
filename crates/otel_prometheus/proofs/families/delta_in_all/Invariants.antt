use Rattle.std.proofs.Common.{◌≡◌, ◌+◌, ◌%◌, ◌^◌, drop}
use Rattle.otel_prometheus.specs.Totals.{total}
use Rattle.otel_prometheus.specs.Families.{delta_in}
use Rattle.otel_prometheus.proofs.families.delta_in_all.Given as goal

-- with what is left the count is whole
abbrev pub invariant-loop-metric : goal.invariant-loop-metric
invariant-loop-metric l = (l.count + total (delta_in) (drop l.metric-index l.metrics)) % 2 ^ 64 ≡ total (delta_in) l.metrics % 2 ^ 64
