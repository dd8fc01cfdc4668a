use Rattle.std.proofs.Common.{◌≡◌, drop}
use Rattle.otel_prometheus.specs.Points.{are_natural}
use Rattle.otel_prometheus.proofs.samples.are_natural.Given as goal

-- no bound before the next one is below 0
abbrev pub invariant-loop-bound : goal.invariant-loop-bound
invariant-loop-bound l = are_natural l.bounds ≡ are_natural (drop l.bound-index l.bounds)
