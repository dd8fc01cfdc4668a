use Rattle.std.proofs.Common.{◌≡◌, drop}
use Rattle.otel_prometheus.specs.Rising.{rises}
use Rattle.otel_prometheus.proofs.rising.rises.Given as goal

-- all names rise if those do that are left
abbrev pub invariant-loop-name : goal.invariant-loop-name
invariant-loop-name l = rises l.before l.names ≡ rises l.last (drop l.name-index l.names)
