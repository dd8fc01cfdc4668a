use Rattle.std.proofs.Common.{◌≡◌, ◌++◌, map, drop}
use Rattle.otel_prometheus.specs.Rising.{value_front}
use Rattle.otel_prometheus.proofs.rising.fronts_of.Given as goal

-- with the names that are left all are there
abbrev pub invariant-loop-name : goal.invariant-loop-name
invariant-loop-name l = l.fronts.items ++ map value_front (drop l.name-index l.names) ≡ map value_front l.names
