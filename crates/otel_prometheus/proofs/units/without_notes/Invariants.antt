use Rattle.std.proofs.Common.{◌≡◌, ◌++◌, drop, false}
use Rattle.otel_prometheus.specs.Units.{without_notes}
use Rattle.otel_prometheus.proofs.units.without_notes.Given as goal

-- with what is kept of the bytes that are left the unit is whole
abbrev pub invariant-loop-byte : goal.invariant-loop-byte
invariant-loop-byte l = l.plain.items ++ without_notes l.is_open (drop l.byte-index l.unit) ≡ without_notes false l.unit
