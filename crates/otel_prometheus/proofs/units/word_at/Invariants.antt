use Rattle.std.proofs.Common.{◌≡◌, map, drop}
use Rattle.otel_prometheus.specs.Units.{word_at}
use Rattle.otel_prometheus.proofs.units.word_at.Given as goal

-- none of the entries so far is that of the unit
abbrev pub invariant-loop-entry : goal.invariant-loop-entry
invariant-loop-entry l = word_at (map (λ e. (e.0.now, e.1.now)) (drop l.entry-index l.table)) l.unit ≡ word_at (map (λ e. (e.0.now, e.1.now)) l.table) l.unit
