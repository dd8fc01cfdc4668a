use Rattle.std.proofs.Common.{◌-◌, ◌≤◌, length}
use Rattle.otel_prometheus.specs.Plain.{PlainBetween}
use Rattle.otel_prometheus.proofs.text.plain.plain_long.Given as goal

-- the bytes so far stand for themselves
abbrev pub invariant-loop-at : goal.invariant-loop-at
invariant-loop-at l = (l.at ≤ length l.text) × PlainBetween l.text 0 l.at

abbrev pub decreases-loop-at : goal.decreases-loop-at
decreases-loop-at l = length l.text - l.at
