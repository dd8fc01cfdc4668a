use Rattle.otel_prometheus.specs.Plain.{PlainBetween}
use Rattle.otel_prometheus.proofs.text.plain.plain_few.Given as goal

-- the bytes so far stand for themselves
abbrev pub invariant-loop-byte : goal.invariant-loop-byte
invariant-loop-byte l = PlainBetween l.text 0 l.byte-index
