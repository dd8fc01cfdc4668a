use Rattle.std.proofs.Common.{◌≡◌, take}
use Rattle.otel_prometheus.specs.Samples.{escaped}
use Rattle.otel_prometheus.proofs.text.escapes.split_special.Given as goal

-- the bytes so far stand for themselves
abbrev pub invariant-loop-index : goal.invariant-loop-index
invariant-loop-index l = escaped (take l.index l.text) ≡ take l.index l.text
