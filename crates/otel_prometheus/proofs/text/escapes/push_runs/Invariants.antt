use Rattle.std.proofs.Common.{◌≡◌, ◌++◌, length}
use Rattle.otel_prometheus.specs.Samples.{escaped}
use Rattle.otel_prometheus.proofs.text.escapes.push_runs.Given as goal

-- with what is left the value is whole
abbrev pub invariant-loop-plain : goal.invariant-loop-plain
invariant-loop-plain l = l.out.items ++ escaped l.rest ≡ l.fn.out.items ++ escaped l.text

abbrev pub decreases-loop-plain : goal.decreases-loop-plain
decreases-loop-plain l = length l.rest
