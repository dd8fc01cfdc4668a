use Rattle.std.proofs.Common.{◌≤◌}
use Rattle.otel_bench.proofs.counted.counted_rounds.Given as goal

-- no more calls were carried out than made
abbrev pub invariant-loop : goal.invariant-loop
invariant-loop g l = l.made ≤ l.counter
