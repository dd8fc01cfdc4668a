use Rattle.std.proofs.Common.{◌≤◌}
use Rattle.otel_bench.proofs.typed.counted_bound_adds.Given as goal

-- no more was added than tried
abbrev pub invariant-loop : goal.invariant-loop
invariant-loop g l = l.made ≤ l.counter
