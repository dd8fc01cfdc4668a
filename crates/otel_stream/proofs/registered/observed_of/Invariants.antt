use Rattle.std.proofs.Common.{◌≡◌, ◌++◌, map}
use Rattle.otel_stream.specs.Runs.{of_instrument}
use Rattle.otel_stream.proofs.registered.observed_of.Given as goal

-- what was made so far and what is left are all
abbrev pub invariant-loop-value : goal.invariant-loop-value
invariant-loop-value g l =
    l.observed.items ++ map (of_instrument g.T.NumberType.value l.fn.instrument) l.value-iterator.rest.items
    ≡ map (of_instrument g.T.NumberType.value l.fn.instrument) l.fn.left.items
