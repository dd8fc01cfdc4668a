use Rattle.std.proofs.Common.{◌≡◌, ◌+◌, length}
use Rattle.otel_stream.specs.Selectors.{matches, some_end}
use Rattle.otel_stream.proofs.patterns.has_matching_end.Given as goal

-- an end of what is left fits what is left of the pattern exactly if one of the whole fits the whole
abbrev pub invariant-loop-rest : goal.invariant-loop-rest
invariant-loop-rest l = some_end (matches l.fn.pattern) l.fn.text ≡ some_end (matches l.pattern) l.text

abbrev pub decreases-loop-rest : goal.decreases-loop-rest
decreases-loop-rest l = length l.pattern + length l.text
