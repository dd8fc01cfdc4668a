use Rattle.std.proofs.Common.{◌≤◌, length, drop}
use Rattle.otel_stream.proofs.Following.{Reached}
use Rattle.otel_stream.proofs.patterns.follow.Given as goal

-- the text fits the pattern so far, and is not shorter
abbrev pub invariant-loop-place : goal.invariant-loop-place
invariant-loop-place l = (l.place ≤ length l.text) × Reached l.pattern l.text (drop l.place l.pattern) (drop l.place l.text)
