use Rattle.std.proofs.Common.{◌≡◌, drop}
use Rattle.otel_data.specs.Values.{is_first}
use Rattle.otel_data.proofs.values.is_first.Given as goal

-- no attribute before the next one has the key
abbrev pub invariant-loop-given : goal.invariant-loop-given
invariant-loop-given l = is_first l.attributes l.own ≡ is_first (drop l.given-index l.attributes) l.own
