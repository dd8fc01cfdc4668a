use Rattle.std.proofs.Common.{◌≡◌, drop}
use Rattle.std.specs.List.{find}
use Rattle.otel_data.specs.Values.{is_set}
use Rattle.otel_data.proofs.values.first_of.Given as goal

-- no point before the next one has the set of attributes
abbrev pub invariant-loop-point : goal.invariant-loop-point
invariant-loop-point g l = find (λ point. is_set l.attributes (g.P.Point.place point)) l.points ≡ find (λ point. is_set l.attributes (g.P.Point.place point)) (drop l.point-index l.points)
