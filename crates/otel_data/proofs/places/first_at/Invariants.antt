use Rattle.std.proofs.Common.{◌≡◌, drop}
use Rattle.std.specs.List.{find}
use Rattle.std.specs.Cmp.Lexicographic.{pointwise}
use Rattle.otel_common.specs.Equality.{key_value_eq}
use Rattle.otel_data.proofs.places.first_at.Given as goal

-- no point before the next one has the attributes
abbrev pub invariant-loop-point : goal.invariant-loop-point
invariant-loop-point g l = find (λ point. pointwise key_value_eq (g.P.Point.place point) l.attributes) l.points ≡ find (λ point. pointwise key_value_eq (g.P.Point.place point) l.attributes) (drop l.point-index l.points)
