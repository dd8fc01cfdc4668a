use Rattle.otel_otlp.proofs.Steps.{Writing}
use Rattle.otel_otlp.proofs.points.write_points.Given as goal

-- with the points that are left the array is whole
abbrev pub invariant-loop-point : goal.invariant-loop-point
invariant-loop-point g l = Writing (g.P.Point.json l.has_sum l.start l.time) l.fn.out l.out l.points l.point-index
