use Rattle.std.proofs.Common.{◌≡◌, map, drop, fold}
use Rattle.otel_prometheus.specs.Labels.{scope_labels, without_empty}
use Rattle.otel_prometheus.specs.Rising.{comma_texts}
use Rattle.otel_prometheus.specs.Texts.{with_series}
use Rattle.otel_prometheus.proofs.points.add_each.Given as goal

-- with the points that are left the series are whole
abbrev pub invariant-loop-point : goal.invariant-loop-point
invariant-loop-point g l = record {
  series : fold with_series l.texts (map (g.P.Point.series l.settings l.has_sum l.scope l.heading) (drop l.point-index l.points)) ≡ fold with_series l.fn.texts (map (g.P.Point.series l.settings l.has_sum l.scope l.heading) l.points);
  of_scope : l.spelling.scope_text.items ≡ comma_texts (without_empty (scope_labels l.settings l.scope));
}
