use Rattle.std.proofs.Common.{◌≡◌, flat_map, drop, fold}
use Rattle.otel_prometheus.specs.Groups.{member_series}
use Rattle.otel_prometheus.specs.Texts.{with_series}
use Rattle.otel_prometheus.proofs.expositions.add_members.Given as goal

-- with the metrics that are left the series are whole
abbrev pub invariant-loop-member : goal.invariant-loop-member
invariant-loop-member l = fold with_series l.texts (flat_map (member_series l.settings l.heading) (drop l.member-index l.members)) ≡ fold with_series l.fn.texts (flat_map (member_series l.settings l.heading) l.members)
