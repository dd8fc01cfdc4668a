use Rattle.std.proofs.Common.{◌≡◌, ◌+◌, ◌%◌, ◌^◌, ◌++◌, [], flat_map, drop}
use Rattle.otel_prometheus.specs.Lines.{text_of}
use Rattle.otel_prometheus.specs.Totals.{total}
use Rattle.otel_prometheus.specs.Groups.{group_lines, group_series}
use Rattle.otel_prometheus.specs.Series.{doubled}
use Rattle.otel_prometheus.proofs.expositions.push_groups.Given as goal

-- with the families that are left the text and the count are whole
abbrev pub invariant-loop-group : goal.invariant-loop-group
invariant-loop-group l = record {
  text : l.out.items ++ text_of l.settings.format (flat_map (group_lines l.settings) (drop l.group-index l.groups)) ≡ l.fn.out.items ++ text_of l.settings.format (flat_map (group_lines l.settings) l.groups);
  doubled : (l.count + total (λ g. doubled [] (group_series l.settings g)) (drop l.group-index l.groups)) % 2 ^ 64 ≡ total (λ g. doubled [] (group_series l.settings g)) l.groups % 2 ^ 64;
}
