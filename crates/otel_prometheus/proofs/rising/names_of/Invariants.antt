use Rattle.std.proofs.Common.{◌≡◌, ◌++◌, map, drop}
use Rattle.otel_prometheus.specs.Names.{name_of}
use Rattle.otel_prometheus.specs.Samples.{is_label_byte}
use Rattle.otel_prometheus.specs.Labels.{own_name}
use Rattle.otel_prometheus.proofs.rising.names_of.Given as goal

-- with the names that are left all are there
abbrev pub invariant-loop-key : goal.invariant-loop-key
invariant-loop-key l =
    l.names.items ++ map (λ key. own_name l.has_bounds (name_of is_label_byte key)) (drop l.key-index l.keys) ≡ map (λ key. own_name l.has_bounds (name_of is_label_byte key)) l.keys
