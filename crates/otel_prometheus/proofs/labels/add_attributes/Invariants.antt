use Rattle.std.proofs.Common.{◌≡◌, drop}
use Rattle.otel_prometheus.specs.Labels.{with_attributes}
use Rattle.otel_prometheus.proofs.labels.add_attributes.Given as goal

-- with the attributes that are left the labels are whole
abbrev pub invariant-loop-attribute : goal.invariant-loop-attribute
invariant-loop-attribute l = with_attributes l.has_bounds l.labels.items (drop l.attribute-index l.attributes) ≡ with_attributes l.has_bounds l.fn.labels.items l.attributes
