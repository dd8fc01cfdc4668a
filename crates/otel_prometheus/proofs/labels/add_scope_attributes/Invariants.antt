use Rattle.std.proofs.Common.{◌≡◌, drop, fold}
use Rattle.otel_prometheus.specs.Labels.{with_scope_attribute}
use Rattle.otel_prometheus.proofs.labels.add_scope_attributes.Given as goal

-- with the attributes that are left all are there
abbrev pub invariant-loop-attribute : goal.invariant-loop-attribute
invariant-loop-attribute l = fold with_scope_attribute l.labels.items (drop l.attribute-index l.attributes) ≡ fold with_scope_attribute l.fn.labels.items l.attributes
