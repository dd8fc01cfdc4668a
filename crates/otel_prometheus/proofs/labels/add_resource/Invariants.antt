use Rattle.std.proofs.Common.{◌≡◌, false}
use Rattle.otel_prometheus.specs.Labels.{with_attributes}
use Rattle.otel_prometheus.proofs.labels.add_resource.Given as goal

-- with the attributes that are left the labels are whole
abbrev pub invariant-loop-key : goal.invariant-loop-key
invariant-loop-key l = with_attributes false l.labels.items l.key-iterator ≡ with_attributes false l.fn.labels.items l.resource.attributes
