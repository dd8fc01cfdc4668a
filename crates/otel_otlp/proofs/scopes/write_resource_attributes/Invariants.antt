use Rattle.otel_otlp.specs.Attributes.{attribute_json}
use Rattle.otel_otlp.proofs.Steps.{Left}
use Rattle.otel_otlp.proofs.scopes.write_resource_attributes.Given as goal

-- with the attributes that are left the array is whole
abbrev pub invariant-loop-key : goal.invariant-loop-key
invariant-loop-key l = Left attribute_json l.fn.out l.out l.resource.attributes l.key-iterator
