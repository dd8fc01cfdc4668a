use Rattle.std.proofs.Common.{◌≡◌, drop}
use Rattle.otel_common.specs.Resources.{value_at}
use Rattle.otel_common.proofs.resource.Resource.get_ref.Given as goal

-- none of the attributes so far has the key
abbrev pub invariant-loop-attribute : goal.invariant-loop-attribute
invariant-loop-attribute l = value_at l.fn.key l.fn.self.attributes ≡ value_at l.fn.key (drop l.attribute-index l.attribute-items)
