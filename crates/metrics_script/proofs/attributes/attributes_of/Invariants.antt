use Rattle.std.proofs.Common.{map}
use Rattle.std.specs.List.{AllZip}
use Rattle.metrics_script.specs.Attributes.{IsAttributeWord}
use Rattle.metrics_script.proofs.attributes.attributes_of.Given as goal

-- the words so far are those of the attributes so far
abbrev pub invariant-loop-pair : goal.invariant-loop-pair
invariant-loop-pair l = AllZip IsAttributeWord (map (λ x. x.now) l.yielded) l.attributes.items
