use Rattle.otel_common.specs.Equality.{array_eq-Decides, value_eq-Decides, key_value_eq-Decides}
use Rattle.otel_common.proofs.laws.equal_attributes.Goals as goal

pub returns-clause-array : goal.returns-clause-array
returns-clause-array c = array_eq-Decides

pub returns-clause-value : goal.returns-clause-value
returns-clause-value c = value_eq-Decides

pub returns-clause-attribute : goal.returns-clause-attribute
returns-clause-attribute c = key_value_eq-Decides
