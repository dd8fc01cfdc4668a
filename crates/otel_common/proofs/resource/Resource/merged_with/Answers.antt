use Rattle.otel_common.proofs.Merging.{values_law}
use Rattle.otel_common.proofs.resource.Resource.merged_with.Goals as goal

pub returns-clause-values : goal.returns-clause-values
returns-clause-values c = λ key. rw c.in_ok-attributes.ensures.set (values_law c.args.self c.args.other key)
