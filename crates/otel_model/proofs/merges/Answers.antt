use Rattle.otel_common.proofs.Merging.{values_law, canonical_law, left_law, right_law}
use Rattle.otel_model.proofs.merges.Goals as goal

pub returns-clause-values : goal.returns-clause-values
returns-clause-values c = values_law

pub returns-clause-canonical : goal.returns-clause-canonical
returns-clause-canonical c = canonical_law

pub returns-clause-left : goal.returns-clause-left
returns-clause-left c = left_law

pub returns-clause-right : goal.returns-clause-right
returns-clause-right c = right_law
