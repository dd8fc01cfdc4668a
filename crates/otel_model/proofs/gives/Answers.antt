use Rattle.otel_common.proofs.Merging.{given_law, own_law, one_by_one_law}
use Rattle.otel_model.proofs.gives.Goals as goal

pub returns-clause-given : goal.returns-clause-given
returns-clause-given c = given_law

pub returns-clause-own : goal.returns-clause-own
returns-clause-own c = own_law

pub returns-clause-one_by_one : goal.returns-clause-one_by_one
returns-clause-one_by_one c = one_by_one_law
