use Rattle.otel_model.proofs.Reorder.{records_law, binds_law, observations_law}
use Rattle.otel_model.proofs.orders.Goals as goal

pub returns-clause-records : goal.returns-clause-records
returns-clause-records c = records_law

pub returns-clause-binds : goal.returns-clause-binds
returns-clause-binds c = binds_law

pub returns-clause-observations : goal.returns-clause-observations
returns-clause-observations c = observations_law
