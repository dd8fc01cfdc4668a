use Rattle.otel_model.proofs.Shows.{records_by_number, binds_by_number, unheld_rests, handles_by_number, observations_by_number, collects_after}
use Rattle.otel_model.proofs.numbers.Goals as goal

pub returns-clause-records : goal.returns-clause-records
returns-clause-records c = records_by_number

pub returns-clause-binds : goal.returns-clause-binds
returns-clause-binds c = binds_by_number

pub returns-clause-unheld : goal.returns-clause-unheld
returns-clause-unheld c = unheld_rests

pub returns-clause-handles : goal.returns-clause-handles
returns-clause-handles c = handles_by_number

pub returns-clause-observations : goal.returns-clause-observations
returns-clause-observations c = observations_by_number

pub returns-clause-collects : goal.returns-clause-collects
returns-clause-collects c = collects_after
