use Rattle.otel_model.proofs.batches.Laws.{groups_law, refusals_law, firsts_law}
use Rattle.otel_model.proofs.groups.Goals as goal

pub returns-clause-batches : goal.returns-clause-batches
returns-clause-batches c = groups_law

pub returns-clause-refusals : goal.returns-clause-refusals
returns-clause-refusals c = refusals_law

pub returns-clause-beginnings : goal.returns-clause-beginnings
returns-clause-beginnings c = firsts_law
