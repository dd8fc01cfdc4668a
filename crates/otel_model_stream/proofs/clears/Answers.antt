use Rattle.otel_model_stream.proofs.clears.Goals as goal
use Rattle.otel_model_stream.specs.Folds.{clear_fold_empty}
use Rattle.otel_model_stream.proofs.Clearing.{cleared_list, cleared_steps}

pub returns-clause-nothing : goal.returns-clause-nothing
returns-clause-nothing c = clear_fold_empty

pub returns-clause-list : goal.returns-clause-list
returns-clause-list c = cleared_list

pub returns-clause-steps : goal.returns-clause-steps
returns-clause-steps c = cleared_steps
