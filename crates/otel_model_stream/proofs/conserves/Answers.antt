use Rattle.otel_model_stream.proofs.conserves.Goals as goal
use Rattle.otel_model_stream.proofs.Conserved.{delta_total, cumulative_total, few_are}

pub returns-clause-delta : goal.returns-clause-delta
returns-clause-delta c = delta_total

pub returns-clause-cumulative : goal.returns-clause-cumulative
returns-clause-cumulative c = cumulative_total

pub returns-clause-few : goal.returns-clause-few
returns-clause-few c = few_are
