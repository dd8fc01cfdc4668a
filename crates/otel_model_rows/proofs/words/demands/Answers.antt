use Rattle.otel_model_rows.proofs.RowsDemands.{usual_numbers}
use Rattle.otel_model_rows.proofs.words.demands.Goals as goal

pub returns : goal.returns
returns c = record { usual_limit = usual_numbers.0 }
