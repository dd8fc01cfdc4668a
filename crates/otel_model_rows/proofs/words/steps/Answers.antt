use Rattle.otel_model_rows.proofs.RowsSteps.{end_of_handle}
use Rattle.otel_model_rows.proofs.words.steps.Goals as goal

pub returns : goal.returns
returns c = record { end_of_handle = end_of_handle }
