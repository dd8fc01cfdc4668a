use Rattle.otel_model_rows.proofs.RowsStates.{meters_added}
use Rattle.otel_model_rows.proofs.words.states.Goals as goal

pub returns : goal.returns
returns c = record { same_meter = meters_added.0 }
