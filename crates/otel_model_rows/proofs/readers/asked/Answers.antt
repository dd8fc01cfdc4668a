use Rattle.otel_model_rows.proofs.RowsAsked.{five_seconds}
use Rattle.otel_model_rows.proofs.readers.asked.Goals as goal

pub returns : goal.returns
returns c = record { five_seconds = five_seconds }
