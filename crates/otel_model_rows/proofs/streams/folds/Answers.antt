use Rattle.otel_model_rows.proofs.RowsFolds.{lessened}
use Rattle.otel_model_rows.proofs.streams.folds.Goals as goal

pub returns : goal.returns
returns c = record { lessened = lessened.1 }
