use Rattle.otel_model_rows.proofs.RowsChecks.{row_16}
use Rattle.otel_model_rows.proofs.words.checks.Goals as goal

pub returns : goal.returns
returns c = record { row_16 = row_16 }
