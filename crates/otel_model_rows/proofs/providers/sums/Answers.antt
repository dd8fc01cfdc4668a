use Rattle.otel_model_rows.proofs.RowsSums.{row_6}
use Rattle.otel_model_rows.proofs.providers.sums.Goals as goal

pub returns : goal.returns
returns c = record { row_6 = row_6 }
