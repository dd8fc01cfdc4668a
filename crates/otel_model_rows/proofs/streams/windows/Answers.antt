use Rattle.otel_model_rows.proofs.RowsWindows.{firsts}
use Rattle.otel_model_rows.proofs.streams.windows.Goals as goal

pub returns : goal.returns
returns c = record { firsts = firsts.0 }
