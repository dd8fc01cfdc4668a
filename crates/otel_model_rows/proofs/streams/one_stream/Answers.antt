use Rattle.otel_model_rows.proofs.RowsStream.{row_4}
use Rattle.otel_model_rows.proofs.streams.one_stream.Goals as goal

pub returns : goal.returns
returns c = record { row_4 = row_4 }
