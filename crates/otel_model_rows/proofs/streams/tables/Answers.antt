use Rattle.otel_model_rows.proofs.RowsTables.{begun}
use Rattle.otel_model_rows.proofs.streams.tables.Goals as goal

pub returns : goal.returns
returns c = record { begun = begun.0 }
