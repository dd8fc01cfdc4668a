use Rattle.otel_model_rows.proofs.RowsWants.{lawful}
use Rattle.otel_model_rows.proofs.readers.wants.Goals as goal

pub returns : goal.returns
returns c = record { lawful = lawful }
