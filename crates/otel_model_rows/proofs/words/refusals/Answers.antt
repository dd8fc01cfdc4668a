use Rattle.otel_model_rows.proofs.RowsRefusals.{first_faults}
use Rattle.otel_model_rows.proofs.words.refusals.Goals as goal

pub returns : goal.returns
returns c = record { first_faults = first_faults.1 }
