use Rattle.otel_model_rows.proofs.RowsHistories.{new_scopes}
use Rattle.otel_model_rows.proofs.words.histories.Goals as goal

pub returns : goal.returns
returns c = record { no_new_scope = new_scopes.1 }
