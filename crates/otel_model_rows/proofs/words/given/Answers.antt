use Rattle.otel_model_rows.proofs.RowsGiven.{replies_of_run}
use Rattle.otel_model_rows.proofs.words.given.Goals as goal

pub returns : goal.returns
returns c = record { replies_of_run = replies_of_run }
