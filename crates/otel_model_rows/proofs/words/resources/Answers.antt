use Rattle.otel_model_rows.proofs.RowsResources.{no_url}
use Rattle.otel_model_rows.proofs.words.resources.Goals as goal

pub returns : goal.returns
returns c = record { no_url = no_url }
