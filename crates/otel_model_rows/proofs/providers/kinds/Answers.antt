use Rattle.otel_model_rows.proofs.RowsKinds.{delta_answers}
use Rattle.otel_model_rows.proofs.providers.kinds.Goals as goal

pub returns : goal.returns
returns c = record { delta_answers = delta_answers }
