use Rattle.otel_model_rows.proofs.RowsLawful.{unbalanced}
use Rattle.otel_model_rows.proofs.words.lawful.Goals as goal

pub returns : goal.returns
returns c = record { unbalanced = unbalanced }
