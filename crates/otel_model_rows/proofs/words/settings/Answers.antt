use Rattle.otel_model_rows.proofs.RowsSettings.{overflow_attribute}
use Rattle.otel_model_rows.proofs.words.settings.Goals as goal

pub returns : goal.returns
returns c = record { overflow_attribute = overflow_attribute }
