use Rattle.otel_model_rows.proofs.RowsShowing.{fed_nowhere}
use Rattle.otel_model_rows.proofs.words.showing.Goals as goal

pub returns : goal.returns
returns c = record { fed_nowhere = fed_nowhere }
