use Rattle.std.specs.Prelude.{[], ◌∷◌}
use Rattle.otel_model_rows.proofs.RowsStreamLaws.{laws_of_folds}
use Rattle.otel_model_rows.proofs.streams.laws.Goals as goal
use Rattle.otel_model_rows.specs.StreamRows.{amount}

pub returns : goal.returns
returns c = record { forgotten = (laws_of_folds (amount 4 ∷ amount 11 ∷ []) []).3 }
