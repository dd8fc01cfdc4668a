use Rattle.otel_model_rows.proofs.RowsPlaces.{row_22}
use Rattle.otel_model_rows.proofs.providers.places.Goals as goal

pub returns : goal.returns
returns c = record { row_22 = row_22 }
