use Rattle.otel_export_rows.proofs.RowsConsumers.{target_shown}
use Rattle.otel_export_rows.proofs.readers.points.Goals as goal

pub returns : goal.returns
returns c = record { no_target_without_labels = target_shown.0 }
