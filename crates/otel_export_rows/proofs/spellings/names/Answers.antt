use Rattle.otel_export_rows.proofs.RowsNames.{without_a_unit}
use Rattle.otel_export_rows.proofs.spellings.names.Goals as goal

pub returns : goal.returns
returns c = record { nothing_without_a_unit = without_a_unit }
