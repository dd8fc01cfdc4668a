use Rattle.otel_export_rows.proofs.RowsExpositions.{ends_in_mid_line}
use Rattle.otel_export_rows.proofs.readers.expositions.Goals as goal

pub returns : goal.returns
returns c = record { no_text_ends_in_mid_line = ends_in_mid_line.0 }
