use Rattle.otel_export_rows.proofs.RowsNumbers.{last_digits}
use Rattle.otel_export_rows.proofs.spellings.numbers.Goals as goal

pub returns : goal.returns
returns c = record { last_digits = last_digits }
