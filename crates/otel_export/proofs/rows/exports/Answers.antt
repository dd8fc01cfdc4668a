use Rattle.otel_export.proofs.RowsExports.{feed}
use Rattle.otel_export.proofs.rows.exports.Goals as goal

pub returns : goal.returns
returns c = record { feed = feed }
