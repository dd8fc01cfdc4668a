use Rattle.otel_model_rows.proofs.RowsHeadings.{drained_start}
use Rattle.otel_model_rows.proofs.providers.headings.Goals as goal

pub returns : goal.returns
returns c = record { drained_start = drained_start }
