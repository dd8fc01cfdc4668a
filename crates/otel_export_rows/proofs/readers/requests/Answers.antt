use Rattle.otel_export_rows.proofs.RowsRequests.{nothing_in_null}
use Rattle.otel_export_rows.proofs.readers.requests.Goals as goal

pub returns : goal.returns
returns c = record { nothing_in_null = nothing_in_null }
