use Rattle.otel_sdk_rows.proofs.RowsShared.{stops_without_records}
use Rattle.otel_sdk_rows.proofs.provider.shared.Goals as goal

pub returns : goal.returns
returns c = record { stops_without_records = stops_without_records }
