use Rattle.otel_sdk_rows.proofs.RowsCalls.{recorded}
use Rattle.otel_sdk_rows.proofs.provider.calls.Goals as goal

pub returns : goal.returns
returns c = record { recorded = recorded }
