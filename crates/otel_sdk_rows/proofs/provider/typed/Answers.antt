use Rattle.otel_sdk_rows.proofs.RowsTyped.{identity}
use Rattle.otel_sdk_rows.proofs.provider.typed.Goals as goal

pub returns : goal.returns
returns c = record { identity = λ p. identity p }
