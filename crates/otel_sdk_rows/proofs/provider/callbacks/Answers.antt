use Rattle.otel_sdk_rows.proofs.RowsCallbacks.{fault_changes_nothing}
use Rattle.otel_sdk_rows.proofs.provider.callbacks.Goals as goal

pub returns : goal.returns
returns c = record { fault_changes_nothing = fault_changes_nothing }
