use Rattle.otel_model_rows.proofs.RowsCallbackRuns.{no_fault_of_none}
use Rattle.otel_model_rows.proofs.readers.runs.Goals as goal

pub returns : goal.returns
returns c = record { no_fault_of_none = no_fault_of_none }
