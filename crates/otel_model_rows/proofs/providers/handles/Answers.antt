use Rattle.otel_model_rows.proofs.RowsHandles.{counter_bound}
use Rattle.otel_model_rows.proofs.providers.handles.Goals as goal

pub returns : goal.returns
returns c = record { counter_bound = counter_bound }
