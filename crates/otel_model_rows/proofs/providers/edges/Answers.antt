use Rattle.otel_model_rows.proofs.RowsEdges.{bound_gauge}
use Rattle.otel_model_rows.proofs.providers.edges.Goals as goal

pub returns : goal.returns
returns c = record { bound_gauge = bound_gauge }
