use Rattle.otel_model_rows.proofs.RowsViews.{row_46_other}
use Rattle.otel_model_rows.proofs.providers.views.Goals as goal

pub returns : goal.returns
returns c = record { row_46 = row_46_other }
