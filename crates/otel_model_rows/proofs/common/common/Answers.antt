use Rattle.otel_model_rows.proofs.RowsCommon.{last_number}
use Rattle.otel_model_rows.proofs.common.common.Goals as goal

pub returns : goal.returns
returns c = record { last_number = last_number }
