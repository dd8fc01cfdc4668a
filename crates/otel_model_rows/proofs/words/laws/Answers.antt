use Rattle.otel_model_rows.proofs.RowsLaws.{lost_reader}
use Rattle.otel_model_rows.proofs.RowsRuns.{as_only_from_any}
use Rattle.otel_model_rows.proofs.words.laws.Goals as goal

pub returns : goal.returns
returns c = record { lost_reader = lost_reader; as_only_from_any = as_only_from_any }
