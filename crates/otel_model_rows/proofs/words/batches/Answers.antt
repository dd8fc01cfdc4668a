use Rattle.otel_model_rows.proofs.RowsBatches.{numbers_first_seen}
use Rattle.otel_model_rows.proofs.words.batches.Goals as goal

pub returns : goal.returns
returns c = record { numbers_first_seen = numbers_first_seen }
