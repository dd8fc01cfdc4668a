use Rattle.otel_model_rows.proofs.RowsCollections.{replies_to_collections}
use Rattle.otel_model_rows.proofs.words.collections.Goals as goal

pub returns : goal.returns
returns c = record { unknown_reader = replies_to_collections.0 }
