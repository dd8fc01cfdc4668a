use Rattle.otel_model_rows.proofs.RowsBooks.{through_handle}
use Rattle.otel_model_rows.proofs.words.books.Goals as goal

pub returns : goal.returns
returns c = record { through_handle = through_handle }
