use Rattle.otel_model_rows.proofs.RowsBuilds.{not_good}
use Rattle.otel_model_rows.proofs.RowsOrders.{key_twice}
use Rattle.otel_model_rows.proofs.words.orders.Goals as goal

pub returns : goal.returns
returns c = record { key_twice = key_twice; not_good = not_good }
