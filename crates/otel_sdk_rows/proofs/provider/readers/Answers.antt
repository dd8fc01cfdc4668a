use Rattle.otel_sdk_rows.proofs.RowsReaders.{shutdown_shuts}
use Rattle.otel_sdk_rows.proofs.provider.readers.Goals as goal

pub returns : goal.returns
returns c = record { shutdown_shuts = shutdown_shuts }
