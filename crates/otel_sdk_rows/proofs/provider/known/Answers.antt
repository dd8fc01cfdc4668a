use Rattle.otel_sdk_rows.proofs.RowsKnown.{refused_for_memory}
use Rattle.otel_sdk_rows.proofs.provider.known.Goals as goal

pub returns : goal.returns
returns c = record { refused_for_memory = refused_for_memory }
