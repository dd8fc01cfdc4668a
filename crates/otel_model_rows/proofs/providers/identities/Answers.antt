use Rattle.otel_model_rows.proofs.RowsIdentities.{two_names}
use Rattle.otel_model_rows.proofs.providers.identities.Goals as goal

pub returns : goal.returns
returns c = record { two_names = two_names }
