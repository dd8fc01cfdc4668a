use Rattle.otel_model.proofs.Booked.{accepted_law}
use Rattle.otel_model.proofs.accounts.Goals as goal

pub returns : goal.returns
returns c = record { only = accepted_law }
