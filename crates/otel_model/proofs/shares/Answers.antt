use Rattle.otel_model.proofs.Alike.{alike_law}
use Rattle.otel_model.proofs.shares.Goals as goal

pub returns : goal.returns
returns c = record { only = alike_law }
