use Rattle.otel_model.proofs.batches.Providers.{placed_law}
use Rattle.otel_model.proofs.keeps_places.Goals as goal

pub returns : goal.returns
returns c = record { only = placed_law }
