use Rattle.otel_model.proofs.Differences.{differences_law}
use Rattle.otel_model.proofs.differs.Goals as goal

pub returns : goal.returns
returns c = record { only = differences_law }
