use Rattle.otel_otlp.proofs.Says.{request_says}
use Rattle.otel_otlp.proofs.laws.says_collection.Goals as goal

pub returns : goal.returns
returns c = request_says
