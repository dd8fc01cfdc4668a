use Rattle.otel_prometheus.proofs.LawLemmas.{families_apart}
use Rattle.otel_prometheus.proofs.laws.names_stand_apart.Goals as goal

pub returns : goal.returns
returns c = families_apart
