use Rattle.otel_prometheus.proofs.ShownLemmas.{points_counted}
use Rattle.otel_prometheus.proofs.laws.nothing_is_lost.Goals as goal

pub returns : goal.returns
returns c = points_counted
