use Rattle.otel_prometheus.proofs.DistinctLemmas.{points_distinct}
use Rattle.otel_prometheus.proofs.laws.points_are_distinct.Goals as goal

pub returns : goal.returns
returns c = points_distinct
