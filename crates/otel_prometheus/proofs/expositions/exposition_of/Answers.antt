use Rattle.std.proofs.Common.{rules}
use Rattle.otel_prometheus.proofs.LineLemmas.{same_left_out}
use Rattle.otel_prometheus.proofs.expositions.exposition_of.Goals as goal

pub returns-clause-left_out : goal.returns-clause-left_out
returns-clause-left_out c = same_left_out _ _ _ _ _ _ c.delta_points.ensures (search rules) c.in_ok-doubled.ensures.doubled
