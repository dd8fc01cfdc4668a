use Rattle.std.proofs.Common.{◌≡◌}
use Rattle.otel_stream.proofs.Boxes.{carried_at}
use Rattle.otel_stream.proofs.boxed.BoxDynMetricReaderMetricReader.cardinality_limit.Goals as goal

pub returns : goal.returns
returns g c = carried_at (λ v a. c.cardinality_limit.result ≡ (goal.MetricReader-dyn g (v, a)).limit a c.args.kind) _ _ c.as_ref.ensures.1 c.cardinality_limit.ensures
