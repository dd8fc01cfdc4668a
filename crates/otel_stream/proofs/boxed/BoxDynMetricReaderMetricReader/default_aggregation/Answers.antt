use Rattle.std.proofs.Common.{◌≡◌}
use Rattle.std.specs.Prelude.{option_copied}
use Rattle.otel_stream.proofs.Boxes.{carried_at}
use Rattle.otel_stream.proofs.boxed.BoxDynMetricReaderMetricReader.default_aggregation.Goals as goal

pub returns : goal.returns
returns g c = carried_at (λ v a. option_copied c.default_aggregation.result ≡ (goal.MetricReader-dyn g (v, a)).aggregation a c.args.kind) _ _ c.as_ref.ensures.1 c.default_aggregation.ensures
