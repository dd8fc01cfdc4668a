use Rattle.otel_prometheus.specs.declared.text.formats.Format.TheVariants.{OpenMetrics}
use Rattle.otel_prometheus.proofs.expositions.push_end.Goals as goal

pub returns-in-OpenMetrics : goal.returns-in-OpenMetrics
returns-in-OpenMetrics c = rw c.in-OpenMetrics.is (c.push_finish.ensures OpenMetrics)
