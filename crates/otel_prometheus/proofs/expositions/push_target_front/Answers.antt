use Rattle.otel_prometheus.proofs.expositions.push_target_front.Goals as goal

pub returns-in-Prometheus : goal.returns-in-Prometheus
returns-in-Prometheus c = rw c.in-Prometheus.is c.push_target_type.ensures

pub returns-in-OpenMetrics : goal.returns-in-OpenMetrics
returns-in-OpenMetrics c = rw c.in-OpenMetrics.is c.push_target_type-in-OpenMetrics.ensures
