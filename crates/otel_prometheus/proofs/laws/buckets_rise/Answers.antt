use Rattle.otel_prometheus.proofs.LawLemmas.{buckets_rise_up}
use Rattle.otel_prometheus.proofs.laws.buckets_rise.Goals as goal

pub returns : goal.returns
returns c = buckets_rise_up
