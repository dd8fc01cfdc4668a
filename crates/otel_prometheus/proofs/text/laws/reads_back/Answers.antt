use Rattle.otel_prometheus.proofs.RoundTrip.{read_lines}
use Rattle.otel_prometheus.proofs.text.laws.reads_back.Goals as goal

pub returns : goal.returns
returns c = read_lines
