use Rattle.std.proofs.Common.{arith}
use Rattle.otel_prometheus.proofs.PlainLemmas.{plain_from_lanes}
use Rattle.otel_prometheus.proofs.text.plain.plain_16.Goals as goal

pub returns : goal.returns
returns c = plain_from_lanes c.args.text.now c.args.at 16 c.requires (omega arith)
