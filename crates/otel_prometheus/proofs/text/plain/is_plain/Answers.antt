use Rattle.otel_prometheus.proofs.PlainLemmas.{on_plain}
use Rattle.otel_prometheus.proofs.text.plain.is_plain.Goals as goal

pub returns : goal.returns
returns c = on_plain c.all_plain.result c.args.text.now c.all_plain.ensures
