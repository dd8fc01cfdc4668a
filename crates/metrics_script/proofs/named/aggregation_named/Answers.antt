use Rattle.std.proofs.Common.{map}
use Rattle.metrics_script.specs.Aggregations.{IsAggregationWord}
use Rattle.metrics_script.proofs.Unread.{no_option, if_bad}
use Rattle.metrics_script.proofs.named.aggregation_named.Goals as goal

pub returns-in_err-value-clause-meaningless : goal.returns-in_err-value-clause-meaningless
returns-in_err-value-clause-meaningless c = if_bad c.from_residual.result _ (no_option IsAggregationWord c.args.name.now (map (λ word. word.now) c.args.words.now) c.in_err-value.ensures.meaningless)
