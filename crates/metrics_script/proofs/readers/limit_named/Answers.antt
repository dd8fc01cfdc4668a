use Rattle.std.proofs.Common.{map}
use Rattle.metrics_script.specs.Readers.{IsLimitWord}
use Rattle.metrics_script.proofs.Unread.{no_option, on_err}
use Rattle.metrics_script.proofs.readers.limit_named.Goals as goal

pub returns-in_err-value-clause-meaningless : goal.returns-in_err-value-clause-meaningless
returns-in_err-value-clause-meaningless c = on_err c.from_residual.result _ (no_option IsLimitWord c.args.name.now (map (λ word. word.now) c.args.words.now) c.in_err-value.ensures.meaningless)
