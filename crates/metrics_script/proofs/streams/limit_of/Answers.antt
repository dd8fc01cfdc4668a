use Rattle.std.proofs.Common.{codes, map}
use Rattle.metrics_script.specs.Calls.{IsIndexWord}
use Rattle.metrics_script.proofs.Unread.{no_option, on_err}
use Rattle.metrics_script.proofs.streams.limit_of.Goals as goal

pub returns-in_err-value-clause-meaningless : goal.returns-in_err-value-clause-meaningless
returns-in_err-value-clause-meaningless c = on_err c.from_residual.result _ (no_option IsIndexWord (codes "limit") (map (λ word. word.now) c.args.words.now) c.in_err-value.ensures.meaningless)
