use Rattle.std.proofs.Common.{codes, map}
use Rattle.metrics_script.specs.Keys.{ReadsKeys}
use Rattle.metrics_script.proofs.Unread.{no_option, if_bad}
use Rattle.metrics_script.proofs.streams.allowed_keys_of.Goals as goal

pub returns-in_err-value-clause-meaningless : goal.returns-in_err-value-clause-meaningless
returns-in_err-value-clause-meaningless c = if_bad c.from_residual.result _ (no_option ReadsKeys (codes "keys") (map (λ word. word.now) c.args.words.now) c.in_err-value.ensures.meaningless)
