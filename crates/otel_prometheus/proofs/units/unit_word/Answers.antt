use Rattle.std.proofs.Common.{◌∙◌}
use Rattle.otel_prometheus.proofs.UnitLemmas.{unit_words}
use Rattle.otel_prometheus.proofs.units.unit_word.Goals as goal

pub returns : goal.returns
returns c = c.word_at.ensures ∙ unit_words c.args.unit.now
