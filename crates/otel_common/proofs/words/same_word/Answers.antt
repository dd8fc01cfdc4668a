use Rattle.std.proofs.Common.{rules}
use Rattle.otel_common.proofs.EqualParts.{word_tells}
use Rattle.otel_common.proofs.words.same_word.Goals as goal

pub returns : goal.returns
returns c = word_tells c.args.a.now c.args.b.now c.args.at _ _ (search rules) (search rules) c.requires.first c.requires.second c.word_at.ensures c.word_at-2.ensures
