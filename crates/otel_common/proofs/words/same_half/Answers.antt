use Rattle.std.proofs.Common.{rules}
use Rattle.otel_common.proofs.EqualParts.{half_tells}
use Rattle.otel_common.proofs.words.same_half.Goals as goal

pub returns : goal.returns
returns c = half_tells c.args.a.now c.args.b.now c.args.at _ _ (search rules) (search rules) c.requires.first c.requires.second c.half_at.ensures c.half_at-2.ensures
