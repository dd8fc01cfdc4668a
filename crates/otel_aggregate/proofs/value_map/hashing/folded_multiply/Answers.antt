use Rattle.std.specs.Prelude.{refl}
use Rattle.std.specs.Hash.FoldHasher.{folded_multiply}
use Rattle.otel_aggregate.proofs.value_map.hashing.folded_multiply.Goals as goal

pub returns : goal.returns
unfolding folded_multiply
returns c = refl
