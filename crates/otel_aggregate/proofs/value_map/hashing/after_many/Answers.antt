use Rattle.std.specs.Prelude.{◌≡◌, ℕ, ◌-◌, ◌/◌, length}
use native.Mathlib.Omega.{arith}
use Rattle.std.specs.Hash.FoldHasher.{mix_blocks}
use Rattle.otel_aggregate.proofs.value_map.hashing.after_many.Goals as goal

pub returns : goal.returns
unfolding mix_blocks
returns c =
    let n : ℕ = length c.args.bytes.now in
    let none : (n - 1) / 16 ≡ 0 = omega (arith, c.if-len-gt16.false) in
    let first : n - 16 ≡ 0 = omega (arith, c.if-len-gt16.false) in
    rw (none, first, c.mixed.ensures)
