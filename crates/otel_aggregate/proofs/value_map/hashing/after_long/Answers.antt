use Rattle.std.specs.Prelude.{◌≡◌, ℕ, suc, ◌+◌, ◌*◌, ◌/◌, refl}
use native.Mathlib.Omega.{arith}
use Rattle.std.specs.Hash.FoldHasher.{mix_blocks}
use Rattle.otel_aggregate.proofs.value_map.hashing.after_long.Goals as goal

pub loop-at-init : goal.loop-at-init
unfolding mix_blocks
loop-at-init c = (refl, omega (arith, c.requires), refl)

pub loop-at-preserved : goal.loop-at-preserved
unfolding mix_blocks
loop-at-preserved c =
    let at : ℕ = c.loop-at.at in
    let whole : at ≡ 16 * (at / 16) = omega (arith, c.loop-at.invariant.0) in
    let more : (at + 16) / 16 ≡ suc (at / 16) = omega arith in (
      omega arith,
      omega arith,
      rw (more, c.mixed-state.ensures, ← c.loop-at.invariant.2, ← whole),
    )
