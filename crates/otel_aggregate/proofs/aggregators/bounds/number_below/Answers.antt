use Rattle.std.proofs.Common.{◌≡◌, ℕ, zero, suc, ◌+◌, ◌-◌, ◌*◌, ◌/◌, ◌%◌, ◌^◌, ◌<◌, ◌≤◌, ℤ, pos, SFits, to_z, of_z, w64, List, length, get_or, int_lt, ap, arith, rules}
use Rattle.std.specs.Int.{w128}
use Rattle.std.proofs.lemmas.Int.{ints}
use Rattle.std.proofs.lemmas.Nat.{pow_below}
use Rattle.std.proofs.lemmas.List.Sums.{count_by-le-length}
use Rattle.std.proofs.Math.Nat.{two-pow-succ}
use Rattle.otel_model_stream.specs.Folds.{bounds_below}
use Rattle.otel_aggregate.proofs.aggregators.BoundLemmas.{below-past, below-until}
use Rattle.otel_aggregate.proofs.aggregators.bounds.number_below.Goals as goal
use Rattle.otel_aggregate.proofs.aggregators.bounds.number_below.Goals.{then-bounds-step, else-bounds-step, then-bounds-below, else-bounds-below}

widened : (b : ℤ) → SFits w64 b → to_z w128 (of_z w128 (to_z w64 (of_z w64 b))) ≡ b
widened b f = omega (arith, ints)

-- half of a power above 1
halved : (k step : ℕ) → step ≡ 2 ^ k / 2 → 0 < step → (j : ℕ) × (2 ^ k ≡ step + step) × (step ≡ 2 ^ j)
halved zero step e l = absurd (omega arith)
halved (suc j) step e l = let two = two-pow-succ j in (j, omega arith, omega arith)

pub loop-step-init : goal.loop-step-init
loop-step-init c =
    let bounds : List ℤ = c.args.bounds.now in
    let value : ℤ = to_z w128 (of_z w128 c.args.value) in
    let k = c.ilog2.result in
    let fits : 2 ^ k < 2 ^ 64 = pow_below k 64 c.ilog2.ensures.bound in
    let step : 1 * 2 ^ k % 2 ^ 64 ≡ 2 ^ k = omega arith in
    let i = 1 * 2 ^ k % 2 ^ 64 - 1 in
    let f : SFits w64 (get_or bounds i (pos 0)) = search rules in
    let inside : i < length bounds = omega arith in
    let most : bounds_below bounds value ≤ length bounds = count_by-le-length (λ (b : ℤ). int_lt b value) bounds in
    elim c.if-bounds-step.branch [
      | then-bounds-step w ↦ (
          let past : i < bounds_below bounds value = below-past bounds value c.requires i (pos 0) inside (rw (widened (get_or bounds i (pos 0)) f) at w.if-bounds-step.true) in
          record { power = (k, ap (λ n. n / 2) step, omega arith, omega arith); least = omega arith })
      | else-bounds-step w ↦ (
          let until : bounds_below bounds value ≤ i = below-until bounds value c.requires i (pos 0) inside (rw (widened (get_or bounds i (pos 0)) f) at w.if-bounds-step.false) in
          record { power = (k, ap (λ n. n / 2) step, omega arith, omega arith); least = omega arith })
    ]

pub loop-step-preserved : goal.loop-step-preserved
loop-step-preserved c =
    let bounds : List ℤ = c.args.bounds.now in
    let value : ℤ = to_z w128 (of_z w128 c.args.value) in
    let h = c.loop-step.invariant.power in
    let j = halved h.0 c.loop-step.step h.1 c.loop-step-test.true in
    let i = c.loop-step.below + c.loop-step.step - 1 in
    let f : SFits w64 (get_or bounds i (pos 0)) = search rules in
    let inside : i < length bounds = omega arith in
    elim c.if-bounds-below.branch [
      | then-bounds-below w ↦ (
          let past : i < bounds_below bounds value = below-past bounds value c.requires i (pos 0) inside (rw (widened (get_or bounds i (pos 0)) f) at w.if-bounds-below.true) in
          record { power = (j.0, omega (arith, j.2), omega arith, omega arith); least = omega arith })
      | else-bounds-below w ↦ (
          let until : bounds_below bounds value ≤ i = below-until bounds value c.requires i (pos 0) inside (rw (widened (get_or bounds i (pos 0)) f) at w.if-bounds-below.false) in
          record { power = (j.0, omega (arith, j.2), omega arith, omega arith); least = omega arith })
    ]
