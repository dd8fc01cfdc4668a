use Rattle.std.proofs.Common.{◌≡◌, ◌∙◌, ℕ, List, [], length, take, drop, sum_by, ap, arith, length-drop}
use Rattle.std.proofs.Math.Seq.{take-length}
use Rattle.otel_model.specs.State.{State}
use Rattle.opentelemetry_sdk.specs.Pending.{bits_in, Submits}
use Rattle.opentelemetry_sdk.specs.declared.metrics.shared.pending.PendingRecord.{PendingRecord}
use Rattle.otel_tests.proofs.tests.run.shared.handed.hand_in.Goals as goal

-- a submission that leaves none has made all
all_made : (old : State) (before : List PendingRecord) (new : State) (after : List PendingRecord) (n v : ℕ) → Submits old before new after n v → after ≡ [] → (n ≡ length before) × (v ≡ sum_by bits_in before)
all_made old before new after n v made none =
    let count : n ≡ length before = omega (arith, made.within, ap length made.rest, length-drop n before, ap length none) in
    (count, made.total ∙ ap (λ k. sum_by bits_in (take k before)) count ∙ ap (λ ps. sum_by bits_in ps) (take-length before))

pub returns-clause-all : goal.returns-clause-all
returns-clause-all g c =
    let made = c.in_ok-receipt.ensures.made in
    let grew = c.in_ok-receipt.ensures.grew in
    let none = c.in_ok-receipt.ensures.ok.0 in
    let all = all_made _ _ _ _ _ _ made none in
    (none, omega (arith, grew.0, all.0), omega (arith, grew.1, all.1))
