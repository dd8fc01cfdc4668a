-- Worked rows on what calls do to readers. Many of them deny it. Those on a list of readers that are asked are rows of
-- `otel_stream`.
use Rattle.std.specs.Prelude.{◌≡◌, ℕ, true, false, List, [], ◌∷◌, map, None, Ok, Err}
use Rattle.std.proofs.Common.{refl, ◌∙◌, arith}
use Rattle.otel_common.specs.declared.faults.Fault.TheVariants as fault
use Rattle.otel_model.specs.Calls.{Counter, Call, Reply, Meter, Build, Record, Bind, RecordBound, Unbind, Collect, Flush, Shutdown, Fault}
use Rattle.otel_stream.specs.Requests.{Outcome, AllAsked}
use Rattle.otel_model_rows.proofs.RowsAsked.{Flushes, Shuts, all_asked, last_left_out, one_asked}
use Rattle.opentelemetry_sdk.specs.Correspondence.{reply_to}
use Rattle.opentelemetry_sdk.specs.Readers.{AreReached, AreReachedBy, ShutsDown, StepReaches, RunReaches, shut_after}
use Rattle.otel_sdk_rows.proofs.RowWords.{x1, u64, m, about}

-- a reader is a number, which a flush raises by one and a shutdown by its timeout
abbrev done : Outcome
done = Ok tt

abbrev shut_already : Outcome
shut_already = Err fault.AlreadyShutdown

-- ======== a flush or a shutdown ========
pub reached : AreReached Flushes false (1 ∷ 5 ∷ []) (2 ∷ 6 ∷ []) done
reached = all_asked

pub last_not_reached : AreReached Flushes false (1 ∷ 5 ∷ []) (2 ∷ 5 ∷ []) done → ⊥
last_not_reached = last_left_out

pub unreached_once_shut : AreReached Flushes true (1 ∷ []) (1 ∷ []) shut_already
unreached_once_shut = (refl, refl)

-- after a shutdown no reader is asked, and the answer says so
pub asked_once_shut : AreReached Flushes true (1 ∷ []) (2 ∷ []) shut_already → ⊥
asked_once_shut h = changed h.1
  where
    changed : ◌≡◌ {A = List ℕ} (2 ∷ []) (1 ∷ []) → ⊥
    changed e = let two : ◌≡◌ {A = ℕ} 2 1 = cc in absurd (omega (two, arith))

pub done_once_shut : AreReached Flushes true (1 ∷ []) (1 ∷ []) done → ⊥
done_once_shut h = let e : ◌≡◌ {A = Outcome} done shut_already = h.0 in cc

pub time_of_shutdown : ShutsDown Shuts 1 5000000001 done
time_of_shutdown = (refl, refl)

pub wrong_time_of_shutdown : ShutsDown Shuts 1 2 done → ⊥
wrong_time_of_shutdown h = absurd (omega (h.0, arith))

-- ======== replies ========
pub replied : AreReachedBy Flushes false (1 ∷ 5 ∷ []) Reply.Done (2 ∷ 6 ∷ [])
replied = (done, refl, all_asked)

pub refused_once_shut : AreReachedBy Flushes true (1 ∷ []) (Reply.Refused Fault.AlreadyShutdown) (1 ∷ [])
refused_once_shut = (shut_already, refl, (refl, refl))

pub replied_done_once_shut : AreReachedBy Flushes true (1 ∷ []) Reply.Done (1 ∷ []) → ⊥
replied_done_once_shut h = wrong h.0 h.1 h.2.0
  where
    wrong : (outcome : Outcome) → Reply.Done ≡ reply_to outcome → outcome ≡ shut_already → ⊥
    wrong (Ok t) e f = cc
    wrong (Err g) e f = cc

-- ======== each call ========
-- a call that asks no reader leaves them as they were
abbrev Quiet : Call → Type 0
Quiet call = (reply : Reply) → StepReaches Flushes Shuts false call (1 ∷ []) reply (2 ∷ []) → ⊥

pub readers_stay : Quiet (Meter m) × Quiet (Build None (about Counter) 100) × Quiet (Record 0 (u64 1) x1) × Quiet (Bind 0 x1) × Quiet (RecordBound 0 (u64 1)) × Quiet (Unbind 0) × Quiet (Collect 0 200 [])
readers_stay = (λ r. changed, λ r. changed, λ r. changed, λ r. changed, λ r. changed, λ r. changed, λ r. changed)
  where
    changed : ◌≡◌ {A = List ℕ} (2 ∷ []) (1 ∷ []) → ⊥
    changed e = let two : ◌≡◌ {A = ℕ} 2 1 = cc in absurd (omega (two, arith))

pub flush_reaches : StepReaches Flushes Shuts false Flush (1 ∷ 5 ∷ []) Reply.Done (2 ∷ 6 ∷ [])
flush_reaches = replied

pub flush_leaves_last : StepReaches Flushes Shuts false Flush (1 ∷ 5 ∷ []) Reply.Done (2 ∷ 5 ∷ []) → ⊥
flush_leaves_last h = left h.0 h.1 h.2
  where
    left : (outcome : Outcome) → Reply.Done ≡ reply_to outcome → AllAsked Flushes (1 ∷ 5 ∷ []) (2 ∷ 5 ∷ []) outcome → ⊥
    left (Ok t) e f = last_left_out f
    left (Err g) e f = cc

pub shutdown_reaches : StepReaches Flushes Shuts false Shutdown (1 ∷ []) Reply.Done (5000000001 ∷ [])
shutdown_reaches = (done, refl, one_asked (ShutsDown Shuts) 1 5000000001 (refl, refl))

pub shutdown_flushes : StepReaches Flushes Shuts true Shutdown (1 ∷ []) (Reply.Refused Fault.AlreadyShutdown) (5000000001 ∷ []) → ⊥
shutdown_flushes h = let e : ◌≡◌ {A = List ℕ} (5000000001 ∷ []) (1 ∷ []) = h.2.1 in let n : ◌≡◌ {A = ℕ} 5000000001 1 = cc in absurd (omega (n, arith))

-- ======== many calls ========
abbrev each_call : List Call
each_call = Meter m ∷ Build None (about Counter) 100 ∷ Record 0 (u64 1) x1 ∷ Bind 0 x1 ∷ RecordBound 0 (u64 1) ∷ Unbind 0 ∷ Collect 0 200 [] ∷ Flush ∷ Shutdown ∷ []

-- a shutdown shuts, and nothing opens again
pub shut_by_shutdown : map (shut_after false) each_call ≡ false ∷ false ∷ false ∷ false ∷ false ∷ false ∷ false ∷ false ∷ true ∷ []
shut_by_shutdown = refl

pub shut_for_good : map (shut_after true) each_call ≡ true ∷ true ∷ true ∷ true ∷ true ∷ true ∷ true ∷ true ∷ true ∷ []
shut_for_good = refl

pub run_reaches : RunReaches Flushes Shuts false (Flush ∷ Bind 0 x1 ∷ Shutdown ∷ Flush ∷ []) (1 ∷ []) (Reply.Done ∷ Reply.Handle 0 ∷ Reply.Done ∷ Reply.Refused Fault.AlreadyShutdown ∷ []) (5000000002 ∷ [])
run_reaches =
    let flushed : AreReachedBy Flushes false (1 ∷ []) Reply.Done (2 ∷ []) = (done, refl, one_asked Flushes 1 2 (refl, refl)) in
    let shut : AreReachedBy (ShutsDown Shuts) false (2 ∷ []) Reply.Done (5000000002 ∷ []) = (done, refl, one_asked (ShutsDown Shuts) 2 5000000002 (refl, refl)) in
    let refused : AreReachedBy Flushes true (5000000002 ∷ []) (Reply.Refused Fault.AlreadyShutdown) (5000000002 ∷ []) = (shut_already, refl, (refl, refl)) in
    (2 ∷ [], flushed, (2 ∷ [], refl, (5000000002 ∷ [], shut, (5000000002 ∷ [], refused, refl))))

pub asked_behind_shutdown : RunReaches Flushes Shuts true (Flush ∷ []) (1 ∷ []) (Reply.Refused Fault.AlreadyShutdown ∷ []) (2 ∷ []) → ⊥
asked_behind_shutdown h =
    let last : ◌≡◌ {A = List ℕ} (2 ∷ []) (1 ∷ []) = h.2 ∙ h.1.2.1 in
    let two : ◌≡◌ {A = ℕ} 2 1 = cc in absurd (omega (two, arith))

pub changed_without_calls : RunReaches Flushes Shuts false [] (1 ∷ []) [] (2 ∷ []) → ⊥
changed_without_calls e = let two : ◌≡◌ {A = ℕ} 2 1 = cc in absurd (omega (two, arith))

pub reply_too_many : RunReaches Flushes Shuts false [] (1 ∷ []) (Reply.Done ∷ []) (1 ∷ []) → ⊥
reply_too_many h = h

pub reply_missing : RunReaches Flushes Shuts false (Flush ∷ []) (1 ∷ []) [] (1 ∷ []) → ⊥
reply_missing h = h

pub shutdown_shuts : shut_after true Shutdown ≡ true
shutdown_shuts = refl
