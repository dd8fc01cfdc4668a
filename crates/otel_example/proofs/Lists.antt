-- A list of records adds to each total the values of those that were answered `Done`.
use Rattle.std.proofs.Common.{◌≡◌, ◌⊎◌, ⊎_elim, sym, subst, ℕ, ◌+◌, ◌%◌, ◌^◌, Bool, true, false, cond, List, [], ◌∷◌, Option, Some, None, Result, Ok, Err, arith, refl, ap}
use Rattle.std.specs.Prelude.{◌==◌, IfOk, slice_get}
use Rattle.std.proofs.lemmas.Bool.{eqb-true, eqb-false, false≢true}
use Rattle.opentelemetry_sdk.specs.Calls.{Call, Record, Fault, Number, Reply}
use Rattle.opentelemetry_sdk.specs.Demands.{Views}
use Rattle.opentelemetry_sdk.specs.Machine.{instrument_after_record, accepted_after, changed_at}
use Rattle.opentelemetry_sdk.specs.Refusals.{record_refusal}
use Rattle.opentelemetry_sdk.specs.State.{InstrumentState, State}
use Rattle.opentelemetry_sdk.specs.Steps.{Step, Run, after, reply_of, reply_by, after_by, asks_readers}
use Rattle.opentelemetry_sdk.specs.otel_model.Only.{is_short}
use Rattle.opentelemetry_sdk.proofs.Single.{step_cases, get_other}
use Rattle.otel_example.specs.Totals.{sum_of, total_of, IsRecord, AreRecords, done_by, done_at}
use Rattle.otel_example.proofs.Batches.{sum_grown}

-- a record that isn't refused adds its value to the total of its instrument, and nothing to the others
totals_grown : (k n : ℕ) (v : Number) (is : List InstrumentState) → record_refusal (slice_get is k) v.signed ≡ None
    → sum_of (slice_get (changed_at k (instrument_after_record v.amount) is) n) % 2 ^ 64 ≡ (sum_of (slice_get is n) + cond (k == n) v.amount.bits 0) % 2 ^ 64
totals_grown k n v is e = go (k == n) refl
  where
    Grown : ℕ → Bool → Type 0
    Grown m b = sum_of (slice_get (changed_at k (instrument_after_record v.amount) is) m) % 2 ^ 64 ≡ (sum_of (slice_get is m) + cond b v.amount.bits 0) % 2 ^ 64

    once : (a b c : ℕ) → a ≡ (b + c) % 2 ^ 64 → a % 2 ^ 64 ≡ (b + c) % 2 ^ 64
    once a b c h = omega (arith, h)

    none : (a b : ℕ) → a ≡ b → a % 2 ^ 64 ≡ (b + 0) % 2 ^ 64
    none a b h = omega (arith, h)

    go : (b : Bool) → (k == n) ≡ b → Grown n b
    go true same = subst (λ m. Grown m true) (eqb-true k n same) (once _ _ _ (sum_grown k v is e))
    go false other = none _ _ (ap sum_of (get_other k n (instrument_after_record v.amount) is (eqb-false k n other)))

-- so does a step by a record, if its reply says so
step_grown : (views : Views) (old new : State) (call : Call) (reply : Reply) (n : ℕ) → IsRecord call → Step views old call reply new
    → total_of n new % 2 ^ 64 ≡ (total_of n old + done_by n call reply) % 2 ^ 64
step_grown views old new (Record k v l) reply n h step = ⊎_elim short long (step_cases views old new (Record k v l) reply step)
  where
    Grown : State → Reply → Type 0
    Grown st given = total_of n st % 2 ^ 64 ≡ (total_of n old + done_by n (Record k v l) given) % 2 ^ 64

    refused : (f : Fault) → Grown old (Reply.Refused f)
    refused f = omega arith

    unmade : (given : Reply) → is_short given ≡ true → Grown old given
    unmade (Reply.Refused f) is = refused f
    unmade Reply.Done is = absurd (false≢true is)
    unmade (Reply.Meter m) is = absurd (false≢true is)
    unmade (Reply.Instrument m) is = absurd (false≢true is)
    unmade (Reply.Handle m) is = absurd (false≢true is)
    unmade (Reply.Collected c) is = absurd (false≢true is)

    made : (f : Option Fault) → record_refusal (slice_get old.shared.instruments k) v.signed ≡ f
        → Grown (after_by f old (accepted_after views old (Record k v l))) (reply_by f Reply.Done)
    made None is = totals_grown k n v old.shared.instruments is
    made (Some f) is = refused f

    short : (is_short reply ≡ true) × (new ≡ old) → Grown new reply
    short s = subst (λ st. Grown st reply) (sym s.1) (unmade reply s.0)

    long : (is_short reply ≡ false) × (new ≡ after views old (Record k v l)) × ((asks_readers (Record k v l) ≡ true) ⊎ (reply ≡ reply_of old (Record k v l))) → Grown new reply
    long s = ⊎_elim
        (λ asks. absurd (false≢true asks))
        (λ same. subst (λ st. Grown st reply) (sym s.1) (subst (Grown (after views old (Record k v l))) (sym same) (made (record_refusal (slice_get old.shared.instruments k) v.signed) refl)))
        s.2
step_grown views old new _ reply n h step = absurd h

-- so does a run of records
run_grown : (views : Views) (old new : State) (calls : List Call) (replies : List Reply) (n : ℕ) → AreRecords calls → Run views old calls replies new
    → total_of n new % 2 ^ 64 ≡ (total_of n old + done_at n calls replies) % 2 ^ 64
run_grown views old new [] [] n h run = unchanged (total_of n new) (total_of n old) (ap (total_of n) run)
  where
    unchanged : (a b : ℕ) → a ≡ b → a % 2 ^ 64 ≡ (b + 0) % 2 ^ 64
    unchanged a b e = omega (arith, e)
run_grown views old new [] (reply ∷ replies) n h run = absurd run
run_grown views old new (call ∷ calls) [] n h run = absurd run
run_grown views old new (call ∷ calls) (reply ∷ replies) n h run =
    joined (total_of n new) (total_of n run.0) (total_of n old) (done_by n call reply) (done_at n calls replies)
    (step_grown views old run.0 call reply n h.0 run.1)
    (run_grown views run.0 new calls replies n h.1 run.2)
  where
    joined : (a b c x y : ℕ) → b % 2 ^ 64 ≡ (c + x) % 2 ^ 64 → a % 2 ^ 64 ≡ (b + y) % 2 ^ 64 → a % 2 ^ 64 ≡ (c + (x + y)) % 2 ^ 64
    joined a b c x y e f = omega (arith, e, f)

-- so does a list of records that is answered
pub list_grown : {R E : Type 0} (in_model : R → List Reply) (views : Views) (old new : State) (calls : List Call) (r : Result R E) → AreRecords calls
    → IfOk r (λ replies. Run views old calls (in_model replies) new)
    → IfOk r (λ replies. (n : ℕ) → total_of n new % 2 ^ 64 ≡ (total_of n old + done_at n calls (in_model replies)) % 2 ^ 64)
list_grown in_model views old new calls (Ok replies) h run = λ n. run_grown views old new calls (in_model replies) n h run
list_grown in_model views old new calls (Err e) h run = tt
