-- What records and other calls do to what all instruments have accepted.
use Rattle.std.proofs.Common.{◌≡◌, ◌∙◌, ⊎_elim, ℕ, ◌+◌, false, List, [], ◌∷◌, map, sum_by, arith, Option, Some, None, Result, Ok, Err, length, refl, sym, ap, subst, true≢false, ◌%◌, ◌^◌, OnOk, IfErr}
use Rattle.std.proofs.lemmas.List.Sums.{sum_by-cons}
use Rattle.otel_common.specs.declared.faults.Fault.{Fault}
use Rattle.otel_model_stream.specs.Folds.{Amount, wrap}
use Rattle.otel_model.specs.Calls as model
use Rattle.otel_model.specs.Calls.{Call, Record, RecordBound, Reply}
use Rattle.otel_model.specs.Demands.{Views}
use Rattle.otel_model.specs.Machine.{accepted_after}
use Rattle.otel_model.specs.Refusals.{refusal}
use Rattle.otel_model.specs.State.{State}
use Rattle.otel_model.specs.Steps.{Step, answer_of, reply_by, after_by, asks_readers}
use Rattle.otel_model.proofs.Single.{step_cases}
use Rattle.otel_model.specs.Books.{count_in, sum_in, one_each, bits_of, added_by, if_done}
use Rattle.otel_model.proofs.Accepting.{call_law}
use Rattle.otel_model.proofs.Plus.{plus_zero}
use Rattle.opentelemetry_sdk.specs.Correspondence.{fault_of, number_of, reply_from}
use Rattle.opentelemetry_sdk.specs.Pending.{is_record, call_in, bits_in, IsDone, AreDone, IsRefused}
use Rattle.opentelemetry_sdk.specs.declared.metrics.shared.pending.PendingRecord.{PendingRecord}
use Rattle.opentelemetry_sdk.specs.declared.metrics.shared.pending.PendingRecord.TheVariants as pending

-- ======== refused records ========
done_answer : (st : State) (p : PendingRecord) → answer_of st (call_in p) ≡ Reply.Done
done_answer st (pending.Plain n v l) = refl
done_answer st (pending.Bound h v) = refl

asks_none : (p : PendingRecord) → asks_readers (call_in p) ≡ false
asks_none (pending.Plain n v l) = refl
asks_none (pending.Bound h v) = refl

-- where the reply is a refusal and the answer isn't, there was a fault
stays : (o : Option model.Fault) (answer : Reply) (f : model.Fault) (old new : State) → answer ≡ Reply.Done → Reply.Refused f ≡ reply_by o answer → after_by o old new ≡ old
stays None answer f old new done refused = let e : Reply.Refused f ≡ Reply.Done = refused ∙ done in absurd (cc)
stays (Some g) answer f old new done refused = refl

-- a refused record changes nothing
refused_same : (old : State) (p : PendingRecord) (f : model.Fault) (new : State) → Step [] old (call_in p) (Reply.Refused f) new → new ≡ old
refused_same old p f new step = ⊎_elim
    (λ e. e.1)
    (λ e. e.1 ∙ ⊎_elim
    (λ asks. absurd (true≢false (sym asks ∙ asks_none p)))
    (λ is. stays (refusal old.shared (length old.readers) (call_in p)) (answer_of old (call_in p)) f old (accepted_after [] old (call_in p)) (done_answer old p) is)
    e.2)
    (step_cases [] old new (call_in p) (Reply.Refused f) step)

-- ======== records ========
-- the result of a record is that of a step, whatever the views
abbrev pub IsResult : Result (Unit {0}) Fault → State → PendingRecord → State → Type 0
IsResult r old p new = (views : Views) → Step views old (call_in p) (reply_from (λ _. Reply.Done) r) new

-- a record that is made counts 1, and its value is added
added_of_one : (old : State) (p : PendingRecord) (new : State) → IsDone old (call_in p) new → (count_in new % 2 ^ 64 ≡ (count_in old + 1) % 2 ^ 64) × (sum_in new % 2 ^ 64 ≡ (sum_in old + bits_in p) % 2 ^ 64)
added_of_one old (pending.Plain n v l) new done = call_law [] old (Record n (number_of v) l) Reply.Done new (done [])
added_of_one old (pending.Bound h v) new done = call_law [] old (RecordBound h (number_of v)) Reply.Done new (done [])

pub made : (r : Result (Unit {0}) Fault) (old : State) (p : PendingRecord) (new : State) → IsResult r old p new
    → OnOk r (IsDone old (call_in p) new × (count_in new % 2 ^ 64 ≡ (count_in old + 1) % 2 ^ 64) × (sum_in new % 2 ^ 64 ≡ (sum_in old + bits_in p) % 2 ^ 64)) × IfErr r (λ f. IsRefused old (call_in p) f × (new ≡ old))
made (Ok u) old p new step = let added = added_of_one old p new step in ((step, added.0, added.1), tt)
made (Err f) old p new step =
    let same : new ≡ old = refused_same old p (fault_of f) new (step []) in
    let refused : IsRefused old (call_in p) f × (new ≡ old) = (λ views. subst (λ st. Step views old (call_in p) (Reply.Refused (fault_of f)) st) same (step views), same) in
    (tt, refused)

-- records that are made one after another
pub done-adds : (old : State) (ps : List PendingRecord) (new : State) → AreDone old (map call_in ps) new
    → (count_in new % 2 ^ 64 ≡ (count_in old + length ps) % 2 ^ 64) × (sum_in new % 2 ^ 64 ≡ (sum_in old + sum_by bits_in ps) % 2 ^ 64)
done-adds old [] new done = (ap (λ (st : State). count_in st % 2 ^ 64) done ∙ sym (ap wrap (plus_zero (count_in old))), ap (λ (st : State). sum_in st % 2 ^ 64) done ∙ sym (ap wrap (plus_zero (sum_in old))))
done-adds old (p ∷ ps) new done =
    let rest = done-adds done.0 ps new done.2 in
    let added = added_of_one old p done.0 done.1 in
    let more : sum_by bits_in (p ∷ ps) ≡ bits_in p + sum_by bits_in ps = sum_by-cons bits_in p ps in
    (omega (arith, rest.0, added.0), omega (arith, rest.1, added.1, more))

-- ======== other calls ========
adds_none : (amount : Amount → ℕ) (call : Call) → is_record call ≡ false → added_by amount call ≡ 0
adds_none amount (Record n v l) e = absurd (true≢false e)
adds_none amount (RecordBound h v) e = absurd (true≢false e)
adds_none amount call e = refl

none_if_done : (reply : Reply) → if_done reply 0 ≡ 0
none_if_done (Reply.Refused f) = refl
none_if_done reply = refl

added_none : (n : ℕ) (amount : Amount → ℕ) (call : Call) (reply : Reply) → is_record call ≡ false → wrap (n + if_done reply (added_by amount call)) ≡ wrap n
added_none n amount call reply e =
    ap (λ k. wrap (n + if_done reply k)) (adds_none amount call e) ∙ (ap (λ k. wrap (n + k)) (none_if_done reply) ∙ ap wrap (plus_zero n))

-- a call that is no record adds nothing
pub other-adds : (views : Views) (old new : State) (call : Call) (reply : Reply) → is_record call ≡ false → Step views old call reply new → (count_in new % 2 ^ 64 ≡ count_in old % 2 ^ 64) × (sum_in new % 2 ^ 64 ≡ sum_in old % 2 ^ 64)
other-adds views old new call reply e step =
    let adds = call_law views old call reply new step in
    (adds.0 ∙ added_none (count_in old) one_each call reply e, adds.1 ∙ added_none (sum_in old) bits_of call reply e)
