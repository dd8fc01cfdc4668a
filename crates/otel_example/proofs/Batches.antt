-- A record, as a step, adds to the total of its instrument or changes nothing.
use Rattle.std.proofs.Common.{◌≡◌, ◌∙◌, ⊎_elim, ℕ, zero, suc, ◌+◌, ◌%◌, ◌^◌, List, [], ◌∷◌, Option, Some, None, Result, Ok, Err, refl, ap}
use Rattle.std.specs.Prelude.{OnOk, OnErr, slice_get}
use Rattle.std.proofs.lemmas.Bool.{false≢true}
use Rattle.opentelemetry_sdk.specs.KeyValue.{KeyValue}
use Rattle.opentelemetry_sdk.specs.Fault.{Fault}
use Rattle.opentelemetry_sdk.specs.Calls as model
use Rattle.opentelemetry_sdk.specs.Demands.{Views}
use Rattle.opentelemetry_sdk.specs.Machine.{instrument_after_record, accepted_after, changed_at}
use Rattle.opentelemetry_sdk.specs.Refusals.{record_refusal}
use Rattle.opentelemetry_sdk.specs.State.{InstrumentState, State}
use Rattle.opentelemetry_sdk.specs.Steps.{Step, reply_by, after_by}
use Rattle.opentelemetry_sdk.proofs.Single.{step_cases}
use Rattle.opentelemetry_sdk.specs.Correspondence.{fault_of}
use Rattle.opentelemetry_sdk.specs.Typed.{record_reply}
use Rattle.otel_example.specs.Totals.{sum_of, total_of}

-- the instrument of a record that isn't refused is there, and its sum grows
pub sum_grown : (n : ℕ) (v : model.Number) (is : List InstrumentState) → record_refusal (slice_get is n) v.signed ≡ None
    → sum_of (slice_get (changed_at n (instrument_after_record v.amount) is) n) ≡ (sum_of (slice_get is n) + v.amount.bits) % 2 ^ 64
sum_grown n v [] e = absurd (cc)
sum_grown zero v (i ∷ is) e = refl
sum_grown (suc n) v (i ∷ is) e = sum_grown n v is e

-- a record that is done adds its value
pub total_grown : (views : Views) (old new : State) (n : ℕ) (v : model.Number) (l : List KeyValue) (r : Result (Unit {0}) Fault)
    → Step views old (model.Call.Record n v l) (record_reply r) new → OnOk r (total_of n new ≡ (total_of n old + v.amount.bits) % 2 ^ 64)
total_grown views old new n v l (Ok u) step = ap (total_of n) step.1 ∙ go (record_refusal (slice_get old.shared.instruments n) v.signed) refl step.0
  where
    go : (f : Option model.Fault) → record_refusal (slice_get old.shared.instruments n) v.signed ≡ f → model.Reply.Done ≡ reply_by f model.Reply.Done
        → total_of n (after_by f old (accepted_after views old (model.Call.Record n v l))) ≡ (total_of n old + v.amount.bits) % 2 ^ 64
    go None is e = sum_grown n v old.shared.instruments is
    go (Some f) is e = absurd (cc)
total_grown views old new n v l (Err f) step = tt

-- a record that is refused changes nothing
pub record_unchanged : (views : Views) (old new : State) (n : ℕ) (v : model.Number) (l : List KeyValue) (r : Result (Unit {0}) Fault)
    → Step views old (model.Call.Record n v l) (record_reply r) new → OnErr r (new ≡ old)
record_unchanged views old new n v l (Ok u) step = tt
record_unchanged views old new n v l (Err e) step = ⊎_elim
    (λ short. short.1)
    (λ long. ⊎_elim (λ asks. absurd (false≢true asks)) (λ same. long.1 ∙ go (record_refusal (slice_get old.shared.instruments n) v.signed) same) long.2)
    (step_cases views old new (model.Call.Record n v l) (record_reply (Err e)) step)
  where
    go : (f : Option model.Fault) → model.Reply.Refused (fault_of e) ≡ reply_by f model.Reply.Done → after_by f old (accepted_after views old (model.Call.Record n v l)) ≡ old
    go None same = absurd (cc)
    go (Some f) same = refl
