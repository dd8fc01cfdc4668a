-- What calls keep of a provider's state.
use Rattle.std.proofs.Common.{ℕ, zero, suc, List, [], ◌∷◌, map, Option, Some, None, refl}
use Rattle.otel_model_stream.specs.Folds.{Amount}
use Rattle.otel_model.specs.Calls.{Call, Build, Record, Bind, RecordBound, Unbind, Collect, Reply}
use Rattle.otel_model.specs.Demands.{ReaderAnswers, Views}
use Rattle.otel_model.specs.Machine.{changed_at, accepted_after, accepted_by, new_part, new_state, part_after_call}
use Rattle.otel_model.specs.Refusals.{instrument_held}
use Rattle.otel_model.specs.Resources.{Resource}
use Rattle.otel_model.specs.Sent.{scope_of}
use Rattle.otel_model.specs.State.{InstrumentState, ReaderPart, State}
use Rattle.otel_model.specs.Steps.{Step}
use Rattle.opentelemetry_sdk.proofs.Stepped.{step-holds}
use Rattle.otel_model.proofs.Booked.{first_lawful, run_lawful}
use Rattle.opentelemetry_sdk.specs.States.{AreTyped, IsSound}
use Rattle.opentelemetry_sdk.proofs.Typed.{typed-built, typed-kept, typed-sent}

-- ======== number types ========
typed-held : (v : Amount) (o : Option ℕ) (next : ℕ) (c : Call) (is : List InstrumentState) (ps : List ReaderPart) → AreTyped is ps → AreTyped (accepted_by o v is) (map (part_after_call next c) ps)
typed-held v None next c is ps all = typed-kept is next c ps all
typed-held v (Some n) next c is ps all = typed-sent v n next c is ps all

typed-changed : (is : List InstrumentState) (next r : ℕ) (c : Call) (ps : List ReaderPart) → AreTyped is ps → AreTyped is (changed_at r (part_after_call next c) ps)
typed-changed is next r c [] all = tt
typed-changed is next zero c (p ∷ ps) all = (record { as_many = all.0.as_many; types = all.0.types; kinds = all.0.kinds }, all.1)
typed-changed is next (suc r) c (p ∷ ps) all = (all.0, typed-changed is next r c ps all.1)

abbrev StaysTyped : State → Type 0
StaysTyped st = AreTyped st.shared.instruments st.readers

typed-accepted : (views : Views) (st : State) (call : Call) → StaysTyped st → StaysTyped (accepted_after views st call)
typed-accepted views st (Build meter about now) all = typed-built views st.shared.instruments (scope_of st.shared.meters meter) about now st.readers all
typed-accepted views st (Record n v l) all = typed-sent v.amount n st.shared.next (Record n v l) st.shared.instruments st.readers all
typed-accepted views st (Bind n l) all = typed-kept st.shared.instruments st.shared.next (Bind n l) st.readers all
typed-accepted views st (RecordBound h v) all = typed-held v.amount (instrument_held h st.shared.live) st.shared.next (RecordBound h v) st.shared.instruments st.readers all
typed-accepted views st (Unbind h) all = typed-kept st.shared.instruments st.shared.next (Unbind h) st.readers all
typed-accepted views st (Collect r now os) all = typed-changed st.shared.instruments st.shared.next r (Collect r now os) st.readers all
typed-accepted views st call all = all

-- ======== whole states ========
first-typed : (readers : List ReaderAnswers) → AreTyped [] (map new_part readers)
first-typed [] = tt
first-typed (answers ∷ readers) = (record { as_many = refl; types = λ n x i f g. absurd (cc); kinds = λ n x i f g. absurd (cc) }, first-typed readers)

-- a new provider is sound
pub first-sound : (resource : Resource) (identity : ℕ) (readers : List ReaderAnswers) → IsSound (new_state resource identity readers)
first-sound resource identity readers = record { typed = first-typed readers; lawful = first_lawful resource identity readers }

-- so is one after a call
pub sound-step : (views : Views) (old new : State) (call : Call) (reply : Reply) → IsSound old → Step views old call reply new → IsSound new
sound-step views old new call reply sound step = record {
  typed = step-holds StaysTyped views old new call reply sound.typed (typed-accepted views old call sound.typed) step;
  lawful = run_lawful views old new (call ∷ []) (reply ∷ []) (new, step, refl) sound.lawful;
}
