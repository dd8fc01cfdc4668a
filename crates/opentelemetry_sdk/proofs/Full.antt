-- A record is never refused with `LedgerFull`, so only the book is.
use Rattle.std.proofs.Common.{◌≡◌, ⊎_elim, ℕ, Bool, List, [], ◌∷◌, Option, Some, None, subst, slice_get}
use Rattle.std.specs.Bool.{beq}
use Rattle.std.proofs.lemmas.Bool.{cond_both}
use Rattle.otel_common.specs.declared.faults.Fault.{Fault}
use Rattle.otel_common.specs.declared.faults.Fault.TheVariants.{LedgerFull}
use Rattle.otel_model.specs.Calls as model
use Rattle.otel_model.specs.Calls.{is_observable, Reply}
use Rattle.otel_model.specs.Refusals.{number_refusal, record_refusal, held_refusal, handle_refusal, instrument_held}
use Rattle.otel_model.specs.State.{InstrumentState, State}
use Rattle.otel_model.specs.Steps.{Step, reply_by}
use Rattle.opentelemetry_sdk.specs.Correspondence.{number_of}
use Rattle.opentelemetry_sdk.specs.Pending.{call_in, IsRefused, StopsBy}
use Rattle.opentelemetry_sdk.specs.declared.metrics.shared.pending.PendingRecord.{PendingRecord}
use Rattle.opentelemetry_sdk.specs.declared.metrics.shared.pending.PendingRecord.TheVariants as pending

-- no fault, or another one
abbrev IsOther : Option model.Fault → Type 0
IsOther o = o ≡ Some model.Fault.LedgerFull → ⊥

number_other : (signed given : Bool) → IsOther (number_refusal signed given)
number_other signed given = cond_both (beq signed given) None (Some model.Fault.WrongNumber) IsOther (λ _ e. absurd (cc)) (λ _ e. absurd (cc))

record_other : (o : Option InstrumentState) (given : Bool) → IsOther (record_refusal o given)
record_other None given e = absurd (cc)
record_other (Some i) given e = cond_both (is_observable i.kind) (Some model.Fault.WrongKind) (number_refusal i.signed given) IsOther (λ _ e. absurd (cc)) (λ _. number_other i.signed given) e

held_other : (o : Option InstrumentState) (given : Bool) → IsOther (held_refusal o given)
held_other None given e = absurd (cc)
held_other (Some i) given e = number_other i.signed given e

handle_other : (o : Option ℕ) (is : List InstrumentState) (given : Bool) → IsOther (handle_refusal o is given)
handle_other None is given e = absurd (cc)
handle_other (Some n) is given e = held_other (slice_get is n) given e

replies_other : (o : Option model.Fault) → IsOther o → Reply.Refused model.Fault.LedgerFull ≡ reply_by o Reply.Done → ⊥
replies_other None other e = absurd (cc)
replies_other (Some f) other e = other (cc)

-- no step of a record is refused so
never_full : (p : PendingRecord) (st : State) → Step [] st (call_in p) (Reply.Refused model.Fault.LedgerFull) st → ⊥
never_full (pending.Plain n v l) st step = replies_other (record_refusal (slice_get st.shared.instruments n) (number_of v).signed) (record_other (slice_get st.shared.instruments n) (number_of v).signed) step.0
never_full (pending.Bound h v) st step = replies_other (handle_refusal (instrument_held h st.shared.live) st.shared.instruments (number_of v).signed) (handle_other (instrument_held h st.shared.live) st.shared.instruments (number_of v).signed) step.0

pub full-only : (st : State) (ps : List PendingRecord) (booked : ℕ) (f : Fault) → StopsBy st ps booked f → f ≡ LedgerFull → booked ≡ 18446744073709551615
full-only st [] booked f stops is = absurd stops
full-only st (p ∷ ps) booked f stops is = ⊎_elim (λ full. full.0) (λ refused. absurd (never_full p st (subst (λ g. IsRefused st (call_in p) g) is refused.1 []))) stops
