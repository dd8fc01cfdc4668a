-- Worked rows on records that wait, and on submissions. Many of them deny one.
use Rattle.std.specs.Prelude.{◌≡◌, ℕ, ◌≤◌, negsuc, true, false, List, [], ◌∷◌, map, None}
use Rattle.std.proofs.Common.{refl, ap, true≢false, arith, inl, inr}
use Rattle.otel_common.specs.Canonical.{canon}
use Rattle.otel_common.specs.declared.faults.Fault.TheVariants as fault
use Rattle.otel_data.specs.declared.numbers.NumberValue.TheVariants as number
use Rattle.otel_model.specs.Calls.{Counter, Fault, Reply, Meter, Build, Record, Bind, RecordBound, Unbind, Collect, Flush, Shutdown, Number}
use Rattle.otel_model.specs.State.{State}
use Rattle.otel_model.specs.Steps.{after}
use Rattle.opentelemetry_sdk.specs.Pending.{is_record, call_in, bits_in, IsDone, IsRefused, AreDone, Submits, StopsBy}
use Rattle.opentelemetry_sdk.specs.declared.metrics.shared.pending.PendingRecord.{PendingRecord}
use Rattle.opentelemetry_sdk.specs.declared.metrics.shared.pending.PendingRecord.TheVariants as pending
use Rattle.otel_sdk_rows.proofs.RowWords.{x1, u64, m, about, begun}

-- ======== records ========
pub records : map is_record (Meter m ∷ Build None (about Counter) 100 ∷ Record 0 (u64 1) x1 ∷ Bind 0 x1 ∷ RecordBound 0 (u64 1) ∷ Unbind 0 ∷ Collect 0 200 [] ∷ Flush ∷ Shutdown ∷ []) ≡ false ∷ false ∷ true ∷ false ∷ true ∷ false ∷ false ∷ false ∷ false ∷ []
records = refl

abbrev minus_one : Number
minus_one = record { signed = true; amount = record { bits = 18446744073709551615; wide = negsuc 0 } }

abbrev plain : PendingRecord
plain = pending.Plain 3 (number.U64 7) x1

abbrev bound : PendingRecord
bound = pending.Bound 5 (number.I64 (negsuc 0))

pub calls_that_wait : map call_in (plain ∷ bound ∷ []) ≡ Record 3 (u64 7) x1 ∷ RecordBound 5 minus_one ∷ []
calls_that_wait = refl

pub bits_that_wait : map bits_in (plain ∷ bound ∷ []) ≡ 7 ∷ 18446744073709551615 ∷ []
bits_that_wait = refl

-- ======== steps ========
-- a counter's records without attributes, and one of an unknown instrument
abbrev seven : PendingRecord
seven = pending.Plain 0 (number.U64 7) []

abbrev unknown : PendingRecord
unknown = pending.Plain 9 (number.U64 1) []

abbrev once : State
once = after [] begun (Record 0 (u64 7) [])

pub is_done : IsDone begun (Record 0 (u64 7) []) once
unfolding canon
is_done views = (refl, refl)

pub refused_is_not_done : IsDone begun (Record 9 (u64 1) []) begun → ⊥
refused_is_not_done h = let e : Reply.Done ≡ Reply.Refused Fault.UnknownInstrument = (h []).0 in cc

pub is_refused : IsRefused begun (Record 9 (u64 1) []) fault.UnknownInstrument
is_refused views = (refl, refl)

pub other_refusal : IsRefused begun (Record 9 (u64 1) []) fault.WrongKind → ⊥
other_refusal h = let e : Reply.Refused Fault.WrongKind ≡ Reply.Refused Fault.UnknownInstrument = (h []).0 in cc

pub done_is_not_refused : IsRefused begun (Record 0 (u64 7) []) fault.WrongKind → ⊥
done_is_not_refused h = let e : Reply.Refused Fault.WrongKind ≡ Reply.Done = (h []).0 in cc

pub are_done : AreDone begun (Record 0 (u64 7) [] ∷ []) once
unfolding canon
are_done = (once, is_done, refl)

pub none_done : AreDone begun [] begun
none_done = refl

abbrev ended : State
ended = record begun { shared = record begun.shared { shut = true } }

pub none_done_changes_nothing : AreDone begun [] ended → ⊥
none_done_changes_nothing e = true≢false (ap (λ (st : State). st.shared.shut) e)

pub refused_are_not_done : (new : State) → AreDone begun (Record 9 (u64 1) [] ∷ []) new → ⊥
refused_are_not_done new h = let e : Reply.Done ≡ Reply.Refused Fault.UnknownInstrument = (h.1 []).0 in cc

-- ======== submissions ========
pub submitted : Submits begun (seven ∷ unknown ∷ []) once (unknown ∷ []) 1 7
unfolding canon
submitted = record { within = omega arith; rest = refl; runs = (once, is_done, refl); total = refl }

pub submitted_none : Submits begun (unknown ∷ []) begun (unknown ∷ []) 0 0
submitted_none = record { within = omega arith; rest = refl; runs = refl; total = refl }

pub submitted_too_many : Submits begun [] begun [] 1 0 → ⊥
submitted_too_many h = let e : 1 ≤ 0 = h.within in absurd (omega (e, arith))

pub waiting_lost : Submits begun (unknown ∷ []) begun [] 0 0 → ⊥
waiting_lost h = let e : ◌≡◌ {A = List PendingRecord} [] (unknown ∷ []) = h.rest in cc

pub wrong_total : (new : State) → Submits begun (seven ∷ []) new [] 1 8 → ⊥
wrong_total new h = let e : ◌≡◌ {A = ℕ} 8 7 = h.total in absurd (omega (e, arith))

pub submitted_nothing : (new : State) → Submits begun (unknown ∷ []) new [] 1 1 → ⊥
submitted_nothing new h = refused_are_not_done new h.runs

-- it stops for a full book alone, and otherwise by the fault of the first record
pub stops_without_records : (st : State) (booked : ℕ) → StopsBy st [] booked fault.LedgerFull → ⊥
stops_without_records st booked h = h

pub stops_at_full_book : StopsBy begun (seven ∷ []) 18446744073709551615 fault.LedgerFull
stops_at_full_book = inl (refl, refl)

pub stops_by_refusal : StopsBy begun (unknown ∷ []) 18446744073709551614 fault.UnknownInstrument
stops_by_refusal = inr (λ e. absurd (omega (e, arith)), is_refused)

pub stops_early : StopsBy begun (seven ∷ []) 18446744073709551614 fault.LedgerFull → ⊥
stops_early (inl h) = absurd (omega (h.0, arith))
stops_early (inr h) = let e : Reply.Refused Fault.LedgerFull ≡ Reply.Done = (h.1 []).0 in cc

pub stops_by_another : StopsBy begun (unknown ∷ []) 3 fault.WrongKind → ⊥
stops_by_another (inl h) = absurd (omega (h.0, arith))
stops_by_another (inr h) = other_refusal h.1

pub refusal_at_full_book : StopsBy begun (unknown ∷ []) 18446744073709551615 fault.UnknownInstrument → ⊥
refusal_at_full_book (inl h) = let e : fault.UnknownInstrument ≡ fault.LedgerFull = h.1 in cc
refusal_at_full_book (inr h) = h.0 refl
