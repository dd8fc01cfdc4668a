-- Records that wait to be made, and what a submission makes of them.
use Rattle.std.specs.Prelude.{◌≡◌, ℕ, ◌+◌, ◌≤◌, ◌≢◌, ◌⊎◌, Bool, true, false, List, [], ◌∷◌, map, sum_by, length, take, drop}
use Rattle.otel_common.specs.declared.faults.Fault.{Fault}
use Rattle.otel_common.specs.declared.faults.Fault.TheVariants.{LedgerFull}
use Rattle.opentelemetry_sdk.specs.Correspondence.{fault_of, number_of}
use Rattle.opentelemetry_sdk.specs.Known.{IsKnown}
pub use Rattle.otel_model.specs.Batches.{IsDone, AreDone}
use Rattle.otel_model.specs.Calls.{Call, Meter, Build, Record, Bind, RecordBound, Unbind, Collect, Flush, Shutdown, Reply}
use Rattle.otel_model.specs.Demands.{Views}
use Rattle.otel_model.specs.State.{State}
use Rattle.otel_model.specs.Steps.{Step}
use Rattle.opentelemetry_sdk.specs.declared.metrics.shared.pending.PendingRecord.{PendingRecord}
use Rattle.opentelemetry_sdk.specs.declared.metrics.shared.pending.PendingRecord.TheVariants as pending

-- ======== records ========
-- whether a call is a record
abbrev pub is_record : Call → Bool
is_record (Meter scope) = false
is_record (Build meter about now) = false
is_record (Record n v l) = true
is_record (Bind n l) = false
is_record (RecordBound h v) = true
is_record (Unbind h) = false
is_record (Collect r now os) = false
is_record Flush = false
is_record Shutdown = false

-- the call that makes a pending record
abbrev pub call_in : PendingRecord → Call
call_in (pending.Plain instrument value attributes) = Record instrument (number_of value) attributes
call_in (pending.Bound handle value) = RecordBound handle (number_of value)

-- the 64 bits of its value
abbrev pub bits_in : PendingRecord → ℕ
bits_in (pending.Plain instrument value attributes) = (number_of value).amount.bits
bits_in (pending.Bound handle value) = (number_of value).amount.bits

-- ======== steps ========
-- the call is refused with this fault and changes nothing, whatever the views
abbrev pub IsRefused : State → Call → Fault → Type 0
IsRefused st call f = (views : Views) → Step views st call (Reply.Refused (fault_of f)) st

-- ======== submissions ========
-- the first of the pending records is made, and the 64 bits of its value are added to v
abbrev pub Makes : State → List PendingRecord → State → List PendingRecord → ℕ → ℕ → Type 0
Makes old before new after v w = (p : PendingRecord) × (before ≡ p ∷ after) × IsDone old (call_in p) new × (w ≡ v + bits_in p)

-- the first n of the pending records are made one after another, and the others stay; the 64 bits of the values of those
-- that are made add up to v
pub record Submits (old : State) (before : List PendingRecord) (new : State) (after : List PendingRecord) (n v : ℕ) : Type 0 where
  pub within : n ≤ length before
  pub rest : after ≡ drop n before
  pub runs : AreDone old (map call_in (take n before)) new
  pub total : v ≡ sum_by bits_in (take n before)

-- why a submission stops before these records, where the book has this many: it has no room for another one, or the
-- first of them is refused
abbrev pub StopsBy : State → List PendingRecord → ℕ → Fault → Type 0
StopsBy st [] booked f = ⊥
StopsBy st (p ∷ ps) booked f = ((booked ≡ 18446744073709551615) × (f ≡ LedgerFull)) ⊎ ((booked ≢ 18446744073709551615) × IsRefused st (call_in p) f)

-- the first of the records has attributes with an entry in each stream of its instrument
abbrev pub IsKnownFirst : State → List PendingRecord → Type 0
IsKnownFirst st [] = ⊥
IsKnownFirst st (p ∷ ps) = IsKnown st (call_in p)
