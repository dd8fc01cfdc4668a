-- Why a submission stops before the first of the records that are left.
use Rattle.std.proofs.Common.{◌≡◌, ℕ, ◌≢◌, List, ◌∷◌, inl, inr}
use Rattle.otel_common.specs.declared.faults.Fault.{Fault}
use Rattle.otel_common.specs.declared.faults.Fault.TheVariants.{LedgerFull}
use Rattle.otel_model.specs.State.{State}
use Rattle.opentelemetry_sdk.specs.Pending.{call_in, IsRefused, StopsBy}
use Rattle.opentelemetry_sdk.specs.declared.metrics.shared.pending.PendingRecord.{PendingRecord}

-- the record is refused
pub stops_refused : (st : State) (p : PendingRecord) (rest : List PendingRecord) (booked : ℕ) (f : Fault) → booked ≢ 18446744073709551615 → IsRefused st (call_in p) f → StopsBy st (p ∷ rest) booked f
stops_refused st p rest booked f room refused = inr (room, refused)

-- the book has no room for it
pub stops_full : (st : State) (p : PendingRecord) (rest : List PendingRecord) (booked : ℕ) (f : Fault) → booked ≡ 18446744073709551615 → f ≡ LedgerFull → StopsBy st (p ∷ rest) booked f
stops_full st p rest booked f full why = inl (full, why)
