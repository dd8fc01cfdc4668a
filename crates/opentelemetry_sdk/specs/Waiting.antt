-- The records that wait at a worker.
use Rattle.std.specs.Prelude.{◌≡◌, ℕ, ◌<◌, ◌≤◌, ◌+◌, ◌++◌, ◌⊎◌, ◌==◌, ⊤, List, [], Option, None, cond, length, get_or, slice_get}
use Rattle.opentelemetry_sdk.specs.Series.{series}
use Rattle.opentelemetry_sdk.specs.declared.metrics.shared.pending.LentRecord.{LentRecord}
use Rattle.opentelemetry_sdk.specs.declared.metrics.shared.pending.LentRecord.TheVariants as lent
use Rattle.opentelemetry_sdk.specs.declared.metrics.shared.pending.PendingRecord.{PendingRecord}
use Rattle.opentelemetry_sdk.specs.declared.metrics.shared.pending.PendingRecord.TheVariants as pending
use Rattle.opentelemetry_sdk.specs.declared.metrics.shared.pending.WaitingRecord.{WaitingRecord}
use Rattle.opentelemetry_sdk.specs.declared.metrics.shared.pending.WaitingRecord.TheVariants as waiting
use Rattle.opentelemetry_sdk.specs.declared.metrics.shared.series.Series.{Series}

-- what contracts see of a worker's list: how often the worker forgot all series, and those that it knows, in order of
-- adding; the records that wait, in order; and how many more fit without memory
pub record Waits : Type 0 where
  pub emptied : ℕ
  pub series : List Series
  pub records : List PendingRecord
  pub room : ℕ

-- a record with its instrument and its list
abbrev pub plain : Series → WaitingRecord → PendingRecord
plain s (waiting.Plain place value) = pending.Plain s.instrument value s.attributes
plain s (waiting.Bound handle value) = pending.Bound handle value

-- the place of its series
abbrev pub place_of : WaitingRecord → ℕ
place_of (waiting.Plain place value) = place
place_of (waiting.Bound handle value) = 0

-- a record with what its series names
abbrev pub record_in : List Series → WaitingRecord → PendingRecord
record_in ss r = plain (get_or ss (place_of r) (series 0 [])) r

-- its series is one of this many
abbrev pub HasSeries : ℕ → WaitingRecord → Type 0
HasSeries n (waiting.Plain place value) = place < n
HasSeries n (waiting.Bound handle value) = ⊤

-- a record whose attributes are lent
abbrev pub lent_record : LentRecord → PendingRecord
lent_record (lent.Plain instrument value attributes) = pending.Plain instrument value attributes
lent_record (lent.Bound handle value) = pending.Bound handle value

-- the worker goes on to know its series, perhaps with further ones behind them; or they were 1,000 or more and no record
-- waited, and it forgot them
abbrev pub KeepsSeries : Waits → Waits → Type 0
KeepsSeries old new =
    ((new.emptied ≡ old.emptied) × (more : List Series) × (new.series ≡ old.series ++ more))
    ⊎ ((1000 ≤ length old.series) × (old.records ≡ []) × (new.emptied ≡ old.emptied + 1))

-- the worker goes on to know its series, and the room stays
abbrev pub StaysListed : Waits → Waits → Type 0
StaysListed old new = (new.emptied ≡ old.emptied) × (new.series ≡ old.series) × (new.room ≡ old.room)

-- the series at a place, if the worker forgot its series so many times
abbrev pub series_placed : ℕ → ℕ → Waits → Option Series
series_placed emptied place w = cond (emptied == w.emptied) (slice_get w.series place) None
