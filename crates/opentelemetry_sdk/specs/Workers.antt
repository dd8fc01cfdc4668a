-- What a worker has. `C` is the ledger of the numbers of records, `S` that of the sums of their values.
use Rattle.std.specs.Prelude.{ℕ, ◌==◌, ◌&&◌, List, Option, None, cond}
use Rattle.opentelemetry_sdk.specs.declared.metrics.shared.account.Account as account
use Rattle.opentelemetry_sdk.specs.declared.metrics.shared.pending.PendingRecord.{PendingRecord}
use Rattle.opentelemetry_sdk.specs.declared.metrics.shared.series.Series.{Series}
use Rattle.opentelemetry_sdk.specs.declared.metrics.shared.worker.Worker.{Worker}
use Rattle.opentelemetry_sdk.specs.declared.metrics.shared.worker.WorkerSeries.{WorkerSeries}
use Rattle.opentelemetry_sdk.specs.Waiting.{Waits, series_placed}

-- its list, and the series that it knows
abbrev pub waits_of : {C S : Type 0} {c : account.Ghosts C} {s : account.Ghosts S} → Worker C S c s → Waits
waits_of w = w.waiting

-- the records that wait to be made, in order
abbrev pub pending_of : {C S : Type 0} {c : account.Ghosts C} {s : account.Ghosts S} → Worker C S c s → List PendingRecord
pending_of w = w.waiting.records

-- how many more records its list takes without memory
abbrev pub room_of : {C S : Type 0} {c : account.Ghosts C} {s : account.Ghosts S} → Worker C S c s → ℕ
room_of w = w.waiting.room

-- the series that it knows: its instruments with their lists of attributes as given
abbrev pub series_of : {C S : Type 0} {c : account.Ghosts C} {s : account.Ghosts S} → Worker C S c s → List Series
series_of w = w.waiting.series

-- its share of the book: how many of its records were accepted
abbrev pub records_of : {C S : Type 0} {c : account.Ghosts C} {s : account.Ghosts S} → Worker C S c s → ℕ
records_of w = w.records.amount

-- and the sum of the 64 bits of their values
abbrev pub values_of : {C S : Type 0} {c : account.Ghosts C} {s : account.Ghosts S} → Worker C S c s → ℕ
values_of w = w.values.amount

-- the identity of the provider that opened it
abbrev pub worker_identity : {C S : Type 0} {c : account.Ghosts C} {s : account.Ghosts S} → Worker C S c s → ℕ
worker_identity w = w.identity

-- how many workers the provider opened before it; names of its series have this number too
abbrev pub worker_number : {C S : Type 0} {c : account.Ghosts C} {s : account.Ghosts S} → Worker C S c s → ℕ
worker_number w = w.number

-- the series that it knows by such a name
abbrev pub series_named : {C S T : Type 0} {c : account.Ghosts C} {s : account.Ghosts S} → WorkerSeries T → Worker C S c s → Option Series
series_named n w = cond (n.identity == worker_identity w && n.worker == worker_number w) (series_placed n.emptied n.place w.waiting) None
