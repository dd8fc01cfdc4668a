-- What a shared provider has. `C` is the ledger of the numbers of records, `S` that of the sums of their values; `P` is
-- the bundle of the provider's parts, `V` the type of its views, `R` that of its readers, `U` and `I` those of its
-- callbacks.
use Rattle.std.specs.Prelude.{ℕ, List}
use Rattle.otel_stream.specs.declared.registered.Registered.{Registered}
use Rattle.otel_model.specs.State.{State}
use Rattle.opentelemetry_sdk.specs.declared.metrics.shared.account.Account as account
use Rattle.opentelemetry_sdk.specs.declared.metrics.shared.locked.Locked.{Locked}

-- the provider's state: all of it but the views, the readers and the callbacks
abbrev pub state_in : {P C S V R U I : Type 0} {c : account.Ghosts C} {s : account.Ghosts S} → Locked P C S V R U I c s → State
state_in l = l.booked.core.state

-- the seed from which it hashes sets of attributes
abbrev pub hash_seed_in : {P C S V R U I : Type 0} {c : account.Ghosts C} {s : account.Ghosts S} → Locked P C S V R U I c s → ℕ
hash_seed_in l = l.booked.core.hash_seed

-- the provider's views, readers and callbacks
abbrev pub views_in : {P C S V R U I : Type 0} {c : account.Ghosts C} {s : account.Ghosts S} → Locked P C S V R U I c s → List V
views_in l = l.views.items

abbrev pub readers_in : {P C S V R U I : Type 0} {c : account.Ghosts C} {s : account.Ghosts S} → Locked P C S V R U I c s → List R
readers_in l = l.readers.items

abbrev pub callbacks_in : {P C S V R U I : Type 0} {c : account.Ghosts C} {s : account.Ghosts S} → Locked P C S V R U I c s → List (Registered U I)
callbacks_in l = l.callbacks.items

-- the book: how many records of workers were accepted
abbrev pub records_in : {P C S V R U I : Type 0} {c : account.Ghosts C} {s : account.Ghosts S} → Locked P C S V R U I c s → ℕ
records_in l = l.booked.records.total

-- and the sum of the 64 bits of their values
abbrev pub values_in : {P C S V R U I : Type 0} {c : account.Ghosts C} {s : account.Ghosts S} → Locked P C S V R U I c s → ℕ
values_in l = l.booked.values.total

-- how many workers were opened
abbrev pub workers_in : {P C S V R U I : Type 0} {c : account.Ghosts C} {s : account.Ghosts S} → Locked P C S V R U I c s → ℕ
workers_in l = l.booked.opened
