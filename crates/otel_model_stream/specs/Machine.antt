-- The machine of one stream: its table of entries and its live handles, changed event by event.
use Rattle.std.specs.Prelude.{ℕ, List, [], ◌∷◌, ◌++◌, Bool, true, false, Option, Some, None}
use Rattle.otel_model_stream.specs.Sets.{AttributeSet}
use Rattle.otel_model_stream.specs.Folds.{Aggregate, Sample, empty_of, sample_of}
use Rattle.otel_model_stream.specs.Events.{Event, Record, Bind, RecordBound, Unbind, Collect, Kind, Delta, Cumulative, Drained, Handles, held_by, without, Point}
use Rattle.otel_model_stream.specs.Entries.{Table, new_table, entry_for, at_entry, write, take_handle, drop_handle, place, recorded_at, evicted_table, drained_table, points as points_in}

-- the state of a stream: its table, and its live handles
pub record Machine : Type 0 where
  pub table : Table
  pub live : Handles

-- the machine of a new stream
abbrev pub begin : Aggregate → Machine
begin σ = record { table = new_table (empty_of σ); live = [] }

-- ======== one event ========
-- the machine with a new handle, of the entry of the set g
abbrev pub hold : ℕ → AttributeSet → Machine → Machine
hold h g m = record { table = at_entry g take_handle m.table; live = m.live ++ (h, g) ∷ [] }

-- the machine with a new handle for the set s, which has a place: it is of the entry that s uses
abbrev pub bind_handle : ℕ → AttributeSet → Machine → Machine
bind_handle h s m = hold h (entry_for s m.table.entries) m

-- the machine after a measurement through a handle of this set's entry; unchanged if there is no such handle
abbrev pub through : Option AttributeSet → Sample → Machine → Machine
through None v m = m
through (Some g) v m = record m { table = at_entry g (write v) m.table }

-- the machine after the end of a handle of this set's entry; unchanged if there is no such handle
abbrev pub let_go : Option AttributeSet → ℕ → Machine → Machine
let_go None h m = m
let_go (Some g) h m = record { table = at_entry g drop_handle m.table; live = without h m.live }

-- the table with no live handle at the empty set's entry
abbrev pub without_none_handles : Table → Table
without_none_handles t = record t { none = record t.none { handles = 0 } }

-- the machine after a collection. A drained stream keeps no handles, since asynchronous instruments have none
abbrev pub machine_after_collection : Kind → Machine → Machine
machine_after_collection Delta m = record m { table = evicted_table m.table }
machine_after_collection Cumulative m = m
machine_after_collection Drained m = record { table = drained_table (without_none_handles m.table); live = [] }

-- whether a collection shows the entries that were not updated
abbrev pub shows_all : Kind → Bool
shows_all Delta = false
shows_all Cumulative = true
shows_all Drained = true

-- the points that a collection shows
abbrev pub points : Kind → Machine → List Point
points kind m = points_in (shows_all kind) m.table

-- the machine after one event
abbrev pub step : Aggregate → Kind → ℕ → Machine → Event → Machine
step σ kind limit m (Record s v) = record m { table = recorded_at s (sample_of σ v) (place limit (empty_of σ) s m.table) }
step σ kind limit m (Bind h s) = bind_handle h s (record m { table = place limit (empty_of σ) s m.table })
step σ kind limit m (RecordBound h v) = through (held_by h m.live) (sample_of σ v) m
step σ kind limit m (Unbind h) = let_go (held_by h m.live) h m
step σ kind limit m Collect = machine_after_collection kind m

-- the points that an event shows: one list of points for a collection, nothing for other events
abbrev pub answer : Kind → Machine → Event → List (List Point)
answer kind m (Record s v) = []
answer kind m (Bind h s) = []
answer kind m (RecordBound h v) = []
answer kind m (Unbind h) = []
answer kind m Collect = points kind m ∷ []

-- ======== a list of events ========
-- the machine after these events
abbrev pub run : Aggregate → Kind → ℕ → Machine → List Event → Machine
run σ kind limit m [] = m
run σ kind limit m (e ∷ es) = run σ kind limit (step σ kind limit m e) es

-- the points of each collection among them
abbrev pub answers : Aggregate → Kind → ℕ → Machine → List Event → List (List Point)
answers σ kind limit m [] = []
answers σ kind limit m (e ∷ es) = answer kind m e ++ answers σ kind limit (step σ kind limit m e) es
