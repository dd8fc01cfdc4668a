-- Worked rows on the table of one stream: entries, places, handles, collections, and what a map knows.
use Rattle.std.specs.Prelude.{◌≡◌, ℕ, ◌+◌, Bool, true, false, List, [], ◌∷◌, map, Some, None, Ok, Err}
use Rattle.std.proofs.Common.{refl, sym, ap, true≢false}
use Rattle.std.specs.List.{IsDistinct}
use Rattle.otel_common.specs.Canonical.{canon}
use Rattle.otel_common.specs.Equality.{set_eq}
use Rattle.otel_model_stream.specs.Sets.{AttributeSet, over_set}
use Rattle.otel_model_stream.specs.Lists.{changed_at}
use Rattle.otel_model_stream.specs.Folds.{Sample, Total, Last, Sum, LastValue, sample_of}
use Rattle.otel_model_stream.specs.Events.{Event, Bind, RecordBound, Unbind, Collect, Delta, Cumulative, Drained, Handles, held_by, without}
use Rattle.otel_model_stream.specs.Entries.{Entry, Table, new_entry, new_table, is_of, has, AreCanonical, number_counted, entries_with_place, entry_for, on, write, take_handle, drop_handle, reset, at_entry, place, recorded_at, held_at, stays, evicted_table, drained_table, point_of_entry}
use Rattle.otel_model_stream.specs.Entries as entries
use Rattle.otel_model_stream.specs.Maps.{MapState, new_map, with_place, measured_map, bound_map, bound_to, updated_bound, unbound_map, readonly_points, resetting_points, draining_points, evicted_map, drained_map, KnownMap, without_lists, knows, keys, SucceedsIfKnown, is_admitted, given_with, measured_list, bound_list, given_left, collected_known, evicted_known, drained_known, AreListed}
use Rattle.otel_model_stream.specs.Machine.{Machine, begin, hold, bind_handle, through, let_go, without_none_handles, machine_after_collection, shows_all, points, step, answer, run, answers}
use Rattle.otel_model_rows.specs.StreamRows.{pair, x1, y1, z1, amount, add, sum}

-- ======== entries ========
-- an entry of a sum
abbrev entry : AttributeSet → (counted updated : Bool) → (total handles : ℕ) → Entry
entry s counted updated total handles = record { set = s; counted = counted; updated = updated; fold = Total total; handles = handles }

pub new_entries : (new_entry (Last 0) x1 true ≡ record { set = x1; counted = true; updated = false; fold = Last 0; handles = 0 })
    × (new_entry (Total 0) over_set false ≡ entry over_set false false 0 0)
new_entries = (refl, refl)

pub first_table : new_table (Total 0) ≡ record { none = entry [] false false 0 0; entries = [] }
first_table = refl

-- measured, bound, the overflow entry, and one that is neither measured nor bound
abbrev x_entry : Entry
x_entry = entry x1 true true 3 0

abbrev y_entry : Entry
y_entry = entry y1 true false 0 2

abbrev over_entry : Entry
over_entry = entry over_set false false 0 0

abbrev z_entry : Entry
z_entry = entry z1 true false 0 0

abbrev four : List Entry
four = x_entry ∷ y_entry ∷ over_entry ∷ z_entry ∷ []

pub of_sets : map (λ e. is_of y1 e) four ≡ false ∷ true ∷ false ∷ false ∷ []
of_sets = refl

pub sets_there : map (λ s. has s four) (x1 ∷ y1 ∷ z1 ∷ over_set ∷ [] ∷ (pair (120 ∷ []) 2 ∷ []) ∷ []) ≡ true ∷ true ∷ true ∷ true ∷ false ∷ false ∷ []
sets_there = refl

pub number_that_counts : (number_counted four ≡ 3) × (number_counted [] ≡ 0)
number_that_counts = (refl, refl)

abbrev x1_y1 : AttributeSet
x1_y1 = pair (120 ∷ []) 1 ∷ pair (121 ∷ []) 1 ∷ []

abbrev y1_x1 : AttributeSet
y1_x1 = pair (121 ∷ []) 1 ∷ pair (120 ∷ []) 1 ∷ []

pub canonical_entries : AreCanonical (x_entry ∷ entry x1_y1 true false 0 0 ∷ [])
unfolding canon
canonical_entries = (refl, (refl, tt))

pub turned_entry : AreCanonical (x_entry ∷ entry y1_x1 true false 0 0 ∷ []) → ⊥
unfolding canon
turned_entry h = true≢false (ap (λ s. set_eq s x1_y1) h.1.0)

-- ======== places ========
-- nothing for the empty set or one that is there; a counted entry below the limit; otherwise the overflow entry, unless
-- it is there
pub placed : map (λ s. entries_with_place 1 (Total 0) s (x_entry ∷ [])) ([] ∷ x1 ∷ y1 ∷ over_set ∷ [])
    ≡ (x_entry ∷ []) ∷ (x_entry ∷ []) ∷ (x_entry ∷ over_entry ∷ []) ∷ (x_entry ∷ over_entry ∷ []) ∷ []
placed = refl

pub placed_below : map (λ s. entries_with_place 2 (Total 0) s (x_entry ∷ [])) ([] ∷ x1 ∷ z1 ∷ over_set ∷ [])
    ≡ (x_entry ∷ []) ∷ (x_entry ∷ []) ∷ (x_entry ∷ z_entry ∷ []) ∷ (x_entry ∷ entry over_set true false 0 0 ∷ []) ∷ []
placed_below = refl

pub placed_beside : map (λ s. entries_with_place 1 (Total 0) s (x_entry ∷ over_entry ∷ [])) (z1 ∷ over_set ∷ []) ≡ (x_entry ∷ over_entry ∷ []) ∷ (x_entry ∷ over_entry ∷ []) ∷ []
placed_beside = refl

-- the uncounted overflow entry leaves room
pub placed_behind : entries_with_place 1 (Total 0) z1 (over_entry ∷ []) ≡ over_entry ∷ z_entry ∷ []
placed_behind = refl

pub used_entries : map (λ s. entry_for s (x_entry ∷ [])) ([] ∷ x1 ∷ y1 ∷ over_set ∷ []) ≡ [] ∷ x1 ∷ over_set ∷ over_set ∷ []
used_entries = refl

-- ======== changes of entries ========
abbrev three : Sample
three = sample_of Sum (amount 3)

pub changed_entries : map (λ e. on x1 take_handle e) (x_entry ∷ y_entry ∷ []) ≡ entry x1 true true 3 1 ∷ y_entry ∷ []
changed_entries = refl

pub written : map (write three) (x_entry ∷ y_entry ∷ over_entry ∷ []) ≡ entry x1 true true 6 0 ∷ entry y1 true true 3 2 ∷ entry over_set false true 3 0 ∷ []
written = refl

pub handles_taken : map take_handle (x_entry ∷ y_entry ∷ []) ≡ entry x1 true true 3 1 ∷ entry y1 true false 0 3 ∷ []
handles_taken = refl

pub handles_dropped : map drop_handle (x_entry ∷ y_entry ∷ []) ≡ entry x1 true true 3 0 ∷ entry y1 true false 0 1 ∷ []
handles_dropped = refl

pub resets : map reset (x_entry ∷ y_entry ∷ over_entry ∷ record x_entry { fold = Last 5 } ∷ []) ≡ entry x1 true false 0 0 ∷ y_entry ∷ over_entry ∷ record z_entry { set = x1; fold = Last 0 } ∷ []
resets = refl

-- the empty set's entry was measured, and has a handle
abbrev table : Table
table = record { none = entry [] false true 7 1; entries = four }

pub at_entries : (at_entry [] drop_handle table ≡ record table { none = entry [] false true 7 0 })
    × (at_entry y1 drop_handle table ≡ record table { entries = x_entry ∷ entry y1 true false 0 1 ∷ over_entry ∷ z_entry ∷ [] })
    × (at_entry x1_y1 drop_handle table ≡ table)
at_entries = (refl, refl, refl)

pub placed_in_table : (place 4 (Total 0) x1_y1 table ≡ record table { entries = x_entry ∷ y_entry ∷ over_entry ∷ z_entry ∷ entry x1_y1 true false 0 0 ∷ [] }) × (place 3 (Total 0) x1_y1 table ≡ table)
placed_in_table = (refl, refl)

-- a set without an entry uses the overflow entry
pub recorded_in_table : (recorded_at x1 three table ≡ record table { entries = entry x1 true true 6 0 ∷ y_entry ∷ over_entry ∷ z_entry ∷ [] })
    × (recorded_at [] three table ≡ record table { none = entry [] false true 10 1 })
    × (recorded_at x1_y1 three table ≡ record table { entries = x_entry ∷ y_entry ∷ entry over_set false true 3 0 ∷ z_entry ∷ [] })
recorded_in_table = (refl, refl, refl)

pub held_in_table : (held_at x1 table ≡ record table { entries = entry x1 true true 3 1 ∷ y_entry ∷ over_entry ∷ z_entry ∷ [] })
    × (held_at [] table ≡ record table { none = entry [] false true 7 2 })
    × (held_at x1_y1 table ≡ record table { entries = x_entry ∷ y_entry ∷ entry over_set false false 0 1 ∷ z_entry ∷ [] })
held_in_table = (refl, refl, refl)

-- ======== collections of a table ========
pub staying : map stays four ≡ true ∷ true ∷ true ∷ false ∷ []
staying = refl

pub evicted : evicted_table table ≡ record { none = entry [] false false 0 1; entries = entry x1 true false 0 0 ∷ y_entry ∷ over_entry ∷ [] }
evicted = refl

pub drained : drained_table table ≡ record { none = entry [] false false 0 1; entries = [] }
drained = refl

pub point_of_each : map point_of_entry (x_entry ∷ y_entry ∷ []) ≡ sum x1 3 ∷ sum y1 0 ∷ []
point_of_each = refl

pub all_points : entries.points true table ≡ sum [] 7 ∷ sum x1 3 ∷ sum y1 0 ∷ sum over_set 0 ∷ sum z1 0 ∷ []
all_points = refl

pub updated_points : entries.points false table ≡ sum [] 7 ∷ sum x1 3 ∷ []
updated_points = refl

-- without the empty set's, which was not measured
abbrev quiet_table : Table
quiet_table = record table { none = entry [] false false 0 1 }

pub quiet_points : (entries.points true quiet_table ≡ sum x1 3 ∷ sum y1 0 ∷ sum over_set 0 ∷ sum z1 0 ∷ []) × (entries.points false quiet_table ≡ sum x1 3 ∷ [])
quiet_points = (refl, refl)

-- ======== a map ========
abbrev map_with : ℕ → Table → MapState
map_with limit t = record { limit = limit; empty = Total 0; table = t }

pub first_map : new_map 5 (Last 0) ≡ record { limit = 5; empty = Last 0; table = record { none = record { set = []; counted = false; updated = false; fold = Last 0; handles = 0 }; entries = [] } }
first_map = refl

abbrev small : Table
small = record { none = entry [] false false 0 0; entries = x_entry ∷ [] }

-- of maps with room for one set and for two
pub mapped_place : (with_place y1 (map_with 1 small) ≡ map_with 1 (record small { entries = x_entry ∷ over_entry ∷ [] })) × (with_place z1 (map_with 2 small) ≡ map_with 2 (record small { entries = x_entry ∷ z_entry ∷ [] }))
mapped_place = (refl, refl)

pub mapped_measurement : (measured_map y1 three (map_with 1 small) ≡ map_with 1 (record small { entries = x_entry ∷ entry over_set false true 3 0 ∷ [] }))
    × (measured_map y1 three (map_with 2 small) ≡ map_with 2 (record small { entries = x_entry ∷ entry y1 true true 3 0 ∷ [] }))
    × (measured_map x1 three (map_with 1 small) ≡ map_with 1 (record small { entries = entry x1 true true 6 0 ∷ [] }))
mapped_measurement = (refl, refl, refl)

pub mapped_bind : (bound_map y1 (map_with 1 small) ≡ map_with 1 (record small { entries = x_entry ∷ entry over_set false false 0 1 ∷ [] }))
    × (bound_map y1 (map_with 2 small) ≡ map_with 2 (record small { entries = x_entry ∷ entry y1 true false 0 1 ∷ [] }))
    × (bound_map [] (map_with 1 small) ≡ map_with 1 (record small { none = entry [] false false 0 1 }))
mapped_bind = (refl, refl, refl)

pub bound_to_each : map (λ s. bound_to s (map_with 1 small)) ([] ∷ x1 ∷ y1 ∷ over_set ∷ []) ≡ [] ∷ x1 ∷ over_set ∷ over_set ∷ []
bound_to_each = refl

pub mapped_through : updated_bound y1 three (map_with 3 table) ≡ map_with 3 (record table { entries = x_entry ∷ entry y1 true true 3 2 ∷ over_entry ∷ z_entry ∷ [] })
mapped_through = refl

pub mapped_end : unbound_map y1 (map_with 3 table) ≡ map_with 3 (record table { entries = x_entry ∷ entry y1 true false 0 1 ∷ over_entry ∷ z_entry ∷ [] })
mapped_end = refl

pub mapped_points : (readonly_points (map_with 3 table) ≡ sum [] 7 ∷ sum x1 3 ∷ sum y1 0 ∷ sum over_set 0 ∷ sum z1 0 ∷ [])
    × (resetting_points (map_with 3 table) ≡ sum [] 7 ∷ sum x1 3 ∷ [])
    × (draining_points (map_with 3 table) ≡ sum [] 7 ∷ sum x1 3 ∷ sum y1 0 ∷ sum over_set 0 ∷ sum z1 0 ∷ [])
mapped_points = (refl, refl, refl)

pub mapped_collections : (evicted_map (map_with 3 table) ≡ map_with 3 (evicted_table table)) × (drained_map (map_with 3 table) ≡ map_with 3 (drained_table table))
mapped_collections = (refl, refl)

-- ======== what a map knows ========
abbrev known : KnownMap
known = record { map_state = map_with 2 (record small { entries = x_entry ∷ entry x1_y1 true false 0 0 ∷ [] }); given = y1_x1 ∷ [] }

pub known_lists : map (λ l. knows l known) ([] ∷ x1 ∷ x1_y1 ∷ y1_x1 ∷ y1 ∷ []) ≡ true ∷ true ∷ true ∷ true ∷ false ∷ []
known_lists = refl

pub nothing_given : without_lists (map_with 1 small) ≡ record { map_state = map_with 1 small; given = [] }
nothing_given = refl

pub number_of_keys : (keys known ≡ 3) × (keys (without_lists (map_with 1 small)) ≡ 1)
number_of_keys = (refl, refl)

-- with a list that the map knows nothing fails; with another an operation may fail
pub known_succeeds : SucceedsIfKnown {T = ℕ} {E = ℕ} y1_x1 known (Err 5) → ⊥
known_succeeds h = true≢false (sym (h refl))

pub known_gives : SucceedsIfKnown {T = ℕ} {E = ℕ} y1_x1 known (Ok 5)
known_gives h = refl

pub unknown_may_fail : SucceedsIfKnown {T = ℕ} {E = ℕ} y1 known (Err 5)
unknown_may_fail h = absurd (true≢false (sym h))

pub admitted : map (λ s. is_admitted s (map_with 2 small)) ([] ∷ x1 ∷ y1 ∷ over_set ∷ []) ≡ false ∷ false ∷ true ∷ true ∷ []
admitted = refl

pub none_admitted : map (λ s. is_admitted s (map_with 1 small)) ([] ∷ x1 ∷ y1 ∷ over_set ∷ []) ≡ false ∷ false ∷ false ∷ false ∷ []
none_admitted = refl

-- a list is kept, behind those before it, if its set is admitted and is not the list itself
abbrev empty_known : KnownMap
empty_known = without_lists (map_with 2 small)

abbrev y1_z1 : AttributeSet
y1_z1 = pair (121 ∷ []) 1 ∷ pair (122 ∷ []) 1 ∷ []

abbrev z1_y1 : AttributeSet
z1_y1 = pair (122 ∷ []) 1 ∷ pair (121 ∷ []) 1 ∷ []

abbrev wide : KnownMap
wide = record known { map_state = record known.map_state { limit = 3 } }

pub given_lists : (given_with z1_y1 empty_known ≡ z1_y1 ∷ [])
    × (given_with y1_z1 empty_known ≡ [])
    × (given_with z1_y1 known ≡ y1_x1 ∷ [])
    × (given_with z1_y1 wide ≡ y1_x1 ∷ z1_y1 ∷ [])
    × (given_with (pair (120 ∷ []) 1 ∷ pair (120 ∷ []) 1 ∷ []) wide ≡ y1_x1 ∷ [])
unfolding canon
given_lists = (refl, refl, refl, refl, refl)

pub measured_lists : (measured_list z1_y1 three wide ≡ record { map_state = measured_map y1_z1 three wide.map_state; given = y1_x1 ∷ z1_y1 ∷ [] })
    × (measured_list z1_y1 three known ≡ record { map_state = measured_map y1_z1 three known.map_state; given = y1_x1 ∷ [] })
unfolding canon
measured_lists = (refl, refl)

pub bound_lists : (bound_list z1_y1 wide ≡ record { map_state = bound_map y1_z1 wide.map_state; given = y1_x1 ∷ z1_y1 ∷ [] })
    × (bound_list z1_y1 known ≡ record { map_state = bound_map y1_z1 known.map_state; given = y1_x1 ∷ [] })
unfolding canon
bound_lists = (refl, refl)

-- the lists whose set has an entry
pub lists_left : given_left known.map_state (z1_y1 ∷ y1_x1 ∷ x1 ∷ []) ≡ y1_x1 ∷ x1 ∷ []
unfolding canon
lists_left = refl

pub collected_lists : (collected_known (map_with 2 small) known ≡ record { map_state = map_with 2 small; given = [] })
    × (collected_known known.map_state wide ≡ known)
unfolding canon
collected_lists = (refl, refl)

-- the entry of the list's set goes, since it was not measured
pub evicted_lists : (evicted_known known ≡ record { map_state = map_with 2 (record small { entries = entry x1 true false 0 0 ∷ [] }); given = [] })
    × ((drained_known known).given ≡ [])
    × ((drained_known known).map_state.table.entries ≡ [])
unfolding canon
evicted_lists = (refl, refl, refl)

-- the list's set has an entry, and no other list has that set
pub listed : AreListed known
unfolding canon IsDistinct
listed = record { placed = (refl, tt); apart = (tt, tt) }

pub unplaced : AreListed (record known { given = z1_y1 ∷ [] }) → ⊥
unfolding canon
unplaced h = true≢false (sym h.placed.0)

pub doubled : AreListed (record known { given = y1_x1 ∷ y1_x1 ∷ [] }) → ⊥
unfolding canon IsDistinct
doubled h = true≢false h.apart.0.0

-- ======== handles ========
-- of two with one number the first counts
abbrev live : Handles
live = (3, x1) ∷ (5, y1) ∷ (3, z1) ∷ []

pub sets_held : map (λ h. held_by h live) (3 ∷ 4 ∷ 5 ∷ []) ≡ Some x1 ∷ None ∷ Some y1 ∷ []
sets_held = refl

pub handles_left : map (λ h. without h live) (3 ∷ 4 ∷ 5 ∷ []) ≡ ((5, y1) ∷ (3, z1) ∷ []) ∷ live ∷ ((3, x1) ∷ (3, z1) ∷ []) ∷ []
handles_left = refl

pub changed_elements : map (λ n. changed_at n (λ k. k + 5) (1 ∷ 2 ∷ 3 ∷ [])) (0 ∷ 1 ∷ 2 ∷ 3 ∷ []) ≡ (6 ∷ 2 ∷ 3 ∷ []) ∷ (1 ∷ 7 ∷ 3 ∷ []) ∷ (1 ∷ 2 ∷ 8 ∷ []) ∷ (1 ∷ 2 ∷ 3 ∷ []) ∷ []
changed_elements = refl

-- ======== the machine ========
abbrev machine : Machine
machine = record { table = table; live = (3, y1) ∷ (5, y1) ∷ (6, []) ∷ [] }

pub begun : (begin Sum ≡ record { table = new_table (Total 0); live = [] }) × (begin LastValue ≡ record { table = new_table (Last 0); live = [] })
begun = (refl, refl)

pub held_handle : hold 7 x1 machine ≡ record { table = record table { entries = entry x1 true true 3 1 ∷ y_entry ∷ over_entry ∷ z_entry ∷ [] }; live = (3, y1) ∷ (5, y1) ∷ (6, []) ∷ (7, x1) ∷ [] }
held_handle = refl

pub bound_handles : (bind_handle 7 x1 machine ≡ hold 7 x1 machine) × (bind_handle 7 x1_y1 machine ≡ hold 7 over_set machine) × (bind_handle 7 [] machine ≡ hold 7 [] machine)
bound_handles = (refl, refl, refl)

pub through_handles : (through None three machine ≡ machine) × (through (Some y1) three machine ≡ record machine { table = record table { entries = x_entry ∷ entry y1 true true 3 2 ∷ over_entry ∷ z_entry ∷ [] } })
through_handles = (refl, refl)

pub handles_let_go : (let_go None 3 machine ≡ machine)
    × (let_go (Some y1) 3 machine ≡ record { table = record table { entries = x_entry ∷ entry y1 true false 0 1 ∷ over_entry ∷ z_entry ∷ [] }; live = (5, y1) ∷ (6, []) ∷ [] })
handles_let_go = (refl, refl)

pub none_let_go : without_none_handles table ≡ record table { none = entry [] false true 7 0 }
none_let_go = refl

pub collected : (machine_after_collection Delta machine ≡ record machine { table = evicted_table table })
    × (machine_after_collection Cumulative machine ≡ machine)
    × (machine_after_collection Drained machine ≡ record { table = record { none = entry [] false false 0 0; entries = [] }; live = [] })
collected = (refl, refl, refl)

pub all_shown : map shows_all (Delta ∷ Cumulative ∷ Drained ∷ []) ≡ false ∷ true ∷ true ∷ []
all_shown = refl

pub points_by_kind : (points Delta machine ≡ entries.points false table) × (points Cumulative machine ≡ entries.points true table) × (points Drained machine ≡ entries.points true table)
points_by_kind = (refl, refl, refl)

-- each event at a machine with room for four sets
abbrev steps : Event → Machine
steps e = step Sum Delta 4 machine e

pub each_step : (steps (add x1_y1 3) ≡ record machine { table = record table { entries = x_entry ∷ y_entry ∷ over_entry ∷ z_entry ∷ entry x1_y1 true true 3 0 ∷ [] } })
    × (steps (Bind 7 x1_y1) ≡ record { table = record table { entries = x_entry ∷ y_entry ∷ over_entry ∷ z_entry ∷ entry x1_y1 true false 0 1 ∷ [] }; live = (3, y1) ∷ (5, y1) ∷ (6, []) ∷ (7, x1_y1) ∷ [] })
    × (steps (RecordBound 5 (amount 3)) ≡ through (Some y1) three machine)
    × (steps (RecordBound 6 (amount 3)) ≡ through (Some []) three machine)
    × (steps (RecordBound 4 (amount 3)) ≡ machine)
    × (steps (Unbind 5) ≡ let_go (Some y1) 5 machine)
    × (steps (Unbind 4) ≡ machine)
    × (steps Collect ≡ record machine { table = evicted_table table })
each_step = (refl, refl, refl, refl, refl, refl, refl, refl)

pub step_at_limit : step Sum Delta 3 machine (add x1_y1 3) ≡ record machine { table = record table { entries = x_entry ∷ y_entry ∷ entry over_set false true 3 0 ∷ z_entry ∷ [] } }
step_at_limit = refl

pub each_answer : map (answer Delta machine) (add x1 3 ∷ Bind 7 x1 ∷ RecordBound 5 (amount 3) ∷ Unbind 5 ∷ Collect ∷ []) ≡ [] ∷ [] ∷ [] ∷ [] ∷ (entries.points false table ∷ []) ∷ []
each_answer = refl

-- one after another
pub runs : (run Sum Delta 4 machine [] ≡ machine) × (run Sum Delta 4 machine (Unbind 5 ∷ add x1 3 ∷ []) ≡ step Sum Delta 4 (step Sum Delta 4 machine (Unbind 5)) (add x1 3))
runs = (refl, refl)

pub answers_of_run : answers Sum Delta 4 machine (Collect ∷ add x1 5 ∷ Collect ∷ Collect ∷ []) ≡ (sum [] 7 ∷ sum x1 3 ∷ []) ∷ (sum x1 5 ∷ []) ∷ [] ∷ []
answers_of_run = refl
