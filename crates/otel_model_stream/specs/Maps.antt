-- A bounded map from attribute sets to the folds of their measurements: a stream's table with its cardinality limit.
use Rattle.std.specs.Prelude.{◌≡◌, ℕ, ◌+◌, Bool, true, false, not, cond, ◌&&◌, ◌||◌, IsTrue, List, [], ◌∷◌, ◌++◌, map, filter, length, nat_lt, Result, IsOk}
use Rattle.std.specs.List.{AllByRecursion, IsDistinct}
use Rattle.std.specs.Set.{is_member}
use Rattle.otel_common.specs.Canonical.{canon}
use Rattle.otel_common.specs.Equality.{set_eq}
use Rattle.otel_common.specs.declared.attributes.KeyValue.{KeyValue}
use Rattle.otel_model_stream.specs.Sets.{AttributeSet, none_set}
use Rattle.otel_model_stream.specs.Folds.{Fold, Sample}
use Rattle.otel_model_stream.specs.Entries.{Table, Point, new_table, has, number_counted, entry_for, at_entry, write, drop_handle, place, recorded_at, held_at, evicted_table, drained_table, points}

-- its cardinality limit, the fold of no measurements, and its table
pub record MapState : Type 0 where
  pub limit : ℕ
  pub empty : Fold
  pub table : Table

-- a new map: it has no entry but the empty set's
abbrev pub new_map : ℕ → Fold → MapState
new_map limit empty = record { limit = limit; empty = empty; table = new_table empty }

-- the map once the set s has a place
abbrev pub with_place : AttributeSet → MapState → MapState
with_place s m = record m { table = place m.limit m.empty s m.table }

-- the map after a measurement of the set s
abbrev pub measured_map : AttributeSet → Sample → MapState → MapState
measured_map s v m = record m { table = recorded_at s v (place m.limit m.empty s m.table) }

-- the map after a bind of the set s: the set gets a place, and the entry that it uses gets one more live handle
abbrev pub bound_map : AttributeSet → MapState → MapState
bound_map s m = record m { table = held_at s (place m.limit m.empty s m.table) }

-- the set of the entry that a handle bound for s belongs to
abbrev pub bound_to : AttributeSet → MapState → AttributeSet
bound_to s m = entry_for s (with_place s m).table.entries

-- the map after a measurement through a handle of the entry of the set g
abbrev pub updated_bound : AttributeSet → Sample → MapState → MapState
updated_bound g v m = record m { table = at_entry g (write v) m.table }

-- the map with one live handle fewer at the entry of the set g
abbrev pub unbound_map : AttributeSet → MapState → MapState
unbound_map g m = record m { table = at_entry g drop_handle m.table }

-- the points of a read-only collection: the empty set's if it was updated, and those of all other entries
abbrev pub readonly_points : MapState → List Point
readonly_points m = points true m.table

-- the points of a resetting collection: those of the updated entries
abbrev pub resetting_points : MapState → List Point
resetting_points m = points false m.table

-- the points of a draining collection: the empty set's if it was updated, and those of all other entries
abbrev pub draining_points : MapState → List Point
draining_points m = points true m.table

-- the map after a resetting collection
abbrev pub evicted_map : MapState → MapState
evicted_map m = record m { table = evicted_table m.table }

-- the map after a draining collection
abbrev pub drained_map : MapState → MapState
drained_map m = record m { table = drained_table m.table }

-- ======== what a map knows ========
-- a map, and the attribute lists, as they were given, that it knows besides the sets of its entries
pub record KnownMap : Type 0 where
  pub map_state : MapState
  pub given : List (List KeyValue)

-- a map without given lists
abbrev pub without_lists : MapState → KnownMap
without_lists m = record { map_state = m; given = [] }

-- whether the map knows the list: it is empty, one of the given lists or the set of an entry, attribute for attribute
abbrev pub knows : List KeyValue → KnownMap → Bool
knows l k = set_eq l none_set || (is_member set_eq k.given l || has l k.map_state.table.entries)

-- how many keys a map has: its entries and its given lists
abbrev pub keys : KnownMap → ℕ
keys k = length k.map_state.table.entries + length k.given

-- an operation succeeds if the map knows the list that it is given
abbrev pub SucceedsIfKnown : {T E : Type 0} → List KeyValue → KnownMap → Result T E → Type 0
SucceedsIfKnown l k result = IsTrue (knows l k) → IsOk result

-- whether giving the set s a place makes a counted entry for it
abbrev pub is_admitted : AttributeSet → MapState → Bool
is_admitted s m = not (set_eq s none_set) && (not (has s m.table.entries) && nat_lt (number_counted m.table.entries) m.limit)

-- the given lists once the set of the list l has a place: l is added if its set is admitted and isn't l itself
abbrev pub given_with : List KeyValue → KnownMap → List (List KeyValue)
given_with l k = k.given ++ cond (is_admitted (canon l) k.map_state && not (set_eq (canon l) l)) (l ∷ []) []

-- the map after a measurement of the list
abbrev pub measured_list : List KeyValue → Sample → KnownMap → KnownMap
measured_list l v k = record { map_state = measured_map (canon l) v k.map_state; given = given_with l k }

-- the map after a bind of the list
abbrev pub bound_list : List KeyValue → KnownMap → KnownMap
bound_list l k = record { map_state = bound_map (canon l) k.map_state; given = given_with l k }

-- those of the lists whose set has an entry in this map
abbrev pub given_left : MapState → List (List KeyValue) → List (List KeyValue)
given_left m ls = filter (λ l. has (canon l) m.table.entries) ls

-- a collection leaves the map as m, which knows those given lists whose set still has an entry
abbrev pub collected_known : MapState → KnownMap → KnownMap
collected_known m k = record { map_state = m; given = given_left m k.given }

-- the map and what it knows after a resetting collection
abbrev pub evicted_known : KnownMap → KnownMap
evicted_known k = collected_known (evicted_map k.map_state) k

-- the map and what it knows after a draining collection
abbrev pub drained_known : KnownMap → KnownMap
drained_known k = collected_known (drained_map k.map_state) k

-- the set of each given list has an entry, and no two given lists have the same set
pub record AreListed (k : KnownMap) : Type 0 where
  pub placed : AllByRecursion (λ l. has (canon l) k.map_state.table.entries ≡ true) k.given
  pub apart : IsDistinct set_eq (map canon k.given)
