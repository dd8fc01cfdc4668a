-- The table of one stream: an entry for the empty set, and a list of the other entries in the order in which they were
-- made (Metrics SDK, "Cardinality limits").
use Rattle.std.specs.Prelude.{◌≡◌, ℕ, ◌+◌, ◌-◌, List, [], ◌∷◌, ◌++◌, map, filter, length, nat_lt, Bool, true, false, cond, ◌||◌}
use Rattle.std.specs.List.{list_any, AllByRecursion}
use Rattle.otel_common.specs.Canonical.{canon}
use Rattle.otel_common.specs.Equality.{set_eq}
use Rattle.otel_model_stream.specs.Sets.{AttributeSet, none_set, over_set}
use Rattle.otel_model_stream.specs.Folds.{Fold, Sample, record_fold, clear_fold}
pub use Rattle.otel_model_stream.specs.Events.{Point}

-- what is kept for an attribute set: whether the limit counts it, whether it was updated since it was made or last
-- reset, the fold of the measurements since then, and how many live handles it has
pub record Entry : Type 0 where
  pub set : AttributeSet
  pub counted : Bool
  pub updated : Bool
  pub fold : Fold
  pub handles : ℕ

-- the table of a stream: the empty set's entry, and the others
pub record Table : Type 0 where
  pub none : Entry
  pub entries : List Entry

-- an entry without measurements; `empty` is the fold of no measurements
abbrev pub new_entry : Fold → AttributeSet → Bool → Entry
new_entry empty s counted = record { set = s; counted = counted; updated = false; fold = empty; handles = 0 }

-- the table of a new stream
abbrev pub new_table : Fold → Table
new_table empty = record { none = new_entry empty none_set false; entries = [] }

-- whether this is the entry of the set s
abbrev pub is_of : AttributeSet → Entry → Bool
is_of s e = set_eq e.set s

-- whether the set s has an entry
abbrev pub has : AttributeSet → List Entry → Bool
has s es = list_any (is_of s) es

-- the set of each entry is canonical
abbrev pub AreCanonical : List Entry → Type 0
AreCanonical es = AllByRecursion (λ e. canon e.set ≡ e.set) es

-- how many entries the limit counts
abbrev pub number_counted : List Entry → ℕ
number_counted es = length (filter (λ e. e.counted) es)

-- the entries once the set s has a place. If s is empty or has an entry, they stay as they are. While the number of
-- counted entries is below the limit, s gets a counted entry. Otherwise it uses the overflow entry, which is made,
-- uncounted, if there is none
abbrev pub entries_with_place : ℕ → Fold → AttributeSet → List Entry → List Entry
entries_with_place limit empty s es =
    cond (set_eq s none_set) es
    (cond (has s es) es
    (cond (nat_lt (number_counted es) limit) (es ++ new_entry empty s true ∷ [])
    (cond (has over_set es) es (es ++ new_entry empty over_set false ∷ []))))

-- the set of the entry that s uses once it has a place
abbrev pub entry_for : AttributeSet → List Entry → AttributeSet
entry_for s es = cond (set_eq s none_set) none_set (cond (has s es) s over_set)

-- the entry, changed by f if it is that of the set g
abbrev pub on : AttributeSet → (Entry → Entry) → Entry → Entry
on g f e = cond (is_of g e) (f e) e

-- the entry after one more measurement
abbrev pub write : Sample → Entry → Entry
write v e = record e { updated = true; fold = record_fold e.fold v }

-- the entry with one more live handle
abbrev pub take_handle : Entry → Entry
take_handle e = record e { handles = e.handles + 1 }

-- the entry with one live handle fewer
abbrev pub drop_handle : Entry → Entry
drop_handle e = record e { handles = e.handles - 1 }

-- the entry after a reset: not updated, and without measurements
abbrev pub reset : Entry → Entry
reset e = record e { updated = false; fold = clear_fold e.fold }

-- the table with the entry of the set g changed by f
abbrev pub at_entry : AttributeSet → (Entry → Entry) → Table → Table
at_entry g f m = record { none = on g f m.none; entries = map (on g f) m.entries }

-- the table once the set s has a place
abbrev pub place : ℕ → Fold → AttributeSet → Table → Table
place limit empty s m = record { none = m.none; entries = entries_with_place limit empty s m.entries }

-- the table after a measurement of the set s, which has a place
abbrev pub recorded_at : AttributeSet → Sample → Table → Table
recorded_at s v m = at_entry (entry_for s m.entries) (write v) m

-- the table with one more live handle for the set s, which has a place
abbrev pub held_at : AttributeSet → Table → Table
held_at s m = at_entry (entry_for s m.entries) take_handle m

-- whether a resetting collection keeps the entry: it was updated, has a live handle or is the overflow entry
abbrev pub stays : Entry → Bool
stays e = e.updated || (nat_lt 0 e.handles || set_eq e.set over_set)

-- the table after a resetting collection: the entries that stay, each reset
abbrev pub evicted_table : Table → Table
evicted_table m = record { none = reset m.none; entries = map reset (filter stays m.entries) }

-- the table after a draining collection: the empty set's entry, reset, and no others
abbrev pub drained_table : Table → Table
drained_table m = record { none = reset m.none; entries = [] }

-- the point of an entry
abbrev pub point_of_entry : Entry → Point
point_of_entry e = (e.set, e.fold)

-- the points: the empty set's if it was updated, then those of the other entries in order, of all of them if `every`
-- is true and otherwise of the updated ones
abbrev pub points : Bool → Table → List Point
points every m = map point_of_entry (filter (λ e. e.updated) (m.none ∷ []) ++ filter (λ e. every || e.updated) m.entries)
