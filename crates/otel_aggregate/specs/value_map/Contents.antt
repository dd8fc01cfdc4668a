-- What contracts see of a map.
use Rattle.std.specs.Prelude.{◌≡◌, ◌&&◌, ◌||◌, not, nat_lt, ℕ, Bool, true, false, cond, List, [], ◌∷◌, map, reverse, Option, Some, None, IsTrue}
use Rattle.std.specs.List.{AllByRecursion}
use Rattle.std.specs.Map.{keys_of}
use Rattle.std.specs.Set.{is_member}
use Rattle.otel_common.specs.Canonical.{canon}
use Rattle.otel_common.specs.Equality.{set_eq}
use Rattle.otel_common.specs.declared.attributes.KeyValue.{KeyValue}
use Rattle.otel_model_stream.specs.Sets.{AttributeSet, none_set, over_set}
use Rattle.otel_model_stream.specs.Entries.{Entry, has, number_counted}
use Rattle.otel_model_stream.specs.Maps.{MapState, KnownMap}
use Rattle.otel_aggregate.specs.value_map.Keyed.{Slotted, IsNew, IsSpelling}
use Rattle.otel_aggregate.specs.value_map.Numbers.{Numbers, number_of, set_named, is_placed}
use Rattle.otel_aggregate.specs.declared.value_map.pending.Pending.{Pending}
use Rattle.otel_aggregate.specs.declared.value_map.pending.Pending.TheVariants.{Nothing, At, New, Several}

-- a map's state; the numbers of its entries; the lists, as given, that it knows besides the sets of its entries; the
-- sets of the entries that the prepared records or the prepared bind use, the next one first; and the list that these add to
-- those, if any
pub record MapContents : Type 0 where
  pub state : MapState
  pub numbers : Numbers
  pub given : List (List KeyValue)
  pub pending : List AttributeSet
  pub spelling : List (List KeyValue)

-- a map with the lists that it knows
abbrev pub known_of : MapContents → KnownMap
known_of h = record { map_state = h.state; given = h.given }

-- the sets of the entries with these numbers, the last one first
abbrev pub sets_named : Numbers → List ℕ → List AttributeSet
sets_named ns numbers = reverse (map (λ (n : ℕ). set_named n ns) numbers)

-- the sets of the entries that the prepared records or the prepared bind use, the next one first
abbrev pub pending_in : Numbers → Pending → List AttributeSet
pending_in ns Nothing = []
pending_in ns (At n) = set_named n ns ∷ []
pending_in ns (New s list) = s ∷ []
pending_in ns (Several numbers) = sets_named ns numbers.items

-- the next of these sets, if any
abbrev pub next_of : List AttributeSet → Option AttributeSet
next_of [] = None
next_of (s ∷ later) = Some s

-- whether the next of these sets is there and has its place
abbrev pub is_next_placed : List AttributeSet → List Entry → Bool
is_next_placed [] es = false
is_next_placed (s ∷ later) es = is_placed s es

-- the list, if there is one, as a list of lists
abbrev pub list_of : Option (List KeyValue) → List (List KeyValue)
list_of None = []
list_of (Some l) = l ∷ []

-- whether a new set is prepared
abbrev pub is_new : Pending → Bool
is_new Nothing = false
is_new (At n) = false
is_new (New s list) = true
is_new (Several numbers) = false

-- the list that the prepared record or bind adds, if any
abbrev pub spelling_in : Pending → List (List KeyValue)
spelling_in Nothing = []
spelling_in (At n) = []
spelling_in (New s list) = list_of list
spelling_in (Several numbers) = []

-- a new set can be given an entry: there is room. The list, if there is one, can become a key too. If `few` says that the
-- limit allows no more counted entries, it is the overflow set
pub record IsReady (t : Slotted) (few : Bool) (room : Bool) (s : AttributeSet) (list : Option (List KeyValue)) : Type 0 where
  pub new : IsNew t.numbers.sets s
  pub absent : has s t.table.entries ≡ false
  pub spelling : IsSpelling t.aliases s list
  pub past : few ≡ false → s ≡ over_set
  pub ready : IsTrue room

-- the number names a set that has an entry
abbrev pub NamesEntry : Slotted → ℕ → Type 0
NamesEntry t n = (number_of (set_named n t.numbers) t.numbers ≡ Some n) × (is_placed (set_named n t.numbers) t.table.entries ≡ true)

-- what is prepared can be carried out: the numbers name sets with entries, or the new set can be given one
abbrev pub IsSound : Slotted → Bool → Bool → Pending → Type 0
IsSound t few room Nothing = Unit {0}
IsSound t few room (At n) = NamesEntry t n
IsSound t few room (New s list) = IsReady t few room s list
IsSound t few room (Several numbers) = AllByRecursion (NamesEntry t) numbers.items

-- whether a list, as given, leads to an entry
abbrev pub leads : List KeyValue → Slotted → Bool
leads l t = set_eq l none_set || (is_member set_eq (keys_of t.aliases) l || has l t.table.entries)

-- the set whose entry a record or bind of the set uses: its own if it has one or gets one, and else the overflow set
abbrev pub used_by : Bool → AttributeSet → List Entry → AttributeSet
used_by few s es = cond (is_placed s es || few) s over_set

-- whether the entry that a record or bind of the set uses is there
abbrev pub is_there : Bool → AttributeSet → List Entry → Bool
is_there few s es = set_eq s none_set || (has s es || (not few && has over_set es))

-- the same in a map
abbrev pub is_there_in : AttributeSet → MapState → Bool
is_there_in s m = is_there (nat_lt (number_counted m.table.entries) m.limit) s m.table.entries

-- the plan is what a record or bind of the list is to do. `few` says whether the limit allows one more counted entry
pub record IsPlan (t : Slotted) (few : Bool) (l : List KeyValue) (plan : Pending) : Type 0 where
  pub pending : pending_in t.numbers plan ≡ used_by few (canon l) t.table.entries ∷ []
  pub spelling : spelling_in plan ≡ cond ((not (set_eq (canon l) none_set) && (not (has (canon l) t.table.entries) && few)) && not (set_eq (canon l) l)) (l ∷ []) []
  pub sound : (room : Bool) → IsTrue room → IsSound t few room plan

-- past the limit, the plan is what a record or bind of any list whose set has no entry is to do
abbrev pub IsPlanPast : Slotted → Pending → Type 0
IsPlanPast t plan = (l : List KeyValue) → leads l t ≡ false → has (canon l) t.table.entries ≡ false → IsPlan t false l plan

-- a record or bind of the list is to use the entry with this number, whether or not the limit allows one more
abbrev pub IsPlanAt : Slotted → List KeyValue → ℕ → Type 0
IsPlanAt t l n = (few : Bool) → IsPlan t few l (At n)
