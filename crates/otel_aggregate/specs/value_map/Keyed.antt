-- Entries in slots, and the keys that lead to them.
use Rattle.std.specs.Prelude.{◌≡◌, ℕ, nat_eq, Bool, true, false, List, [], ◌∷◌, ◌++◌, map, Option, Some, None, is_some}
use Rattle.std.specs.List.{AllByRecursion, IsDistinct}
use Rattle.std.specs.Map.{lookup, keys_of, values_of}
use Rattle.otel_common.specs.Canonical.{canon}
use Rattle.otel_common.specs.Equality.{set_eq}
use Rattle.otel_common.specs.declared.attributes.KeyValue.{KeyValue}
use Rattle.otel_model_stream.specs.Sets.{AttributeSet, none_set, over_set}
use Rattle.otel_model_stream.specs.Entries.{Table}
use Rattle.otel_aggregate.specs.value_map.Slots.{Kept, Look, Keyed, table_at}
use Rattle.otel_aggregate.specs.value_map.Numbers.{Numbers}

-- what contracts see of a table of slots: the entries and their numbers, the lists that lead to entries as given, and
-- whether one more entry takes no memory
pub record Slotted : Type 0 where
  pub table : Table
  pub numbers : Numbers
  pub aliases : List Keyed
  pub room : Bool

abbrev pub slotted : Look → ℕ → List Keyed → List Keyed → Bool → Slotted
slotted look none es gs room = record { table = table_at look none es; numbers = record { none = none; sets = es }; aliases = gs; room = room }

-- the first number, if it is there, or else the second
abbrev pub first_of : Option ℕ → Option ℕ → Option ℕ
first_of None o = o
first_of (Some n) o = Some n

-- the number of the entry to which a list, as given, leads: it is the set of the entry, or else one of the lists
abbrev pub found : List KeyValue → List Keyed → List Keyed → Option ℕ
found l es gs = first_of (lookup (set_eq l) es) (lookup (set_eq l) gs)

-- whether a slot holds something that lasts
abbrev pub is_lasting : Option Kept → Bool
is_lasting None = false
is_lasting (Some k) = k.lasting

-- whether a slot holds something that the limit counts
abbrev pub is_counted : Option Kept → Bool
is_counted None = false
is_counted (Some k) = k.counted

-- the key is a canonical set that isn't empty, and its slot is filled and lasts exactly if this is the overflow set
pub record Fits (look : Look) (e : Keyed) : Type 0 where
  pub filled : is_some (look e.1) ≡ true
  pub lasting : is_lasting (look e.1) ≡ set_eq e.0 over_set
  pub canonical : canon e.0 ≡ e.0
  pub some : set_eq e.0 none_set ≡ false

-- the list leads to the same slot as its canonical set
abbrev pub Links : List Keyed → Keyed → Type 0
Links es g = lookup (set_eq (canon g.0)) es ≡ Some g.1

-- the empty set's slot is filled, lasts and isn't counted; no two sets share a slot, and no set has two; each key fits;
-- each list leads where its set does, and no two lists have the same set
pub record IsConsistent (look : Look) (none : ℕ) (es gs : List Keyed) : Type 0 where
  pub none_filled : is_some (look none) ≡ true
  pub none_lasts : is_lasting (look none) ≡ true
  pub none_uncounted : is_counted (look none) ≡ false
  pub apart : IsDistinct nat_eq (none ∷ values_of es)
  pub unique : IsDistinct set_eq (keys_of es)
  pub fits : AllByRecursion (Fits look) es
  pub linked : AllByRecursion (Links es) gs
  pub single : IsDistinct set_eq (map canon (keys_of gs))

-- the set can become a key: it is canonical, not empty, and has no entry
pub record IsNew (es : List Keyed) (s : AttributeSet) : Type 0 where
  pub absent : lookup (set_eq s) es ≡ None
  pub canonical : canon s ≡ s
  pub some : set_eq s none_set ≡ false

-- the list, if there is one, can become a key too: this set is its canonical form, and it is not among the lists yet
abbrev pub IsSpelling : List Keyed → AttributeSet → Option (List KeyValue) → Type 0
IsSpelling gs s None = Unit {0}
IsSpelling gs s (Some l) = (canon l ≡ s) × (lookup (set_eq l) gs ≡ None)

-- the lists, and this one if it is there, which leads to slot n
abbrev pub with_spelling : Option (List KeyValue) → ℕ → List Keyed → List Keyed
with_spelling None n gs = gs
with_spelling (Some l) n gs = gs ++ (l, n) ∷ []
