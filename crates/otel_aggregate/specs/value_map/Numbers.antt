-- The numbers by which handles name entries, and the keys of a map.
use Rattle.std.specs.Prelude.{◌≡◌, ℕ, nat_eq, ◌&&◌, ◌||◌, not, cond, Bool, true, false, List, [], ◌∷◌, Option, Some, is_some}
use Rattle.std.specs.List.{list_any}
use Rattle.std.specs.Map.{lookup}
use Rattle.otel_common.specs.Canonical.{canon}
use Rattle.otel_common.specs.Equality.{set_eq}
use Rattle.otel_common.specs.declared.attributes.KeyValue.{KeyValue}
use Rattle.otel_model_stream.specs.Sets.{AttributeSet, none_set}
use Rattle.otel_model_stream.specs.Entries.{Entry, Table, is_of, has}
use Rattle.otel_model_stream.specs.Maps.{MapState, is_admitted}

-- the number of the empty set's entry, and the other sets that have entries, each with its entry's number, in order of
-- making
pub record Numbers : Type 0 where
  pub none : ℕ
  pub sets : List (AttributeSet × ℕ)

-- the number of a set's entry, if it has one
abbrev pub number_of : AttributeSet → Numbers → Option ℕ
number_of s ns = cond (set_eq s none_set) (Some ns.none) (lookup (set_eq s) ns.sets)

-- the set whose entry has this number; the empty one if none has
abbrev pub named_in : ℕ → List (AttributeSet × ℕ) → AttributeSet
named_in n [] = none_set
named_in n (e ∷ es) = cond (nat_eq n e.1) e.0 (named_in n es)

-- the set that this number names; the empty one if it names no other
abbrev pub set_named : ℕ → Numbers → AttributeSet
set_named n ns = cond (nat_eq n ns.none) none_set (named_in n ns.sets)

-- whether an entry has this number
abbrev pub is_number : ℕ → Numbers → Bool
is_number n ns = nat_eq n ns.none || list_any (λ (e : AttributeSet × ℕ). nat_eq n e.1) ns.sets

-- each set that has a number keeps it
abbrev pub KeepNumbers : Numbers → Numbers → Type 0
KeepNumbers old new = (s : AttributeSet) (n : ℕ) → number_of s old ≡ Some n → number_of s new ≡ Some n

-- whether a set has an entry; the empty one always has
abbrev pub is_placed : AttributeSet → List Entry → Bool
is_placed s es = set_eq s none_set || has s es

-- each set whose entry is left keeps its number
abbrev pub KeepLeft : List Entry → Numbers → Numbers → Type 0
KeepLeft left old new = (s : AttributeSet) (n : ℕ) → number_of s old ≡ Some n → is_placed s left ≡ true → number_of s new ≡ Some n

-- each number of a set names that set
abbrev pub AreNamed : Numbers → Type 0
AreNamed ns = (s : AttributeSet) (n : ℕ) → number_of s ns ≡ Some n → set_named n ns ≡ s

-- exactly the sets that have entries have numbers
abbrev pub AreNumbered : List Entry → Numbers → Type 0
AreNumbered es ns = (s : AttributeSet) → is_some (number_of s ns) ≡ is_placed s es

-- the list of a prepared record or bind, as one more key, if its set will get a counted entry and isn't the list itself
abbrev pub spelling_of : List KeyValue → MapState → List (List KeyValue)
spelling_of l m = cond (is_admitted (canon l) m && not (set_eq (canon l) l)) (l ∷ []) []

-- how many live handles the entry of a set has; 0 if it has no entry
abbrev pub handles_in : AttributeSet → List Entry → ℕ
handles_in s [] = 0
handles_in s (e ∷ es) = cond (is_of s e) e.handles (handles_in s es)

abbrev pub handles_at : AttributeSet → Table → ℕ
handles_at s t = handles_in s (t.none ∷ t.entries)

-- a set that isn't empty has this number, and the number names it
pub record IsNumberOf (s : AttributeSet) (n : ℕ) (ns : Numbers) : Type 0 where
  pub some : set_eq s none_set ≡ false
  pub number : lookup (set_eq s) ns.sets ≡ Some n
  pub named : set_named n ns ≡ s
