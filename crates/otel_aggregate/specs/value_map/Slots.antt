-- What is kept in slots, as the model's entries.
use Rattle.std.specs.Prelude.{◌≡◌, ℕ, ◌+◌, ◌-◌, nat_eq, nat_lt, ◌||◌, Bool, true, false, cond, List, map, fold, Option, Some, None}
use Rattle.std.specs.Option.{option_map}
use Rattle.slab.specs.Slab.{Slab, get}
use Rattle.otel_model_stream.specs.Sets.{AttributeSet, none_set}
use Rattle.otel_model_stream.specs.Folds.{Fold, Total, Sample, record_fold, clear_fold}
use Rattle.otel_model_stream.specs.Entries.{Entry, Point, Table, write}
use Rattle.otel_aggregate.specs.declared.value_map.slots.Slot.{Slot}

-- what is kept in a slot. What lasts stays at every resetting collection, as the empty set's and the overflow entry do
pub record Kept : Type 0 where
  pub counted : Bool
  pub updated : Bool
  pub lasting : Bool
  pub fold : Fold
  pub handles : ℕ

-- what each slot holds, by its number
abbrev pub Look : Type 0
Look = ℕ → Option Kept

-- `meaning` tells what an aggregator's records come to
module _ {A : Type 0} (meaning : A → Fold) where
  abbrev pub kept_of : Slot A → Kept
  kept_of s = record { counted = s.counted; updated = s.updated; lasting = s.lasting; fold = meaning s.aggregator; handles = s.handles }

  abbrev pub look_in : Slab (Slot A) → Look
  look_in slots n = option_map kept_of (get slots n)

  -- the points that sets with copies of their aggregators stand for
  abbrev pub copies : List (AttributeSet × A) → List Point
  copies ps = map (λ p. (p.0, meaning p.1)) ps

-- the empty set's entry isn't counted, and its records come to what those of some aggregator of this type do
abbrev pub HasForm : {A : Type 0} → (A → Fold) → Table → Type 0
HasForm {A} meaning t = (a : A) × (t.none ≡ record { set = none_set; counted = false; updated = t.none.updated; fold = meaning a; handles = t.none.handles })

-- a slot without records and handles
abbrev pub new_kept : Fold → Bool → Bool → Kept
new_kept empty counted lasting = record { counted = counted; updated = false; lasting = lasting; fold = empty; handles = 0 }

-- with one more record
abbrev pub written : Sample → Kept → Kept
written v k = record k { updated = true; fold = record_fold k.fold v }

-- with more records
abbrev pub written_each : List Sample → Kept → Kept
written_each vs k = fold (λ (k : Kept) (v : Sample). written v k) k vs

-- with one more live handle
abbrev pub held : Kept → Kept
held k = record k { handles = k.handles + 1 }

-- with one live handle less
abbrev pub released : Kept → Kept
released k = record k { handles = k.handles - 1 }

-- with its records forgotten
abbrev pub forgotten : Kept → Kept
forgotten k = record k { updated = false; fold = clear_fold k.fold }

-- whether a resetting collection leaves it
abbrev pub remains : Kept → Bool
remains k = k.updated || (nat_lt 0 k.handles || k.lasting)

-- what a resetting collection leaves in a slot
abbrev pub left_of : Option Kept → Option Kept
left_of None = None
left_of (Some k) = cond (remains k) (Some (forgotten k)) None

-- the slots, with f applied to the one of this number if it is filled
abbrev pub at_slot : ℕ → (Kept → Kept) → Look → Look
at_slot n f look m = cond (nat_eq n m) (option_map f (look m)) (look m)

-- the slots, with this in the one of this number
abbrev pub with_slot : ℕ → Kept → Look → Look
with_slot n k look m = cond (nat_eq n m) (Some k) (look m)

-- every slot holds the same in both
abbrev pub SameLook : Look → Look → Type 0
SameLook look other = (n : ℕ) → look n ≡ other n

-- the entry of a set whose slot holds this; for an empty slot, one without records and handles
abbrev pub entry_of : AttributeSet → Option Kept → Entry
entry_of s None = record { set = s; counted = false; updated = false; fold = Total 0; handles = 0 }
entry_of s (Some k) = record { set = s; counted = k.counted; updated = k.updated; fold = k.fold; handles = k.handles }

-- a set with the number of its slot
abbrev pub Keyed : Type 0
Keyed = AttributeSet × ℕ

abbrev pub entry_at : Look → Keyed → Entry
entry_at look e = entry_of e.0 (look e.1)

-- an entry with more records
abbrev pub write_each : List Sample → Entry → Entry
write_each vs e = fold (λ (e : Entry) (v : Sample). write v e) e vs

-- the table of these slots: the entry of the empty set, and those of the sets, by their slots' numbers
abbrev pub table_at : Look → ℕ → List Keyed → Table
table_at look none es = record { none = entry_at look (none_set, none); entries = map (entry_at look) es }
