-- How handles lead to entries.
use Rattle.std.specs.Prelude.{◌≡◌, ℕ, ◌+◌, nat_eq, true, List, [], ◌∷◌, map, length, count_by, Option, None, Some}
use Rattle.std.specs.List.{AllByRecursion, IsDistinct}
use Rattle.std.specs.Map.{keys_of}
use Rattle.otel_common.specs.Equality.{set_eq}
use Rattle.otel_model_stream.specs.Sets.{AttributeSet}
use Rattle.otel_model_stream.specs.Entries.{Entry, Table}
use Rattle.otel_model_stream.specs.Events.{Handles}
use Rattle.otel_aggregate.specs.value_map.Numbers.{Numbers, number_of, set_named, is_placed}

-- a handle with the number of its entry
abbrev pub Link : Type 0
Link = ℕ × ℕ

-- what contracts see of links: those of live handles, in order of binding, and how many more there is room for
pub record Linked : Type 0 where
  pub entries : List Link
  pub unused : ℕ

abbrev pub spare : Linked → ℕ
spare l = l.unused

-- the place of a handle: its number, and that of its entry unless it has ended
abbrev pub Place : Type 0
Place = ℕ × Option ℕ

-- with the link of a handle, if it has not ended, before those of others
abbrev pub with_link : ℕ → Option ℕ → List Link → List Link
with_link h None ls = ls
with_link h (Some n) ls = (h, n) ∷ ls

-- the links of the handles that have not ended
abbrev pub live_links : List Place → List Link
live_links [] = []
live_links (p ∷ ps) = with_link p.0 p.1 (live_links ps)

-- no two places are of one number, and this many are of handles that have ended
pub record ArePlaces (ps : List Place) (ended : ℕ) : Type 0 where
  pub unique : IsDistinct nat_eq (keys_of ps)
  pub counted : ended + length (live_links ps) ≡ length ps

-- the handle with the set of its entry
abbrev pub handle_of : Numbers → Link → ℕ × AttributeSet
handle_of ns p = (p.0, set_named p.1 ns)

abbrev pub handles_of : Numbers → List Link → Handles
handles_of ns ps = map (handle_of ns) ps

-- the number to which the handle leads is that of an entry
abbrev pub IsLinked : Numbers → Link → Type 0
IsLinked ns p = number_of (set_named p.1 ns) ns ≡ Some p.1

-- how many live handles a set has
abbrev pub handles_at_set : AttributeSet → Handles → ℕ
handles_at_set s live = count_by (λ p. set_eq p.1 s) live

-- the entry's count of live handles is right
abbrev pub IsCounted : Handles → Entry → Type 0
IsCounted live e = e.handles ≡ handles_at_set e.set live

-- each entry counts its live handles, and each live handle has an entry
pub record AreHeld (t : Table) (live : Handles) : Type 0 where
  pub none : IsCounted live t.none
  pub entries : AllByRecursion (IsCounted live) t.entries
  pub placed : AllByRecursion (λ p. is_placed p.1 t.entries ≡ true) live
