-- The entries of a table, one after another.
use Rattle.std.proofs.Common.{suc, ◌+◌, ◌≤◌, ◌≡◌, ◌||◌, Bool, true, false, cond, List, [], ◌∷◌, Option, Some, None, is_some, map, filter, length, refl, arith}
use Rattle.std.specs.Option.{option_map}
use Rattle.otel_model_stream.specs.Entries.{Entry, Point, point_of_entry, number_counted}
use Rattle.otel_aggregate.specs.value_map.Slots.{Look, Keyed, entry_at}

pub is_some-map : {X Y : Type 0} (f : X → Y) (o : Option X) → is_some (option_map f o) ≡ is_some o
is_some-map f None = refl
is_some-map f (Some x) = refl

pub counted_cons : (e : Entry) (es : List Entry) → number_counted (e ∷ es) ≡ cond e.counted 1 0 + number_counted es
counted_cons e es = by e.counted
  where
    cs : List Entry
    cs = filter (λ (e : Entry). e.counted) es

    by : (b : Bool) → length (cond b (e ∷ cs) cs) ≡ cond b 1 0 + length cs
    by true = omega arith
    by false = omega arith

pub counted_few : (look : Look) (es : List Keyed) → number_counted (map (entry_at look) es) ≤ length es
counted_few look [] = omega arith
counted_few look (e ∷ es) = by (entry_at look e).counted (counted_cons (entry_at look e) (map (entry_at look) es)) (counted_few look es)
  where
    by : (b : Bool) → number_counted (map (entry_at look) (e ∷ es)) ≡ cond b 1 0 + number_counted (map (entry_at look) es) → number_counted (map (entry_at look) es) ≤ length es → number_counted (map (entry_at look) (e ∷ es)) ≤ suc (length es)
    by true q h = omega arith
    by false q h = omega arith

-- the points that entries show
abbrev pub shown_of : Bool → List Entry → List Point
shown_of every es = map point_of_entry (filter (λ (e : Entry). every || e.updated) es)
