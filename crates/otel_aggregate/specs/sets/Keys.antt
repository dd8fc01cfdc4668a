-- The keys of a table, as sets.
use Rattle.std.specs.Prelude.{ℕ, ◌+◌, ◌<◌, ◌≤◌, ◌==◌, Bool, true, cond, List, ◌∷◌, map, take, drop, length, None, Some, Result, Ok, Err, ◌++◌}
use Rattle.std.specs.Borrow.{Bor}
use Rattle.std.specs.Ordering.{is_lt}
use Rattle.std.specs.List.{list_any}
use Rattle.otel_common.specs.Canonical.{key_cmp}
use Rattle.otel_common.specs.Equality.{bytes_eq}
use Rattle.otel_common.specs.declared.attributes.KeyValue.{KeyValue}
use Rattle.otel_model_stream.specs.Sets.{AttributeSet, AllowList}

-- the attributes that references lead to
abbrev pub shown : List (Bor KeyValue) → List KeyValue
shown references = map (λ r. r.now) references

-- whether an attribute with this key is kept
abbrev pub is_kept : AllowList → List ℕ → Bool
is_kept None key = true
is_kept (Some allow) key = list_any (bytes_eq key) allow

-- whether the key of an attribute is less than that of the next one
abbrev pub is_below : KeyValue → KeyValue → Bool
is_below p next = is_lt (key_cmp p.key next.key)

-- the attributes that are looked up: those that references lead to, or those of the list if there are none
abbrev pub attributes_of : List KeyValue → List (Bor KeyValue) → AttributeSet
attributes_of list references = cond (length references == 0) list (shown references)

-- a place in a list of this length, or one before which something can be put
abbrev pub IsPlaceIn : ℕ → Result ℕ ℕ → Type 0
IsPlaceIn n (Ok at) = at < n
IsPlaceIn n (Err at) = at ≤ n

-- the list with the attribute in place of the one there, or put before it
abbrev pub placed_at : Result ℕ ℕ → KeyValue → List KeyValue → List KeyValue
placed_at (Ok at) p l = take at l ++ p ∷ drop (at + 1) l
placed_at (Err at) p l = take at l ++ p ∷ drop at l
