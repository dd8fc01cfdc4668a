-- Worked rows of one stream, computed on its windows and on its machine.
use Rattle.std.proofs.Common.{◌≡◌, ℕ, List, [], ◌∷◌, length, Bool, true, false, Some, None, refl, replicate, ◌++◌}
use Rattle.std.specs.Prelude.{codes, pos, negsuc}
use Rattle.otel_common.specs.Canonical.{canon}
use Rattle.otel_common.specs.declared.attributes.KeyValue.{KeyValue}
use Rattle.otel_common.specs.declared.attributes.Value.TheVariants as value
use Rattle.otel_model_stream.specs.Sets.{AttributeSet, none_set, over_set, set_of}
use Rattle.otel_model_stream.specs.Folds.{Sum, LastValue, Histogram, Sample, Total, Last, Spreads, sample_of}
use Rattle.otel_model_stream.specs.Events.{Event, Bind, RecordBound, Unbind, Collect, Delta, Cumulative}
use Rattle.otel_model_stream.specs.Maps.{MapState, new_map, bound_map, bound_to, updated_bound, unbound_map, readonly_points, resetting_points, draining_points, evicted_map, KnownMap, without_lists, knows, keys, measured_list, bound_list, evicted_known, drained_known}
use Rattle.otel_model_rows.specs.StreamRows.{pair, x1, y1, z1, k_v, amount, add, values, sum, spread, bounds, default_bounds, AreShown}

-- ======== histograms ========
pub row_1 : AreShown (Histogram (bounds (1 ∷ 3 ∷ 6 ∷ [])) true true) Cumulative 2000 (values (1 ∷ 2 ∷ 3 ∷ 4 ∷ 5 ∷ 6 ∷ 7 ∷ 8 ∷ 9 ∷ 10 ∷ []) ++ Collect ∷ [])
    ((spread none_set 10 55 (Some (pos 1)) (Some (pos 10)) (1 ∷ 2 ∷ 3 ∷ 4 ∷ []) ∷ []) ∷ [])
row_1 = (refl, refl)

pub row_2 : AreShown (Histogram default_bounds true true) Cumulative 2000 (values (0 ∷ 5 ∷ 6 ∷ 10001 ∷ []) ++ Collect ∷ [])
    ((spread none_set 4 10012 (Some (pos 0)) (Some (pos 10001)) (1 ∷ 1 ∷ 1 ∷ 0 ∷ 0 ∷ 0 ∷ 0 ∷ 0 ∷ 0 ∷ 0 ∷ 0 ∷ 0 ∷ 0 ∷ 0 ∷ 0 ∷ 1 ∷ []) ∷ []) ∷ [])
row_2 = (refl, refl)

pub row_9 : AreShown (Histogram default_bounds true true) Cumulative 2000 (Bind 0 k_v ∷ Collect ∷ [])
    ((spread k_v 0 0 None None (replicate 16 0) ∷ []) ∷ [])
row_9 = (refl, refl)

pub row_38 : AreShown (Histogram (bounds (9223372036854775807 ∷ [])) true true) Cumulative 2000 (values (18446744073709551615 ∷ 9223372036854775807 ∷ []) ++ Collect ∷ [])
    ((spread none_set 2 9223372036854775806 (Some (pos 9223372036854775807)) (Some (pos 18446744073709551615)) (1 ∷ 1 ∷ []) ∷ []) ∷ [])
row_38 = (refl, refl)

-- the bounds -5 and 0
pub row_39 : AreShown (Histogram (negsuc 4 ∷ pos 0 ∷ []) true true) Cumulative 2000 (values (0 ∷ []) ++ Collect ∷ [])
    ((spread none_set 1 0 (Some (pos 0)) (Some (pos 0)) (0 ∷ 1 ∷ 0 ∷ []) ∷ []) ∷ [])
row_39 = (refl, refl)

pub row_39_without_bounds : AreShown (Histogram [] true true) Cumulative 2000 (values (7 ∷ []) ++ Collect ∷ [])
    ((spread none_set 1 7 (Some (pos 7)) (Some (pos 7)) [] ∷ []) ∷ [])
row_39_without_bounds = (refl, refl)

pub row_47_without_min_max : AreShown (Histogram (bounds (10 ∷ [])) false true) Cumulative 2000 (values (10 ∷ 11 ∷ []) ++ Collect ∷ [])
    (((none_set, Spreads (record { has_min_max = false; has_sum = true; count = 2; sum = 21; least = None; greatest = None; counts = 1 ∷ 1 ∷ [] })) ∷ []) ∷ [])
row_47_without_min_max = (refl, refl)

-- a histogram without a sum
pub without_sum : AreShown (Histogram (bounds (10 ∷ [])) true false) Cumulative 2000 (values (10 ∷ 11 ∷ []) ++ Collect ∷ [])
    (((none_set, Spreads (record { has_min_max = true; has_sum = false; count = 2; sum = 0; least = Some (pos 10); greatest = Some (pos 11); counts = 1 ∷ 1 ∷ [] })) ∷ []) ∷ [])
without_sum = (refl, refl)

-- ======== places ========
pub row_3 : AreShown Sum Delta 2 (add x1 1 ∷ add y1 2 ∷ add z1 4 ∷ add x1 8 ∷ Collect ∷ [])
    ((sum x1 9 ∷ sum y1 2 ∷ sum over_set 4 ∷ []) ∷ [])
row_3 = (refl, refl)

pub row_4 : AreShown Sum Delta 1 (add x1 1 ∷ Collect ∷ add y1 2 ∷ Collect ∷ add y1 4 ∷ Collect ∷ [])
    ((sum x1 1 ∷ []) ∷ (sum over_set 2 ∷ []) ∷ (sum y1 4 ∷ []) ∷ [])
row_4 = (refl, refl)

pub row_7 : AreShown Sum Delta 1 (add over_set 1 ∷ add x1 2 ∷ Collect ∷ Collect ∷ add x1 5 ∷ Collect ∷ [])
    ((sum over_set 3 ∷ []) ∷ [] ∷ (sum over_set 5 ∷ []) ∷ [])
row_7 = (refl, refl)

pub row_8 : AreShown Sum Delta 1 (add x1 1 ∷ Bind 0 y1 ∷ Collect ∷ Collect ∷ add y1 2 ∷ RecordBound 0 (amount 4) ∷ Collect ∷ [])
    ((sum x1 1 ∷ []) ∷ [] ∷ (sum over_set 4 ∷ sum y1 2 ∷ []) ∷ [])
row_8 = (refl, refl)

pub row_22 : AreShown Sum Delta 1 (add none_set 1 ∷ add x1 2 ∷ add y1 4 ∷ Collect ∷ [])
    ((sum none_set 1 ∷ sum x1 2 ∷ sum over_set 4 ∷ []) ∷ [])
row_22 = (refl, refl)

pub row_34 : AreShown Sum Delta 2 (add over_set 1 ∷ add x1 2 ∷ add y1 4 ∷ Collect ∷ Collect ∷ add y1 8 ∷ add z1 16 ∷ Collect ∷ [])
    ((sum over_set 5 ∷ sum x1 2 ∷ []) ∷ [] ∷ (sum over_set 16 ∷ sum y1 8 ∷ []) ∷ [])
row_34 = (refl, refl)

pub row_35 : AreShown Sum Delta 1 (add x1 1 ∷ add y1 2 ∷ add over_set 4 ∷ Collect ∷ Collect ∷ add over_set 8 ∷ add z1 16 ∷ Collect ∷ [])
    ((sum x1 1 ∷ sum over_set 6 ∷ []) ∷ [] ∷ (sum over_set 8 ∷ sum z1 16 ∷ []) ∷ [])
row_35 = (refl, refl)

-- a set without measurements keeps its place while a handle holds it; once the handle ends, another set gets the place
pub held_place : AreShown Sum Delta 1 (Bind 0 x1 ∷ Collect ∷ add y1 1 ∷ Collect ∷ Unbind 0 ∷ Collect ∷ add y1 2 ∷ Collect ∷ [])
    ([] ∷ (sum over_set 1 ∷ []) ∷ [] ∷ (sum y1 2 ∷ []) ∷ [])
held_place = (refl, refl)

-- the key of the overflow attribute with another value
abbrev no_overflow : AttributeSet
no_overflow = record { key = codes "otel.metric.overflow"; value = value.Bool false } ∷ []

pub row_36 : AreShown Sum Delta 1 (add no_overflow 1 ∷ add x1 2 ∷ Collect ∷ [])
    ((sum no_overflow 1 ∷ sum over_set 2 ∷ []) ∷ [])
row_36 = (refl, refl)

-- ======== values ========
-- the bits of -9223372036854775808
pub row_13 : AreShown Sum Cumulative 2000 (values (9223372036854775807 ∷ 1 ∷ []) ++ Collect ∷ [])
    ((sum none_set 9223372036854775808 ∷ []) ∷ [])
row_13 = (refl, refl)

-- the last value through a handle
pub row_27 : AreShown LastValue Cumulative 2000 (Bind 0 k_v ∷ RecordBound 0 (amount 7) ∷ RecordBound 0 (amount 42) ∷ Collect ∷ Unbind 0 ∷ Unbind 0 ∷ [])
    (((k_v, Last 42) ∷ []) ∷ [])
row_27 = (refl, refl)

-- ======== attributes ========
abbrev a : ℕ → KeyValue
a n = pair (codes "a") n

abbrev b : ℕ → KeyValue
b n = pair (codes "b") n

abbrev a2_b1 : AttributeSet
a2_b1 = a 2 ∷ b 1 ∷ []

pub row_10_in_order : set_of None (a 2 ∷ b 1 ∷ []) ≡ a2_b1
unfolding canon
row_10_in_order = refl

pub row_10_turned : set_of None (b 1 ∷ a 2 ∷ []) ≡ a2_b1
unfolding canon
row_10_turned = refl

pub row_10_doubled : set_of None (a 2 ∷ a 9 ∷ b 1 ∷ []) ≡ a2_b1
unfolding canon
row_10_doubled = refl

abbrev three : AttributeSet → AttributeSet → AttributeSet → List Event
three p q r = add p 1 ∷ add q 2 ∷ add r 4 ∷ Collect ∷ []

pub row_10 : AreShown Sum Cumulative 2000 (three (set_of None (b 1 ∷ a 2 ∷ [])) (set_of None (a 2 ∷ b 1 ∷ [])) (set_of None (a 2 ∷ a 9 ∷ b 1 ∷ [])))
    ((sum a2_b1 7 ∷ []) ∷ [])
unfolding canon
row_10 = (refl, refl)

-- an empty allow-list keeps nothing
abbrev two : AttributeSet → AttributeSet → List Event
two p q = add p 1 ∷ add q 2 ∷ Collect ∷ []

pub row_24 : AreShown Sum Cumulative 2000 (two (set_of (Some []) x1) (set_of (Some []) y1)) ((sum none_set 3 ∷ []) ∷ [])
unfolding canon
row_24 = (refl, refl)

-- ======== handles of a map ========
-- a map of sums with room for one set
abbrev sums : MapState
sums = new_map 1 (Total 0)

abbrev held_twice : MapState
held_twice = bound_map x1 (bound_map x1 sums)

-- two handles are of one entry, which stays until both are let go
pub two_handles : (held_twice.table.entries ≡ record { set = x1; counted = true; updated = false; fold = Total 0; handles = 2 } ∷ [])
    × (length (evicted_map (unbound_map x1 held_twice)).table.entries ≡ 1)
    × ((evicted_map (unbound_map x1 (unbound_map x1 held_twice))).table.entries ≡ [])
two_handles = (refl, refl, refl)

-- a handle of a set past the limit is of the overflow entry, and one of a set with an entry is of that entry
pub handles_go : (bound_to x1 sums ≡ x1) × (bound_to x1 held_twice ≡ x1) × (bound_to y1 held_twice ≡ over_set)
handles_go = (refl, refl, refl)

-- measurements through a handle of an entry; an entry that was not updated but is held by a handle is shown by a
-- read-only collection alone
pub through_a_handle : (resetting_points (updated_bound x1 (sample_of Sum (amount 4)) held_twice) ≡ sum x1 4 ∷ [])
    × (resetting_points held_twice ≡ [])
    × (readonly_points held_twice ≡ sum x1 0 ∷ [])
    × (draining_points held_twice ≡ sum x1 0 ∷ [])
through_a_handle = (refl, refl, refl, refl)

abbrev held_none : MapState
held_none = bound_map none_set sums

-- a handle of the empty set, which takes no place
pub handle_of_none : (bound_to none_set sums ≡ none_set)
    × (held_none.table.none.handles ≡ 1)
    × (held_none.table.entries ≡ [])
    × (readonly_points held_none ≡ [])
    × (readonly_points (updated_bound none_set (sample_of Sum (amount 4)) held_none) ≡ sum none_set 4 ∷ [])
    × ((unbound_map none_set held_none).table.none.handles ≡ 0)
handle_of_none = (refl, refl, refl, refl, refl, refl)

-- ======== what a map knows ========
-- a map of last values with room for ten sets, that knows no list
abbrev last_values : KnownMap
last_values = without_lists (new_map 10 (Last 0))

abbrev last_value : ℕ → Sample
last_value n = sample_of LastValue (amount n)

abbrev b1_a2 : List KeyValue
b1_a2 = b 1 ∷ a 2 ∷ []

abbrev AreKeys : KnownMap → (all entries : ℕ) → (sorted as_given : Bool) → Type 0
AreKeys k all entries sorted as_given = (keys k ≡ all) × (length k.map_state.table.entries ≡ entries) × (knows a2_b1 k ≡ sorted) × (knows b1_a2 k ≡ as_given)

abbrev as_given_first : KnownMap
as_given_first = measured_list b1_a2 (last_value 1) last_values

-- a list that isn't its own set is a key beside its set
pub row_31 : AreKeys as_given_first 2 1 true true
unfolding canon
row_31 = (refl, refl, refl, refl)

-- a collection after a measurement keeps both keys, and one without leaves none
pub row_31_collected : (resetting_points as_given_first.map_state ≡ (a2_b1, Last 1) ∷ []) × AreKeys (evicted_known as_given_first) 2 1 true true
unfolding canon
row_31_collected = (refl, (refl, refl, refl, refl))

pub row_31_quiet : (resetting_points (evicted_known as_given_first).map_state ≡ []) × AreKeys (evicted_known (evicted_known as_given_first)) 0 0 false false
unfolding canon
row_31_quiet = (refl, (refl, refl, refl, refl))

pub row_31_drained : AreKeys (drained_known as_given_first) 0 0 false false
unfolding canon
row_31_drained = (refl, refl, refl, refl)

-- the same if a bind admitted the set
pub row_31_bound : AreKeys (bound_list b1_a2 last_values) 2 1 true true
unfolding canon
row_31_bound = (refl, refl, refl, refl)

abbrev sorted_first : KnownMap
sorted_first = measured_list b1_a2 (last_value 2) (measured_list a2_b1 (last_value 1) last_values)

-- the attributes of a set that has an entry, in another order, are no key
pub row_32 : (resetting_points sorted_first.map_state ≡ (a2_b1, Last 2) ∷ []) × AreKeys sorted_first 1 1 true false
unfolding canon
row_32 = (refl, (refl, refl, refl, refl))
