-- Worked rows on the statements of laws of one stream: what each says at one aggregate, kind, limit and set of any
-- events, machine, map or values.
use Rattle.std.specs.Prelude.{◌≡◌, ◌+◌, ◌*◌, ◌≤◌, pos, true, false, cond, ◌||◌, IsTrue, List, [], ◌∷◌, ◌++◌, map, filter, length, fold, sum_by, Some, None}
use Rattle.std.proofs.Common.{refl}
use Rattle.otel_common.specs.Canonical.{canon}
use Rattle.otel_common.specs.Equality.{set_eq}
use Rattle.otel_common.specs.declared.attributes.KeyValue.{KeyValue}
use Rattle.otel_model_stream.specs.Entries.{Entry, AreCanonical, has, number_counted}
use Rattle.otel_model_stream.specs.Events.{Event, Record, Bind, RecordBound, Unbind, Collect, Delta, Cumulative, Drained, held_by, without}
use Rattle.otel_model_stream.specs.Folds as folds
use Rattle.otel_model_stream.specs.Folds.{Amount, Sample, Spread, Sum, LastValue, Total, Last, Spreads, wrap, record_fold, clear_fold, empty_of, sample_of, fold_samples, fold_of}
use Rattle.otel_model_stream.specs.Laws.{ArePlacesOfWindows, AreCountedOfWindows, ArePointsOfWindows, ArePointsNow, IsConserved, IsAllShown, ArePointsFew, IsFoldOfList, IsFoldedByOneMore, bucket_counts, AreBucketsCounted, IsForgotten, IsClearedAlike, map_of, IsMeasured, IsHeld, IsHandleOfPlace, IsUpdatedBound, IsUnbound, IsIdle, IsReadonly, IsResetting, IsDraining, IsEvicted, IsDrained, AreKnown, IsCountedOnceAdmitted, IsKnownOnceMeasured, IsKnownOnceBound, IsStillKnown, IsKnownWhilePlaced, IsKnownBefore, IsEmptyKnown, IsKnownBySet, AreKeysFew, IsListedAtFirst, IsListedOnceMeasured, IsListedOnceBound, IsListedOnceUpdated, IsListedOnceUnbound, IsListedOnceEvicted, IsListedOnceDrained}
use Rattle.otel_model_stream.specs.Machine.{Machine, begin, step, run, answer, answers, points}
use Rattle.otel_model_stream.specs.Maps.{MapState, new_map, with_place, measured_map, bound_map, bound_to, updated_bound, unbound_map, readonly_points, resetting_points, draining_points, evicted_map, drained_map, KnownMap, is_admitted, without_lists, knows, keys, measured_list, bound_list, evicted_known, drained_known, AreListed}
use Rattle.otel_model_stream.specs.Sets.{none_set}
use Rattle.otel_model_stream.specs.Totals.{recorded_total, weight, points_total}
use Rattle.otel_model_stream.specs.Windows.{opening, window, collections, places_of, points_of, uncounted_of, sets_that_count}
use Rattle.otel_model_rows.specs.StreamRows.{pair, x1, y1, amount, bounds}

-- ======== the machine and the windows ========
pub laws_of_windows : (events : List Event)
    → (ArePlacesOfWindows → map (λ (e : Entry). e.set) (run Sum Delta 1 (begin Sum) events).table.entries ≡ places_of 1 (window Delta 1 opening events))
    × (AreCountedOfWindows → map (λ (e : Entry). e.set) (filter (λ (e : Entry). e.counted) (run Sum Delta 1 (begin Sum) events).table.entries) ≡ sets_that_count (uncounted_of 1 (window Delta 1 opening events)) (places_of 1 (window Delta 1 opening events)))
    × (ArePointsOfWindows → answers LastValue Drained 1 (begin LastValue) events ≡ collections LastValue Drained 1 opening events)
    × (ArePointsNow → points Cumulative (run Sum Cumulative 1 (begin Sum) events) ≡ points_of Sum Cumulative 1 (window Cumulative 1 opening events))
laws_of_windows events = (λ h. h Sum Delta 1 events, λ h. h Sum Delta 1 events, λ h. h LastValue Drained 1 events, λ h. h Sum Cumulative 1 events)

-- ======== totals ========
pub laws_of_totals : (events : List Event)
    → (IsConserved → wrap (sum_by points_total (collections Sum Delta 1 opening events) + points_total (points_of Sum Delta 1 (window Delta 1 opening events))) ≡ wrap (recorded_total Sum events))
    × (IsAllShown → wrap (points_total (points_of Sum Cumulative 1 (window Cumulative 1 opening events))) ≡ wrap (recorded_total Sum events))
    × (ArePointsFew → length (points_of Sum Delta 1 (window Delta 1 opening events)) ≤ 3)
laws_of_totals events = (λ h. h Sum 1 events, λ h. h Sum 1 events, λ h. h Sum Delta 1 events)

-- ======== folds ========
pub laws_of_folds : (values : List Amount) (samples : List Sample)
    → (IsFoldOfList → fold record_fold (empty_of Sum) (map (sample_of Sum) values) ≡ fold_of Sum values)
    × (IsFoldedByOneMore → fold_samples (Last 5) (samples ++ sample_of Sum (amount 7) ∷ []) ≡ record_fold (fold_samples (Last 5) samples) (sample_of Sum (amount 7)))
    × (AreBucketsCounted → wrap (sum_by (λ n. n) (bucket_counts (fold_of (folds.Histogram (bounds (5 ∷ 10 ∷ [])) true false) values))) ≡ weight (fold_of (folds.Histogram (bounds (5 ∷ 10 ∷ [])) true false) values))
    × (IsForgotten → clear_fold (fold_of LastValue values) ≡ Last 0)
    × (IsClearedAlike → clear_fold (fold record_fold (Total 5) samples) ≡ clear_fold (Total 5))
laws_of_folds values samples = (λ h. h Sum values, λ h. h (Last 5) samples (sample_of Sum (amount 7)), λ h. h (pos 5) (pos 10 ∷ []) true false values, λ h. h LastValue values, λ h. h (Total 5) samples)

abbrev two : Spread
two = record { has_min_max = false; has_sum = true; count = 2; sum = 15; least = None; greatest = None; counts = 1 ∷ 0 ∷ 1 ∷ [] }

pub counts_of_each : map bucket_counts (Total 5 ∷ Last 5 ∷ Spreads two ∷ []) ≡ [] ∷ [] ∷ (1 ∷ 0 ∷ 1 ∷ []) ∷ []
counts_of_each = refl

-- ======== the machine and a bounded map ========
-- x has a place and handle 0, which is the only one
abbrev machine : Machine
machine = step Sum Delta 1 (begin Sum) (Bind 0 x1)

abbrev as_map : MapState
as_map = map_of Sum 1 machine.table

pub map_of_machine : (map_of Sum 1 (begin Sum).table ≡ new_map 1 (Total 0)) × (as_map ≡ bound_map x1 (new_map 1 (Total 0)))
map_of_machine = (refl, refl)

-- of any machine
pub laws_of_steps : (any : Machine)
    → (IsMeasured → map_of Sum 1 (step Sum Delta 1 any (Record y1 (amount 3))).table ≡ measured_map y1 (sample_of Sum (amount 3)) (map_of Sum 1 any.table))
    × (IsHeld → map_of Sum 1 (step Sum Delta 1 any (Bind 1 y1)).table ≡ bound_map y1 (map_of Sum 1 any.table))
    × (IsHandleOfPlace → (step Sum Delta 1 any (Bind 1 y1)).live ≡ any.live ++ (1, bound_to y1 (map_of Sum 1 any.table)) ∷ [])
    × (IsUpdatedBound → held_by 0 any.live ≡ Some x1 → map_of Sum 1 (step Sum Delta 1 any (RecordBound 0 (amount 3))).table ≡ updated_bound x1 (sample_of Sum (amount 3)) (map_of Sum 1 any.table))
    × (IsUnbound → held_by 0 any.live ≡ Some x1 → (map_of Sum 1 (step Sum Delta 1 any (Unbind 0)).table ≡ unbound_map x1 (map_of Sum 1 any.table)) × ((step Sum Delta 1 any (Unbind 0)).live ≡ without 0 any.live))
    × (IsIdle → held_by 7 any.live ≡ None → (step Sum Delta 1 any (RecordBound 7 (amount 3)) ≡ any) × (step Sum Delta 1 any (Unbind 7) ≡ any))
laws_of_steps any = (
  λ h. h Sum Delta 1 any y1 (amount 3),
  λ h. h Sum Delta 1 any 1 y1,
  λ h. h Sum Delta 1 any 1 y1,
  λ h e. h Sum Delta 1 any 0 x1 (amount 3) e,
  λ h e. h Sum Delta 1 any 0 x1 e,
  λ h e. h Sum Delta 1 any 7 (amount 3) e,
)

pub laws_of_collections : (any : Machine)
    → (IsReadonly → (step Sum Cumulative 1 any Collect ≡ any) × (answer Cumulative any Collect ≡ readonly_points (map_of Sum 1 any.table) ∷ []))
    × (IsResetting → answer Delta any Collect ≡ resetting_points (map_of Sum 1 any.table) ∷ [])
    × (IsDraining → answer Drained any Collect ≡ draining_points (map_of Sum 1 any.table) ∷ [])
    × (IsEvicted → map_of Sum 1 (step Sum Delta 1 any Collect).table ≡ evicted_map (map_of Sum 1 any.table))
    × (IsDrained → any.table.none.handles ≡ 0 → map_of Sum 1 (step Sum Drained 1 any Collect).table ≡ drained_map (map_of Sum 1 any.table))
laws_of_collections any = (λ h. h Sum 1 any, λ h. h Sum 1 any, λ h. h Sum 1 any, λ h. h Sum 1 any, λ h e. h Sum 1 any e)

-- ======== what a map knows ========
abbrev x1_y1 : List KeyValue
x1_y1 = pair (120 ∷ []) 1 ∷ pair (121 ∷ []) 1 ∷ []

abbrev y1_x1 : List KeyValue
y1_x1 = pair (121 ∷ []) 1 ∷ pair (120 ∷ []) 1 ∷ []

abbrev three : Sample
three = sample_of Sum (amount 3)

abbrev fresh : KnownMap
fresh = without_lists (new_map 1 (Total 0))

abbrev known : KnownMap
known = measured_list y1_x1 three fresh

-- the list and its set
pub both_known : AreKnown y1_x1 known
unfolding canon
both_known = (refl, refl)

-- of any map
pub laws_of_admission : (any : KnownMap)
    → (IsCountedOnceAdmitted → number_counted (with_place x1 any.map_state).table.entries ≡ number_counted any.map_state.table.entries + cond (is_admitted x1 any.map_state) 1 0)
    × (IsKnownOnceMeasured → IsTrue (is_admitted (canon y1_x1) any.map_state) → AreKnown y1_x1 (measured_list y1_x1 three any))
    × (IsKnownOnceBound → IsTrue (is_admitted (canon y1_x1) any.map_state) → AreKnown y1_x1 (bound_list y1_x1 any))
laws_of_admission any = (λ h. h x1 any.map_state, λ h e. h y1_x1 three any e, λ h e. h y1_x1 any e)

pub laws_of_knowing : (any : KnownMap)
    → (IsStillKnown → IsTrue (knows y1_x1 any) → IsTrue (knows y1_x1 (measured_list x1 three any)) × IsTrue (knows y1_x1 (bound_list x1 any)))
    × (IsKnownWhilePlaced → AreCanonical any.map_state.table.entries → IsTrue (knows y1_x1 any) → IsTrue (has (canon y1_x1) (evicted_known any).map_state.table.entries) → IsTrue (knows y1_x1 (evicted_known any)))
    × (IsKnownBefore → IsTrue (knows y1_x1 (evicted_known any)) → IsTrue (knows y1_x1 any))
    × (IsEmptyKnown → knows y1_x1 (drained_known any) ≡ set_eq y1_x1 none_set)
    × (IsKnownBySet → knows y1_x1 (without_lists any.map_state) ≡ (set_eq y1_x1 none_set || has y1_x1 any.map_state.table.entries))
laws_of_knowing any = (λ h e. h y1_x1 x1 three any e, λ h c e f. h y1_x1 any c e f, λ h e. h y1_x1 any e, λ h. h y1_x1 any, λ h. h y1_x1 any.map_state)

pub laws_of_lists : (any : KnownMap) → AreListed any
    → (AreKeysFew → keys any ≤ 2 * length any.map_state.table.entries)
    × (IsListedAtFirst → AreListed (without_lists any.map_state))
    × (IsListedOnceMeasured → AreListed (measured_list x1 three any))
    × (IsListedOnceBound → AreListed (bound_list x1 any))
    × (IsListedOnceUpdated → AreListed (record any { map_state = updated_bound x1_y1 three any.map_state }))
    × (IsListedOnceUnbound → AreListed (record any { map_state = unbound_map x1_y1 any.map_state }))
    × (IsListedOnceEvicted → AreListed (evicted_known any))
    × (IsListedOnceDrained → AreListed (drained_known any))
laws_of_lists any l = (
  λ h. h any l,
  λ h. h any.map_state,
  λ h. h x1 three any l,
  λ h. h x1 any l,
  λ h. h x1_y1 three any l,
  λ h. h x1_y1 any l,
  λ h. h any l,
  λ h. h any l,
)
