-- The laws of one stream, for every aggregate, kind, limit and list of events.
use Rattle.std.specs.Prelude.{◌≡◌, ℕ, ◌+◌, ◌*◌, ◌≤◌, ℤ, Bool, cond, ◌||◌, IsTrue, List, [], ◌∷◌, ◌++◌, map, filter, length, fold, sum_by, Some, None}
use Rattle.otel_common.specs.Canonical.{canon}
use Rattle.otel_common.specs.Equality.{set_eq}
use Rattle.otel_common.specs.declared.attributes.KeyValue.{KeyValue}
use Rattle.otel_model_stream.specs.Sets.{AttributeSet, none_set}
use Rattle.otel_model_stream.specs.Folds.{Aggregate, Histogram, Amount, Sample, Fold, Total, Last, Spreads, wrap, record_fold, clear_fold, empty_of, sample_of, fold_samples, fold_of}
use Rattle.otel_model_stream.specs.Events.{Event, Record, Bind, RecordBound, Unbind, Collect, Kind, Delta, Cumulative, Drained, held_by, without}
use Rattle.otel_model_stream.specs.Entries.{Entry, Table, has, number_counted, AreCanonical}
use Rattle.otel_model_stream.specs.Maps.{MapState, with_place, measured_map, bound_map, bound_to, updated_bound, unbound_map, readonly_points, resetting_points, draining_points, evicted_map, drained_map, KnownMap, without_lists, knows, keys, is_admitted, measured_list, bound_list, evicted_known, drained_known, AreListed}
use Rattle.otel_model_stream.specs.Machine.{Machine, begin, step, run, answer, answers, points}
use Rattle.otel_model_stream.specs.Windows.{opening, window, collections, places_of, points_of, uncounted_of, sets_that_count}
use Rattle.otel_model_stream.specs.Totals.{recorded_total, weight, points_total}

-- ======== the machine and the windows ========
-- the sets of the machine's entries are the places of the current window, in order
abbrev pub ArePlacesOfWindows : Type 0
ArePlacesOfWindows = (σ : Aggregate) (kind : Kind) (limit : ℕ) (events : List Event) →
    map (λ (e : Entry). e.set) (run σ kind limit (begin σ) events).table.entries ≡ places_of limit (window kind limit opening events)

-- the sets of the counted entries are the places of the current window that the limit counts, in order
abbrev pub AreCountedOfWindows : Type 0
AreCountedOfWindows = (σ : Aggregate) (kind : Kind) (limit : ℕ) (events : List Event) →
    map (λ (e : Entry). e.set) (filter (λ (e : Entry). e.counted) (run σ kind limit (begin σ) events).table.entries)
    ≡ sets_that_count (uncounted_of limit (window kind limit opening events)) (places_of limit (window kind limit opening events))

-- each collection shows the points of its window
abbrev pub ArePointsOfWindows : Type 0
ArePointsOfWindows = (σ : Aggregate) (kind : Kind) (limit : ℕ) (events : List Event) → answers σ kind limit (begin σ) events ≡ collections σ kind limit opening events

-- a collection now would show the points of the current window
abbrev pub ArePointsNow : Type 0
ArePointsNow = (σ : Aggregate) (kind : Kind) (limit : ℕ) (events : List Event) → points kind (run σ kind limit (begin σ) events) ≡ points_of σ kind limit (window kind limit opening events)

-- ======== totals ========
-- in a delta stream, what the collections showed plus what is pending is all that was recorded, modulo 2^64
abbrev pub IsConserved : Type 0
IsConserved = (σ : Aggregate) (limit : ℕ) (events : List Event) →
    wrap (sum_by points_total (collections σ Delta limit opening events) + points_total (points_of σ Delta limit (window Delta limit opening events))) ≡ wrap (recorded_total σ events)

-- in a cumulative stream, the points add up to all that was recorded, modulo 2^64
abbrev pub IsAllShown : Type 0
IsAllShown = (σ : Aggregate) (limit : ℕ) (events : List Event) → wrap (points_total (points_of σ Cumulative limit (window Cumulative limit opening events))) ≡ wrap (recorded_total σ events)

-- the current window has at most two points more than the limit
abbrev pub ArePointsFew : Type 0
ArePointsFew = (σ : Aggregate) (kind : Kind) (limit : ℕ) (events : List Event) → length (points_of σ kind limit (window kind limit opening events)) ≤ limit + 2

-- ======== folds ========
-- folding measurements one by one gives the fold of the whole list
abbrev pub IsFoldOfList : Type 0
IsFoldOfList = (σ : Aggregate) (values : List Amount) → fold record_fold (empty_of σ) (map (sample_of σ) values) ≡ fold_of σ values

-- the fold of a list with one more measurement is the fold of the list, after that measurement
abbrev pub IsFoldedByOneMore : Type 0
IsFoldedByOneMore = (empty : Fold) (records : List Sample) (v : Sample) → fold_samples empty (records ++ v ∷ []) ≡ record_fold (fold_samples empty records) v

-- the bucket counts of a histogram; none for any other fold
abbrev pub bucket_counts : Fold → List ℕ
bucket_counts (Total n) = []
bucket_counts (Last n) = []
bucket_counts (Spreads s) = s.counts

-- in a histogram with at least one bound the bucket counts add up to the count, modulo 2^64
abbrev pub AreBucketsCounted : Type 0
AreBucketsCounted = (bound : ℤ) (bounds : List ℤ) (has_min_max has_sum : Bool) (values : List Amount) →
    wrap (sum_by (λ n. n) (bucket_counts (fold_of (Histogram (bound ∷ bounds) has_min_max has_sum) values))) ≡ weight (fold_of (Histogram (bound ∷ bounds) has_min_max has_sum) values)

-- clearing the fold of any values gives the fold of none
abbrev pub IsForgotten : Type 0
IsForgotten = (σ : Aggregate) (values : List Amount) → clear_fold (fold_of σ values) ≡ empty_of σ

-- clearing any fold after further measurements gives what clearing it before them gives
abbrev pub IsClearedAlike : Type 0
IsClearedAlike = (f : Fold) (records : List Sample) → clear_fold (fold record_fold f records) ≡ clear_fold f

-- ======== the machine and a bounded map ========
-- the map of a stream with this aggregate, limit and table
abbrev pub map_of : Aggregate → ℕ → Table → MapState
map_of σ limit table = record { limit = limit; empty = empty_of σ; table = table }

-- a measurement changes the table as a measurement changes the map
abbrev pub IsMeasured : Type 0
IsMeasured = (σ : Aggregate) (kind : Kind) (limit : ℕ) (m : Machine) (s : AttributeSet) (v : Amount) →
    map_of σ limit (step σ kind limit m (Record s v)).table ≡ measured_map s (sample_of σ v) (map_of σ limit m.table)

-- a bind changes the table as a bind changes the map
abbrev pub IsHeld : Type 0
IsHeld = (σ : Aggregate) (kind : Kind) (limit : ℕ) (m : Machine) (h : ℕ) (s : AttributeSet) →
    map_of σ limit (step σ kind limit m (Bind h s)).table ≡ bound_map s (map_of σ limit m.table)

-- a bind adds a live handle, of the entry that the set uses
abbrev pub IsHandleOfPlace : Type 0
IsHandleOfPlace = (σ : Aggregate) (kind : Kind) (limit : ℕ) (m : Machine) (h : ℕ) (s : AttributeSet) →
    (step σ kind limit m (Bind h s)).live ≡ m.live ++ (h, bound_to s (map_of σ limit m.table)) ∷ []

-- a measurement through a live handle changes the table as one of the map does, at the entry of the handle's set
abbrev pub IsUpdatedBound : Type 0
IsUpdatedBound = (σ : Aggregate) (kind : Kind) (limit : ℕ) (m : Machine) (h : ℕ) (g : AttributeSet) (v : Amount) → held_by h m.live ≡ Some g →
    map_of σ limit (step σ kind limit m (RecordBound h v)).table ≡ updated_bound g (sample_of σ v) (map_of σ limit m.table)

-- the end of a live handle changes the table as one of the map does, and the handle is live no more
abbrev pub IsUnbound : Type 0
IsUnbound = (σ : Aggregate) (kind : Kind) (limit : ℕ) (m : Machine) (h : ℕ) (g : AttributeSet) → held_by h m.live ≡ Some g →
    (map_of σ limit (step σ kind limit m (Unbind h)).table ≡ unbound_map g (map_of σ limit m.table)) × ((step σ kind limit m (Unbind h)).live ≡ without h m.live)

-- a measurement through a handle that isn't live does nothing, nor does the end of one
abbrev pub IsIdle : Type 0
IsIdle = (σ : Aggregate) (kind : Kind) (limit : ℕ) (m : Machine) (h : ℕ) (v : Amount) → held_by h m.live ≡ None →
    (step σ kind limit m (RecordBound h v) ≡ m) × (step σ kind limit m (Unbind h) ≡ m)

-- a collection of a cumulative stream changes nothing and shows the points of the map's read-only collection
abbrev pub IsReadonly : Type 0
IsReadonly = (σ : Aggregate) (limit : ℕ) (m : Machine) → (step σ Cumulative limit m Collect ≡ m) × (answer Cumulative m Collect ≡ readonly_points (map_of σ limit m.table) ∷ [])

-- a collection of a delta stream shows the points of the map's resetting collection
abbrev pub IsResetting : Type 0
IsResetting = (σ : Aggregate) (limit : ℕ) (m : Machine) → answer Delta m Collect ≡ resetting_points (map_of σ limit m.table) ∷ []

-- a collection of a drained stream shows the points of the map's draining collection
abbrev pub IsDraining : Type 0
IsDraining = (σ : Aggregate) (limit : ℕ) (m : Machine) → answer Drained m Collect ≡ draining_points (map_of σ limit m.table) ∷ []

-- a collection of a delta stream leaves the table as the map's resetting collection does
abbrev pub IsEvicted : Type 0
IsEvicted = (σ : Aggregate) (limit : ℕ) (m : Machine) → map_of σ limit (step σ Delta limit m Collect).table ≡ evicted_map (map_of σ limit m.table)

-- a collection of a drained stream leaves the table as the map's draining collection does, if no handle of the empty
-- set's entry is live
abbrev pub IsDrained : Type 0
IsDrained = (σ : Aggregate) (limit : ℕ) (m : Machine) → m.table.none.handles ≡ 0 → map_of σ limit (step σ Drained limit m Collect).table ≡ drained_map (map_of σ limit m.table)

-- ======== what a map knows ========
-- the map knows the list and its set
abbrev pub AreKnown : List KeyValue → KnownMap → Type 0
AreKnown l k = IsTrue (knows l k) × IsTrue (knows (canon l) k)

-- giving a set a place adds one counted entry if the set is admitted, and otherwise none
abbrev pub IsCountedOnceAdmitted : Type 0
IsCountedOnceAdmitted = (s : AttributeSet) (m : MapState) → number_counted (with_place s m).table.entries ≡ number_counted m.table.entries + cond (is_admitted s m) 1 0

-- after a measurement that admits the set of its list, the map knows the list and the set
abbrev pub IsKnownOnceMeasured : Type 0
IsKnownOnceMeasured = (l : List KeyValue) (v : Sample) (k : KnownMap) → IsTrue (is_admitted (canon l) k.map_state) → AreKnown l (measured_list l v k)

-- and so it does after a bind
abbrev pub IsKnownOnceBound : Type 0
IsKnownOnceBound = (l : List KeyValue) (k : KnownMap) → IsTrue (is_admitted (canon l) k.map_state) → AreKnown l (bound_list l k)

-- what a map knows, it still knows after a measurement or a bind
abbrev pub IsStillKnown : Type 0
IsStillKnown = (p l : List KeyValue) (v : Sample) (k : KnownMap) → IsTrue (knows p k) → IsTrue (knows p (measured_list l v k)) × IsTrue (knows p (bound_list l k))

-- and, if the sets of its entries are canonical, also after a resetting collection that keeps the entry of its set
abbrev pub IsKnownWhilePlaced : Type 0
IsKnownWhilePlaced = (p : List KeyValue) (k : KnownMap) → AreCanonical k.map_state.table.entries → IsTrue (knows p k)
    → IsTrue (has (canon p) (evicted_known k).map_state.table.entries) → IsTrue (knows p (evicted_known k))

-- after a resetting collection a map knows no list that it didn't know before
abbrev pub IsKnownBefore : Type 0
IsKnownBefore = (p : List KeyValue) (k : KnownMap) → IsTrue (knows p (evicted_known k)) → IsTrue (knows p k)

-- after a draining collection a map knows the empty list alone
abbrev pub IsEmptyKnown : Type 0
IsEmptyKnown = (p : List KeyValue) (k : KnownMap) → knows p (drained_known k) ≡ set_eq p none_set

-- a map without given lists knows the empty list and the sets of its entries, and nothing else
abbrev pub IsKnownBySet : Type 0
IsKnownBySet = (p : List KeyValue) (m : MapState) → knows p (without_lists m) ≡ (set_eq p none_set || has p m.table.entries)

-- a map whose given lists satisfy `AreListed` has at most twice as many keys as entries
abbrev pub AreKeysFew : Type 0
AreKeysFew = (k : KnownMap) → AreListed k → keys k ≤ 2 * length k.map_state.table.entries

-- a map without given lists satisfies `AreListed`
abbrev pub IsListedAtFirst : Type 0
IsListedAtFirst = (m : MapState) → AreListed (without_lists m)

-- each call preserves it
abbrev pub IsListedOnceMeasured : Type 0
IsListedOnceMeasured = (l : List KeyValue) (v : Sample) (k : KnownMap) → AreListed k → AreListed (measured_list l v k)

abbrev pub IsListedOnceBound : Type 0
IsListedOnceBound = (l : List KeyValue) (k : KnownMap) → AreListed k → AreListed (bound_list l k)

abbrev pub IsListedOnceUpdated : Type 0
IsListedOnceUpdated = (g : AttributeSet) (v : Sample) (k : KnownMap) → AreListed k → AreListed (record k { map_state = updated_bound g v k.map_state })

abbrev pub IsListedOnceUnbound : Type 0
IsListedOnceUnbound = (g : AttributeSet) (k : KnownMap) → AreListed k → AreListed (record k { map_state = unbound_map g k.map_state })

abbrev pub IsListedOnceEvicted : Type 0
IsListedOnceEvicted = (k : KnownMap) → AreListed k → AreListed (evicted_known k)

abbrev pub IsListedOnceDrained : Type 0
IsListedOnceDrained = (k : KnownMap) → AreListed k → AreListed (drained_known k)
