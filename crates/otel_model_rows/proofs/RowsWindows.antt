-- Worked rows on the windows of one stream: which sets have a place, where measurements go, and what the next one starts
-- with.
use Rattle.std.specs.Prelude.{◌≡◌, Bool, true, false, List, [], ◌∷◌, ◌++◌, map, Some, None}
use Rattle.std.proofs.Common.{refl}
use Rattle.otel_model_stream.specs.Sets.{AttributeSet, over_set}
use Rattle.otel_model_stream.specs.Folds.{Amount, Sum, LastValue, Last}
use Rattle.otel_model_stream.specs.Events.{Event, Bind, RecordBound, Unbind, Collect, Delta, Cumulative, Drained}
use Rattle.otel_model_stream.specs.Windows.{Start, Window, is_in, mentions, newcomers, sets_that_count, room, admitted_sets, is_left_over, overflows, places, uncounted_now, goal, live_handles, by_handle, records, places_of, uncounted_of, goal_of, live_of, records_of, is_hit, is_held, values_of, point, shown_places, points_of, first, next, cut, opening, more, window, collections}
use Rattle.otel_model_rows.specs.StreamRows.{x1, y1, z1, k_v, amount, add, sum, AreShown}

-- ======== mentions ========
abbrev some_events : List Event
some_events = add x1 1 ∷ Bind 0 y1 ∷ RecordBound 0 (amount 2) ∷ Unbind 0 ∷ add [] 4 ∷ Collect ∷ add x1 8 ∷ []

pub mentioned : mentions some_events ≡ x1 ∷ y1 ∷ [] ∷ x1 ∷ []
mentioned = refl

pub sets_among : map (λ s. is_in s (x1 ∷ y1 ∷ [])) (x1 ∷ y1 ∷ z1 ∷ [] ∷ []) ≡ true ∷ true ∷ false ∷ false ∷ []
sets_among = refl

-- each once, in order, without the empty set and those that were seen
pub new_sets : newcomers (z1 ∷ []) (x1 ∷ z1 ∷ [] ∷ over_set ∷ x1 ∷ y1 ∷ y1 ∷ []) ≡ x1 ∷ over_set ∷ y1 ∷ []
new_sets = refl

-- ======== places ========
abbrev start : Bool → Start
start uncounted = record { sets = x1 ∷ over_set ∷ y1 ∷ []; uncounted = uncounted; held = (3, y1) ∷ [] }

pub sets_counted : (sets_that_count true (x1 ∷ over_set ∷ y1 ∷ []) ≡ x1 ∷ y1 ∷ []) × (sets_that_count false (x1 ∷ over_set ∷ y1 ∷ []) ≡ x1 ∷ over_set ∷ y1 ∷ [])
sets_counted = (refl, refl)

-- none below 0
pub rooms : (map (λ limit. room limit (start true)) (1 ∷ 2 ∷ 3 ∷ 5 ∷ []) ≡ 0 ∷ 0 ∷ 1 ∷ 3 ∷ []) × (map (λ limit. room limit (start false)) (2 ∷ 3 ∷ 5 ∷ []) ≡ 0 ∷ 0 ∷ 2 ∷ [])
rooms = (refl, refl)

abbrev later : List AttributeSet
later = z1 ∷ x1 ∷ z1 ∷ k_v ∷ []

pub admitted : map (λ limit. admitted_sets limit (start true) later) (2 ∷ 3 ∷ 4 ∷ 5 ∷ []) ≡ [] ∷ (z1 ∷ []) ∷ (z1 ∷ k_v ∷ []) ∷ (z1 ∷ k_v ∷ []) ∷ []
admitted = refl

pub left_over : map (λ limit. is_left_over limit (start true) later) (2 ∷ 3 ∷ 4 ∷ []) ≡ true ∷ true ∷ false ∷ []
left_over = refl

-- a set that is mentioned again is not left over
pub not_left_over : is_left_over 1 first (x1 ∷ x1 ∷ [] ∷ x1 ∷ []) ≡ false
not_left_over = refl

-- an overflow set that has a place, at the start or since, gets no other
pub overflowing : (overflows 2 (start true) later ≡ false)
    × (overflows 1 first (x1 ∷ y1 ∷ []) ≡ true)
    × (overflows 2 first (x1 ∷ y1 ∷ []) ≡ false)
    × (overflows 1 first (over_set ∷ y1 ∷ []) ≡ false)
    × (overflows 1 first (x1 ∷ over_set ∷ []) ≡ true)
overflowing = (refl, refl, refl, refl, refl)

pub places_now : (places 3 (start true) later ≡ x1 ∷ over_set ∷ y1 ∷ z1 ∷ []) × (places 1 first (x1 ∷ y1 ∷ z1 ∷ []) ≡ x1 ∷ over_set ∷ []) × (places 2 first (x1 ∷ y1 ∷ []) ≡ x1 ∷ y1 ∷ [])
places_now = (refl, refl, refl)

pub uncounted : (uncounted_now 2 (start true) later ≡ true) × (uncounted_now 2 (start false) later ≡ false) × (uncounted_now 1 first (x1 ∷ y1 ∷ []) ≡ true) × (uncounted_now 2 first (x1 ∷ y1 ∷ []) ≡ false)
uncounted = (refl, refl, refl, refl)

pub goals : map (goal 3 (start true) later) ([] ∷ x1 ∷ z1 ∷ k_v ∷ over_set ∷ []) ≡ [] ∷ x1 ∷ z1 ∷ over_set ∷ over_set ∷ []
goals = refl

-- ======== measurements ========
-- all go to z, but for those through handles, which go where their handle went
abbrev to_z : AttributeSet → AttributeSet
to_z s = z1

abbrev handle_events : List Event
handle_events = Bind 4 x1 ∷ RecordBound 4 (amount 1) ∷ RecordBound 3 (amount 2) ∷ add x1 4 ∷ Collect ∷ Unbind 3 ∷ RecordBound 3 (amount 8) ∷ Bind 5 x1 ∷ RecordBound 5 (amount 16) ∷ Unbind 4 ∷ RecordBound 4 (amount 32) ∷ []

pub handles : live_handles to_z ((3, y1) ∷ []) handle_events ≡ (5, z1) ∷ []
handles = refl

pub handles_before_the_end : live_handles to_z ((3, y1) ∷ []) (Bind 4 x1 ∷ add x1 4 ∷ RecordBound 4 (amount 1) ∷ Collect ∷ Bind 5 x1 ∷ []) ≡ (3, y1) ∷ (4, z1) ∷ (5, z1) ∷ []
handles_before_the_end = refl

pub measured_by_handle : (by_handle None (amount 1) ≡ []) × (by_handle (Some x1) (amount 1) ≡ (x1, amount 1) ∷ [])
measured_by_handle = (refl, refl)

pub measurements : records to_z ((3, y1) ∷ []) handle_events ≡ (z1, amount 1) ∷ (y1, amount 2) ∷ (z1, amount 4) ∷ (z1, amount 16) ∷ []
measurements = refl

-- of two handles with one number the first counts
pub first_handle : records to_z ((3, y1) ∷ []) (Bind 3 x1 ∷ RecordBound 3 (amount 1) ∷ []) ≡ (y1, amount 1) ∷ []
first_handle = refl

abbrev measured : List (AttributeSet × Amount)
measured = (x1, amount 1) ∷ (y1, amount 2) ∷ (x1, amount 4) ∷ []

pub hit : map (is_hit measured) (x1 ∷ y1 ∷ z1 ∷ []) ≡ true ∷ true ∷ false ∷ []
hit = refl

pub held : map (is_held ((3, y1) ∷ (4, x1) ∷ [])) (x1 ∷ y1 ∷ z1 ∷ []) ≡ true ∷ true ∷ false ∷ []
held = refl

pub values_of_sets : map (values_of measured) (x1 ∷ y1 ∷ z1 ∷ []) ≡ (amount 1 ∷ amount 4 ∷ []) ∷ (amount 2 ∷ []) ∷ [] ∷ []
values_of_sets = refl

pub points_of_sets : (map (point Sum measured) (x1 ∷ z1 ∷ []) ≡ sum x1 5 ∷ sum z1 0 ∷ []) × (point LastValue measured x1 ≡ (x1, Last 4))
points_of_sets = (refl, refl)

-- ======== a window ========
-- y is held, x is measured, and of z and k the first has the place that is left
abbrev some_window : Window
some_window = record { start = start true; events = add x1 1 ∷ add z1 2 ∷ add k_v 4 ∷ Bind 4 k_v ∷ RecordBound 3 (amount 8) ∷ Unbind 3 ∷ add [] 16 ∷ [] }

pub of_window : (places_of 3 some_window ≡ x1 ∷ over_set ∷ y1 ∷ z1 ∷ [])
    × (uncounted_of 3 some_window ≡ true)
    × (map (goal_of 3 some_window) (k_v ∷ z1 ∷ []) ≡ over_set ∷ z1 ∷ [])
    × (live_of 3 some_window ≡ (4, over_set) ∷ [])
    × (records_of 3 some_window ≡ (x1, amount 1) ∷ (z1, amount 2) ∷ (over_set, amount 4) ∷ (y1, amount 8) ∷ ([], amount 16) ∷ [])
of_window = (refl, refl, refl, refl, refl)

abbrev quiet_window : Window
quiet_window = record { start = start true; events = add z1 2 ∷ [] }

-- in a delta stream those that were measured, otherwise all
pub shown : (shown_places Delta 3 quiet_window ≡ z1 ∷ []) × (shown_places Cumulative 3 quiet_window ≡ x1 ∷ over_set ∷ y1 ∷ z1 ∷ []) × (shown_places Drained 3 quiet_window ≡ x1 ∷ over_set ∷ y1 ∷ z1 ∷ [])
shown = (refl, refl, refl)

pub points : (points_of Sum Delta 3 quiet_window ≡ sum z1 2 ∷ [])
    × (points_of Sum Cumulative 3 quiet_window ≡ sum x1 0 ∷ sum over_set 0 ∷ sum y1 0 ∷ sum z1 2 ∷ [])
    × (points_of Sum Delta 3 some_window ≡ sum [] 16 ∷ sum x1 1 ∷ sum over_set 4 ∷ sum y1 8 ∷ sum z1 2 ∷ [])
points = (refl, refl, refl)

-- those measured, those held by a live handle, and the overflow set
pub next_starts : (next 3 quiet_window ≡ record { sets = over_set ∷ y1 ∷ z1 ∷ []; uncounted = true; held = (3, y1) ∷ [] })
    × (next 3 some_window ≡ record { sets = x1 ∷ over_set ∷ y1 ∷ z1 ∷ []; uncounted = true; held = (4, over_set) ∷ [] })
    × (next 5 (record { start = first; events = add x1 1 ∷ Bind 0 y1 ∷ Bind 1 z1 ∷ Unbind 1 ∷ [] }) ≡ record { sets = x1 ∷ y1 ∷ []; uncounted = false; held = (0, y1) ∷ [] })
next_starts = (refl, refl, refl)

pub firsts : (first ≡ record { sets = []; uncounted = false; held = [] }) × (opening ≡ record { start = record { sets = []; uncounted = false; held = [] }; events = [] })
firsts = (refl, refl)

pub cuts : (cut Delta 3 quiet_window ≡ record { start = next 3 quiet_window; events = [] }) × (cut Cumulative 3 quiet_window ≡ quiet_window) × (cut Drained 3 quiet_window ≡ opening)
cuts = (refl, refl, refl)

pub one_more : more quiet_window Collect ≡ record { start = start true; events = add z1 2 ∷ Collect ∷ [] }
one_more = refl

-- the events since the last collection
abbrev each_event : List Event
each_event = add x1 1 ∷ Bind 0 y1 ∷ RecordBound 0 (amount 2) ∷ Unbind 0 ∷ []

pub last_windows : (window Delta 3 opening (add z1 1 ∷ Collect ∷ each_event) ≡ record { start = record { sets = z1 ∷ []; uncounted = false; held = [] }; events = each_event })
    × (window Cumulative 3 opening (add z1 1 ∷ Collect ∷ each_event) ≡ record { start = first; events = add z1 1 ∷ each_event })
    × (window Drained 3 opening (add z1 1 ∷ Collect ∷ each_event) ≡ record { start = first; events = each_event })
    × (window Delta 3 quiet_window [] ≡ quiet_window)
last_windows = (refl, refl, refl, refl)

pub points_of_collections : (collections Sum Delta 3 opening (each_event ++ Collect ∷ Collect ∷ add [] 8 ∷ Collect ∷ []) ≡ (sum x1 1 ∷ sum y1 2 ∷ []) ∷ [] ∷ (sum [] 8 ∷ []) ∷ []) × (collections Sum Delta 3 opening each_event ≡ [])
points_of_collections = (refl, refl)

-- ======== on the windows and on the machine ========
-- beside the uncounted overflow set and one that stays there is room for one more
pub room_beside_overflow : AreShown Sum Delta 2 (add x1 1 ∷ add y1 2 ∷ add z1 4 ∷ Collect ∷ add x1 8 ∷ Collect ∷ add y1 16 ∷ add z1 32 ∷ Collect ∷ [])
    ((sum x1 1 ∷ sum y1 2 ∷ sum over_set 4 ∷ []) ∷ (sum x1 8 ∷ []) ∷ (sum over_set 32 ∷ sum y1 16 ∷ []) ∷ [])
room_beside_overflow = (refl, refl)

-- a set that is measured again takes no other place
pub same_place : AreShown Sum Cumulative 1 (add x1 1 ∷ add x1 2 ∷ add [] 4 ∷ Collect ∷ []) ((sum [] 4 ∷ sum x1 3 ∷ []) ∷ [])
same_place = (refl, refl)

-- handles of two sets, which end one after the other
pub two_sets_held : AreShown Sum Delta 2 (Bind 0 x1 ∷ Bind 1 y1 ∷ RecordBound 1 (amount 1) ∷ RecordBound 0 (amount 2) ∷ Collect ∷ Unbind 0 ∷ RecordBound 0 (amount 4) ∷ RecordBound 1 (amount 8) ∷ RecordBound 7 (amount 16) ∷ Unbind 7 ∷ Collect ∷ add z1 32 ∷ Collect ∷ [])
    ((sum x1 2 ∷ sum y1 1 ∷ []) ∷ (sum y1 8 ∷ []) ∷ (sum z1 32 ∷ []) ∷ [])
two_sets_held = (refl, refl)

-- a drained stream shows what was only bound, and forgets all
pub drained_handles : AreShown LastValue Drained 2 (Bind 0 x1 ∷ add y1 1 ∷ Collect ∷ RecordBound 0 (amount 2) ∷ add [] 4 ∷ Collect ∷ Collect ∷ [])
    (((x1, Last 0) ∷ (y1, Last 1) ∷ []) ∷ (([], Last 4) ∷ []) ∷ [] ∷ [])
drained_handles = (refl, refl)
