-- The history of one stream, cut into windows (Metrics SDK, "Cardinality limits" and "MetricReader").
-- A window keeps no entries: the order in which sets are first mentioned decides which of them have a place.
use Rattle.std.specs.Prelude.{ℕ, ◌-◌, List, [], ◌∷◌, ◌++◌, map, length, take, nat_lt, Bool, false, cond, not, ◌||◌, ◌&&◌, Option, Some, None, filter}
use Rattle.std.specs.List.{list_any}
use Rattle.otel_common.specs.Equality.{set_eq}
use Rattle.otel_model_stream.specs.Sets.{AttributeSet, none_set, over_set}
use Rattle.otel_model_stream.specs.Folds.{Aggregate, Amount, fold_of}
use Rattle.otel_model_stream.specs.Events.{Event, Record, Bind, RecordBound, Unbind, Collect, Kind, Delta, Cumulative, Drained, Handles, held_by, without, Point}

-- what a window starts with: the sets that have a place, whether the overflow set is among them without being
-- counted by the limit, and the live handles, each with the set that its measurements go to
pub record Start : Type 0 where
  pub sets : List AttributeSet
  pub uncounted : Bool
  pub held : Handles

-- a start, and the events since then
pub record Window : Type 0 where
  pub start : Start
  pub events : List Event

-- ======== places ========
-- whether the set s is among these
abbrev pub is_in : AttributeSet → List AttributeSet → Bool
is_in s xs = list_any (λ x. set_eq x s) xs

-- the sets named by measurements and binds, in order
abbrev pub mentions : List Event → List AttributeSet
mentions [] = []
mentions (Record s v ∷ es) = s ∷ mentions es
mentions (Bind h s ∷ es) = s ∷ mentions es
mentions (RecordBound h v ∷ es) = mentions es
mentions (Unbind h ∷ es) = mentions es
mentions (Collect ∷ es) = mentions es

-- the distinct sets mentioned, except the empty set and those already seen, in order of first mention
abbrev pub newcomers : List AttributeSet → List AttributeSet → List AttributeSet
newcomers seen [] = []
newcomers seen (s ∷ ms) = cond (set_eq s none_set || is_in s seen) (newcomers seen ms) (s ∷ newcomers (seen ++ s ∷ []) ms)

-- the sets that the limit counts: all of them, except the overflow set if it is uncounted
abbrev pub sets_that_count : Bool → List AttributeSet → List AttributeSet
sets_that_count uncounted sets = filter (λ s. not (uncounted && set_eq s over_set)) sets

-- how many newcomers the limit has room for
abbrev pub room : ℕ → Start → ℕ
room limit start = limit - length (sets_that_count start.uncounted start.sets)

-- the first newcomers, as many as there is room for
abbrev pub admitted_sets : ℕ → Start → List AttributeSet → List AttributeSet
admitted_sets limit start ms = take (room limit start) (newcomers start.sets ms)

-- whether there are more newcomers than room
abbrev pub is_left_over : ℕ → Start → List AttributeSet → Bool
is_left_over limit start ms = nat_lt (room limit start) (length (newcomers start.sets ms))

-- whether the overflow set gets an uncounted place: a newcomer is left over, and the overflow set has no place yet
abbrev pub overflows : ℕ → Start → List AttributeSet → Bool
overflows limit start ms = is_left_over limit start ms && not (is_in over_set (start.sets ++ admitted_sets limit start ms))

-- the sets that have a place once these were mentioned: those at the start, the admitted newcomers, and the
-- overflow set if it gets an uncounted place
abbrev pub places : ℕ → Start → List AttributeSet → List AttributeSet
places limit start ms = (start.sets ++ admitted_sets limit start ms) ++ cond (overflows limit start ms) (over_set ∷ []) []

-- whether the overflow set now has an uncounted place
abbrev pub uncounted_now : ℕ → Start → List AttributeSet → Bool
uncounted_now limit start ms = start.uncounted || overflows limit start ms

-- the goal of a mention of s, which is the set that its measurements go to: s itself if it is empty or has a place,
-- otherwise the overflow set
abbrev pub goal : ℕ → Start → List AttributeSet → AttributeSet → AttributeSet
goal limit start ms s = cond (set_eq s none_set) none_set (cond (is_in s (start.sets ++ admitted_sets limit start ms)) s over_set)

-- ======== measurements ========
-- the live handles after the events, each with the goal of its bind
abbrev pub live_handles : (AttributeSet → AttributeSet) → Handles → List Event → Handles
live_handles g held [] = held
live_handles g held (Record s v ∷ es) = live_handles g held es
live_handles g held (Bind h s ∷ es) = live_handles g (held ++ (h, g s) ∷ []) es
live_handles g held (RecordBound h v ∷ es) = live_handles g held es
live_handles g held (Unbind h ∷ es) = live_handles g (without h held) es
live_handles g held (Collect ∷ es) = live_handles g held es

-- a measurement through a handle, with the set of that handle; nothing if the handle isn't live
abbrev pub by_handle : Option AttributeSet → Amount → List (AttributeSet × Amount)
by_handle None v = []
by_handle (Some x) v = (x, v) ∷ []

-- the measurements, each with its goal and its value. A measurement through a live handle has the goal of its bind
abbrev pub records : (AttributeSet → AttributeSet) → Handles → List Event → List (AttributeSet × Amount)
records g held [] = []
records g held (Record s v ∷ es) = (g s, v) ∷ records g held es
records g held (Bind h s ∷ es) = records g (held ++ (h, g s) ∷ []) es
records g held (RecordBound h v ∷ es) = by_handle (held_by h held) v ++ records g held es
records g held (Unbind h ∷ es) = records g (without h held) es
records g held (Collect ∷ es) = records g held es

-- ======== of a window ========
-- the places of the window
abbrev pub places_of : ℕ → Window → List AttributeSet
places_of limit w = places limit w.start (mentions w.events)

-- whether the overflow set is among them, but uncounted
abbrev pub uncounted_of : ℕ → Window → Bool
uncounted_of limit w = uncounted_now limit w.start (mentions w.events)

-- the goal of a mention in the window
abbrev pub goal_of : ℕ → Window → AttributeSet → AttributeSet
goal_of limit w = goal limit w.start (mentions w.events)

-- the live handles at its end
abbrev pub live_of : ℕ → Window → Handles
live_of limit w = live_handles (goal_of limit w) w.start.held w.events

-- its measurements, with their goals
abbrev pub records_of : ℕ → Window → List (AttributeSet × Amount)
records_of limit w = records (goal_of limit w) w.start.held w.events

-- whether the set is the goal of one of these measurements
abbrev pub is_hit : List (AttributeSet × Amount) → AttributeSet → Bool
is_hit rs x = list_any (λ r. set_eq r.0 x) rs

-- whether the set is that of one of these live handles
abbrev pub is_held : Handles → AttributeSet → Bool
is_held hs x = list_any (λ p. set_eq p.1 x) hs

-- the values of the measurements whose goal is the set
abbrev pub values_of : List (AttributeSet × Amount) → AttributeSet → List Amount
values_of rs x = map (λ r. r.1) (filter (λ r. set_eq r.0 x) rs)

-- the point of a set: the fold of the measurements whose goal it is
abbrev pub point : Aggregate → List (AttributeSet × Amount) → AttributeSet → Point
point σ rs x = (x, fold_of σ (values_of rs x))

-- the places that a collection shows: in a delta stream those that were the goal of a measurement, otherwise all
abbrev pub shown_places : Kind → ℕ → Window → List AttributeSet
shown_places Delta limit w = filter (is_hit (records_of limit w)) (places_of limit w)
shown_places Cumulative limit w = places_of limit w
shown_places Drained limit w = places_of limit w

-- the points: the empty set's if it was the goal of a measurement, then those of the places shown, in order
abbrev pub points_of : Aggregate → Kind → ℕ → Window → List Point
points_of σ kind limit w = map (point σ (records_of limit w)) (filter (is_hit (records_of limit w)) (none_set ∷ []) ++ shown_places kind limit w)

-- ======== windows one after another ========
-- the first window starts with nothing
abbrev pub first : Start
first = record { sets = []; uncounted = false; held = [] }

-- what the next window of a delta stream starts with: the live handles, and of the places those that were the goal of a
-- measurement, that a live handle holds, or that are the overflow set
abbrev pub next : ℕ → Window → Start
next limit w = record {
  sets = filter (λ x. is_hit (records_of limit w) x || (is_held (live_of limit w) x || set_eq x over_set)) (places_of limit w);
  uncounted = uncounted_of limit w;
  held = live_of limit w;
}

-- the window after a collection: the next one in a delta stream, the same one in a cumulative stream, and one that
-- starts with nothing in a drained stream
abbrev pub cut : Kind → ℕ → Window → Window
cut Delta limit w = record { start = next limit w; events = [] }
cut Cumulative limit w = w
cut Drained limit w = record { start = first; events = [] }

-- the first window, before any event
abbrev pub opening : Window
opening = record { start = first; events = [] }

-- the window with one more event
abbrev pub more : Window → Event → Window
more w e = record { start = w.start; events = w.events ++ e ∷ [] }

-- the window in which a list of events ends that begins in the window w
abbrev pub window : Kind → ℕ → Window → List Event → Window
window kind limit w [] = w
window kind limit w (Record s v ∷ es) = window kind limit (more w (Record s v)) es
window kind limit w (Bind h s ∷ es) = window kind limit (more w (Bind h s)) es
window kind limit w (RecordBound h v ∷ es) = window kind limit (more w (RecordBound h v)) es
window kind limit w (Unbind h ∷ es) = window kind limit (more w (Unbind h)) es
window kind limit w (Collect ∷ es) = window kind limit (cut kind limit w) es

-- the points of each collection in such a list of events
abbrev pub collections : Aggregate → Kind → ℕ → Window → List Event → List (List Point)
collections σ kind limit w [] = []
collections σ kind limit w (Record s v ∷ es) = collections σ kind limit (more w (Record s v)) es
collections σ kind limit w (Bind h s ∷ es) = collections σ kind limit (more w (Bind h s)) es
collections σ kind limit w (RecordBound h v ∷ es) = collections σ kind limit (more w (RecordBound h v)) es
collections σ kind limit w (Unbind h ∷ es) = collections σ kind limit (more w (Unbind h)) es
collections σ kind limit w (Collect ∷ es) = points_of σ kind limit w ∷ collections σ kind limit (cut kind limit w) es
