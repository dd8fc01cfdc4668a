-- Worked rows on what a program that names streams by number must do: streams by themselves, and in a list.
use Rattle.std.specs.Prelude.{◌≡◌, ℕ, false, true, cond, ◌==◌, List, [], ◌∷◌, ◌++◌, map, Option, Some, None, is_some}
use Rattle.std.proofs.Common.{refl, ap, true≢false}
use Rattle.otel_common.specs.Canonical.{canon}
use Rattle.otel_common.specs.declared.attributes.KeyValue.{KeyValue}
use Rattle.otel_model_stream.specs.Events.{Event, held_by}
use Rattle.otel_model_stream.specs.Folds.{Total, Last}
use Rattle.otel_model.specs.Calls.{Observed, Record, Bind, RecordBound, Unbind, Collect}
use Rattle.otel_model.specs.Demands.{Identity}
use Rattle.otel_model.specs.Laws.{AreApart, AreNumbered, names}
use Rattle.otel_model.specs.Lawful.{EachOf}
use Rattle.otel_model.specs.Machine.{changed_at, stream_after}
use Rattle.otel_model.specs.Sent.{observed_events}
use Rattle.otel_model.specs.Showing.{stream_with, stream_recorded, stream_bound, fed_by, RecordsByNumber, BindsByNumber, UnheldRests, IsHeldOnlyBy, HandlesByNumber, stream_collected, CollectsAfterObservations, ObservationsByNumber}
use Rattle.otel_model.specs.State.{Stream}
use Rattle.otel_model_rows.specs.Rows.{u64, x1, y1, cumulative, delta, observe}
use Rattle.otel_model_rows.specs.RunRows.{demand_a, demand_b, demand_c, entry, machine_of, stream_a, stream_b, stream_c, total_a}

-- ======== one stream ========
-- 5 at y, which has no place, and 6 through the handle
pub after_events : stream_with delta (Event.Bind 7 y1 ∷ Event.RecordBound 0 (u64 6).amount ∷ Event.RecordBound 9 (u64 1).amount ∷ []) stream_b
    ≡ record stream_b { machine = machine_of (Total 0) false (entry y1 6 1 ∷ []) ((7, y1) ∷ []) }
after_events = refl

pub after_handle : stream_with delta (Event.RecordBound 0 (u64 6).amount ∷ Event.Unbind 0 ∷ []) stream_a
    ≡ record stream_a { machine = machine_of (Total 0) false (entry x1 10 0 ∷ []) []; recorded = 13 }
after_handle = refl

pub after_record : stream_recorded delta (u64 5) x1 stream_a ≡ record stream_a { machine = machine_of (Total 0) false (entry x1 9 1 ∷ []) ((0, x1) ∷ []); recorded = 12 }
unfolding canon
after_record = refl

pub after_bind : stream_bound delta 3 x1 stream_a ≡ record stream_a { machine = machine_of (Total 0) false (entry x1 4 2 ∷ []) ((0, x1) ∷ (3, x1) ∷ []) }
unfolding canon
after_bind = refl

-- of two attributes the stream keeps one
abbrev keeping : Stream
keeping = record stream_a { demand = record demand_a { allow = Some ((120 ∷ []) ∷ []) } }

pub after_allowed : (stream_recorded delta (u64 5) (y1 ++ x1) keeping ≡ record keeping { machine = machine_of (Total 0) false (entry x1 9 1 ∷ []) ((0, x1) ∷ []); recorded = 12 })
    × (stream_bound delta 3 (y1 ++ x1) keeping ≡ record keeping { machine = machine_of (Total 0) false (entry x1 4 2 ∷ []) ((0, x1) ∷ (3, x1) ∷ []) })
unfolding canon
after_allowed = (refl, refl)

-- an instrument that is not there feeds nothing
pub fed_by_each : map (fed_by ((demand_a.identity ∷ demand_b.identity ∷ []) ∷ [] ∷ (demand_c.identity ∷ []) ∷ [])) (0 ∷ 1 ∷ 2 ∷ 3 ∷ []) ≡ (demand_a.identity ∷ demand_b.identity ∷ []) ∷ [] ∷ (demand_c.identity ∷ []) ∷ [] ∷ []
fed_by_each = refl

pub fed_nowhere : fed_by (([] ∷ [])) 1 ≡ []
fed_nowhere = refl

-- a stream of deltas, one of observed sums, and one of totals
pub after_collection : (stream_collected delta 300 stream_a ≡ record stream_a { machine = machine_of (Total 0) false (record (entry x1 0 1) { updated = false } ∷ []) ((0, x1) ∷ []); start = 300; exported = 7 })
    × (stream_collected delta 300 (record stream_c { machine = machine_of (Last 4) true [] [] }) ≡ record stream_c { start = 300; reported = ([], Last 4) ∷ [] })
    × (stream_collected cumulative 300 total_a ≡ total_a)
after_collection = (refl, refl, refl)

-- ======== streams by number ========
-- the second instrument feeds the third stream and the first
abbrev feeds : List (List Identity)
feeds = [] ∷ (demand_c.identity ∷ demand_a.identity ∷ []) ∷ []

pub records_by_number : RecordsByNumber → (ss : List Stream) → AreNumbered (names ss) (2 ∷ 0 ∷ []) (demand_c.identity ∷ demand_a.identity ∷ []) → AreApart (names ss)
    → changed_at 0 (stream_recorded delta (u64 5) y1) (changed_at 2 (stream_recorded delta (u64 5) y1) ss) ≡ map (stream_after delta feeds 4 (Record 1 (u64 5) y1)) ss
records_by_number h ss numbered apart = h delta feeds 4 1 (u64 5) y1 ss (2 ∷ 0 ∷ []) numbered (refl, (refl, tt)) apart

pub binds_by_number : BindsByNumber → (ss : List Stream) → AreNumbered (names ss) (2 ∷ 0 ∷ []) (demand_c.identity ∷ demand_a.identity ∷ []) → AreApart (names ss)
    → changed_at 0 (stream_bound delta 4 y1) (changed_at 2 (stream_bound delta 4 y1) ss) ≡ map (stream_after delta feeds 4 (Bind 1 y1)) ss
binds_by_number h ss numbered apart = h delta feeds 4 1 y1 ss (2 ∷ 0 ∷ []) numbered (refl, (refl, tt)) apart

-- ======== handles ========
pub unheld_rests : UnheldRests → (s : Stream) → held_by 6 s.machine.live ≡ None
    → (stream_after delta feeds 4 (RecordBound 6 (u64 5)) s ≡ s) × (stream_after delta feeds 4 (Unbind 6) s ≡ s)
unheld_rests h s e = h delta feeds 4 6 (u64 5) s e

-- a stream that has the handle and is not one of these
pub held_elsewhere : IsHeldOnlyBy 0 (demand_b.identity ∷ demand_c.identity ∷ []) stream_a → ⊥
held_elsewhere h = true≢false (ap (λ (o : Option (List KeyValue)). is_some o) (h refl))

pub held_by_these : IsHeldOnlyBy 0 (demand_b.identity ∷ demand_a.identity ∷ []) stream_a × IsHeldOnlyBy 1 (demand_b.identity ∷ []) stream_a × IsHeldOnlyBy 0 [] stream_b
held_by_these = (λ e. absurd (true≢false e), λ e. refl, λ e. refl)

pub handles_by_number : HandlesByNumber → (ss : List Stream) → AreNumbered (names ss) (2 ∷ 0 ∷ []) (demand_c.identity ∷ demand_a.identity ∷ []) → AreApart (names ss) → EachOf (IsHeldOnlyBy 6 (demand_c.identity ∷ demand_a.identity ∷ [])) ss
    → (changed_at 0 (stream_with delta (Event.RecordBound 6 (u64 5).amount ∷ [])) (changed_at 2 (stream_with delta (Event.RecordBound 6 (u64 5).amount ∷ [])) ss) ≡ map (stream_after delta feeds 4 (RecordBound 6 (u64 5))) ss)
    × (changed_at 0 (stream_with delta (Event.Unbind 6 ∷ [])) (changed_at 2 (stream_with delta (Event.Unbind 6 ∷ [])) ss) ≡ map (stream_after delta feeds 4 (Unbind 6)) ss)
handles_by_number h ss numbered apart held = h delta feeds 4 6 (u64 5) ss (2 ∷ 0 ∷ []) (demand_c.identity ∷ demand_a.identity ∷ []) numbered (refl, (refl, tt)) apart held

-- ======== collections ========
abbrev observations : List Observed
observations = observe 1 5 x1 ∷ observe 0 6 y1 ∷ observe 1 7 [] ∷ []

pub collects_after : CollectsAfterObservations → (s : Stream) → stream_after delta feeds 4 (Collect 1 300 observations) s ≡ stream_collected delta 300 (stream_with delta (observed_events feeds s.demand observations) s)
collects_after h s = h delta feeds 4 1 300 observations s

-- the third stream and the first for instrument 1, none for others
abbrev numbers_of : ℕ → List ℕ
numbers_of n = cond (n == 1) (2 ∷ 0 ∷ []) []

pub observations_by_number : ObservationsByNumber → (ss : List Stream) → ((n : ℕ) → AreNumbered (names ss) (numbers_of n) (fed_by feeds n)) → ((n : ℕ) → AreApart (fed_by feeds n)) → AreApart (names ss)
    → changed_at 0 (stream_recorded delta (u64 7) []) (changed_at 2 (stream_recorded delta (u64 7) []) (changed_at 0 (stream_recorded delta (u64 5) x1) (changed_at 2 (stream_recorded delta (u64 5) x1) ss)))
    ≡ map (λ (s : Stream). stream_with delta (observed_events feeds s.demand observations) s) ss
observations_by_number h ss numbered apart names_apart = h delta feeds numbers_of observations ss numbered apart names_apart
