-- Worked rows on places, overflow, eviction and handles, on the machine and read off the calls.
use Rattle.std.specs.Prelude.{List, [], ◌∷◌, Some}
use Rattle.std.proofs.Common.{refl}
use Rattle.otel_common.specs.Canonical.{canon}
use Rattle.otel_common.specs.declared.attributes.KeyValue.{KeyValue}
use Rattle.otel_model_stream.specs.Sets.{over_set}
use Rattle.otel_model.specs.Calls.{Counter, ObservableCounter, ObservableGauge, Call, Bind, RecordBound, Collect}
use Rattle.otel_model.specs.Demands.{Views, nothing_said}
use Rattle.otel_model_rows.specs.Rows.{Seen, a, about, u64, x1, y1, z1, pair, if_named, limited, limit_1, cumulative, delta, AloneShows, Shows, one, delta_sum, cumulative_sum, last_values, on, add, observe}

abbrev limit_2 : Views
limit_2 = if_named a (limited 2) ∷ []

abbrev DeltaCounterShows : Views → List Call → List Seen → Type 0
DeltaCounterShows views calls collections = Shows views (delta ∷ []) 0 delta (on (about Counter a) calls) collections

pub row_3 : DeltaCounterShows limit_2 (add 1 x1 ∷ add 2 y1 ∷ add 4 z1 ∷ add 8 x1 ∷ Collect 0 200 [] ∷ [])
    (one a (delta_sum ((x1, 9) ∷ (y1, 2) ∷ (over_set, 4) ∷ [])) ∷ [])
unfolding canon
row_3 = (refl, refl)

pub row_4 : DeltaCounterShows limit_1 (add 1 x1 ∷ Collect 0 200 [] ∷ add 2 y1 ∷ Collect 0 300 [] ∷ add 4 y1 ∷ Collect 0 400 [] ∷ [])
    (one a (delta_sum ((x1, 1) ∷ [])) ∷ one a (delta_sum ((over_set, 2) ∷ [])) ∷ one a (delta_sum ((y1, 4) ∷ [])) ∷ [])
unfolding canon
row_4 = (refl, refl)

pub row_7 : DeltaCounterShows limit_1 (add 1 over_set ∷ add 2 x1 ∷ Collect 0 200 [] ∷ Collect 0 300 [] ∷ add 5 x1 ∷ Collect 0 400 [] ∷ [])
    (one a (delta_sum ((over_set, 3) ∷ [])) ∷ [] ∷ one a (delta_sum ((over_set, 5) ∷ [])) ∷ [])
unfolding canon
row_7 = (refl, refl)

pub row_8 : DeltaCounterShows limit_1 (add 1 x1 ∷ Bind 0 y1 ∷ Collect 0 200 [] ∷ Collect 0 300 [] ∷ add 2 y1 ∷ RecordBound 0 (u64 4) ∷ Collect 0 400 [] ∷ [])
    (one a (delta_sum ((x1, 1) ∷ [])) ∷ [] ∷ one a (delta_sum ((over_set, 4) ∷ (y1, 2) ∷ [])) ∷ [])
unfolding canon
row_8 = (refl, refl)

pub row_22 : DeltaCounterShows limit_1 (add 1 [] ∷ add 2 x1 ∷ add 4 y1 ∷ Collect 0 200 [] ∷ [])
    (one a (delta_sum (([], 1) ∷ (x1, 2) ∷ (over_set, 4) ∷ [])) ∷ [])
unfolding canon
row_22 = (refl, refl)

pub row_34 : DeltaCounterShows limit_2 (add 1 over_set ∷ add 2 x1 ∷ add 4 y1 ∷ Collect 0 200 [] ∷ Collect 0 300 [] ∷ add 8 y1 ∷ add 16 z1 ∷ Collect 0 400 [] ∷ [])
    (one a (delta_sum ((over_set, 5) ∷ (x1, 2) ∷ [])) ∷ [] ∷ one a (delta_sum ((over_set, 16) ∷ (y1, 8) ∷ [])) ∷ [])
unfolding canon
row_34 = (refl, refl)

pub row_35 : DeltaCounterShows limit_1 (add 1 x1 ∷ add 2 y1 ∷ add 4 over_set ∷ Collect 0 200 [] ∷ Collect 0 300 [] ∷ add 8 over_set ∷ add 16 z1 ∷ Collect 0 400 [] ∷ [])
    (one a (delta_sum ((x1, 1) ∷ (over_set, 6) ∷ [])) ∷ [] ∷ one a (delta_sum ((over_set, 8) ∷ (z1, 16) ∷ [])) ∷ [])
unfolding canon
row_35 = (refl, refl)

-- the attributes of a record in any order, a key twice
abbrev a2 : KeyValue
a2 = pair 97 2

abbrev b1 : KeyValue
b1 = pair 98 1

pub row_10 : Shows [] (cumulative ∷ []) 0 cumulative
    (on (about Counter a) (add 1 (b1 ∷ a2 ∷ []) ∷ add 2 (a2 ∷ b1 ∷ []) ∷ add 4 (a2 ∷ pair 97 9 ∷ b1 ∷ []) ∷ Collect 0 200 [] ∷ []))
    (one a (cumulative_sum ((a2 ∷ b1 ∷ [], 7) ∷ [])) ∷ [])
unfolding canon
row_10 = (refl, refl)

-- an empty allow-list drops all attributes
pub row_24 : Shows (if_named a (record nothing_said { allow = Some [] }) ∷ []) (cumulative ∷ []) 0 cumulative
    (on (about Counter a) (add 1 x1 ∷ add 2 y1 ∷ Collect 0 200 [] ∷ []))
    (one a (cumulative_sum (([], 3) ∷ [])) ∷ [])
unfolding canon
row_24 = (refl, refl)

-- a drained delta sum at its limit
pub row_21 : Shows limit_1 (delta ∷ []) 0 delta
    (on (about ObservableCounter a) (
    Collect 0 200 (observe 0 10 x1 ∷ observe 0 20 y1 ∷ observe 0 30 z1 ∷ [])
    ∷ Collect 0 300 (observe 0 10 x1 ∷ observe 0 20 y1 ∷ observe 0 30 z1 ∷ []) ∷ []))
    (one a (delta_sum ((x1, 10) ∷ (over_set, 30) ∷ [])) ∷ one a (delta_sum ((x1, 0) ∷ (over_set, 0) ∷ [])) ∷ [])
unfolding canon
row_21 = (refl, refl)

-- ======== drained streams ========
-- a collection of observed sums forgets all places, at a cumulative reader too
pub places_forgotten : AloneShows limit_1 cumulative (on (about ObservableCounter a) (Collect 0 200 (observe 0 1 x1 ∷ []) ∷ Collect 0 300 (observe 0 2 y1 ∷ []) ∷ []))
    (one a (cumulative_sum ((x1, 1) ∷ [])) ∷ one a (cumulative_sum ((y1, 2) ∷ [])) ∷ [])
unfolding canon
places_forgotten = (refl, refl)

pub places_forgotten_delta : AloneShows limit_1 delta (on (about ObservableCounter a) (Collect 0 200 (observe 0 1 x1 ∷ []) ∷ Collect 0 300 (observe 0 2 y1 ∷ []) ∷ []))
    (one a (delta_sum ((x1, 1) ∷ [])) ∷ one a (delta_sum ((y1, 2) ∷ [])) ∷ [])
unfolding canon
places_forgotten_delta = (refl, refl)

-- and so their order
pub order_forgotten : AloneShows [] cumulative (on (about ObservableCounter a) (Collect 0 200 (observe 0 1 x1 ∷ observe 0 2 y1 ∷ []) ∷ Collect 0 300 (observe 0 3 y1 ∷ observe 0 4 x1 ∷ []) ∷ []))
    (one a (cumulative_sum ((x1, 1) ∷ (y1, 2) ∷ [])) ∷ one a (cumulative_sum ((y1, 3) ∷ (x1, 4) ∷ [])) ∷ [])
unfolding canon
order_forgotten = (refl, refl)

-- and the overflow set
pub overflow_forgotten : AloneShows limit_1 cumulative (on (about ObservableCounter a) (Collect 0 200 (observe 0 1 x1 ∷ observe 0 2 y1 ∷ []) ∷ Collect 0 300 (observe 0 3 x1 ∷ []) ∷ []))
    (one a (cumulative_sum ((x1, 1) ∷ (over_set, 2) ∷ [])) ∷ one a (cumulative_sum ((x1, 3) ∷ [])) ∷ [])
unfolding canon
overflow_forgotten = (refl, refl)

-- an observable gauge keeps the places of the sets that were observed, and the overflow set
pub gauge_keeps_places : AloneShows limit_1 cumulative (on (about ObservableGauge a) (Collect 0 200 (observe 0 1 x1 ∷ []) ∷ Collect 0 300 (observe 0 2 y1 ∷ []) ∷ Collect 0 400 (observe 0 3 y1 ∷ []) ∷ []))
    (one a (last_values ((x1, 1) ∷ [])) ∷ one a (last_values ((over_set, 2) ∷ [])) ∷ one a (last_values ((y1, 3) ∷ [])) ∷ [])
unfolding canon
gauge_keeps_places = (refl, refl)
