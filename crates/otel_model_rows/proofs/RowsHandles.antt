-- Worked rows on bound handles, by the machine and read off the calls.
use Rattle.std.specs.Prelude.{◌≡◌, pos, true, List, [], ◌∷◌, ◌++◌, Some}
use Rattle.std.proofs.Common.{refl}
use Rattle.otel_common.specs.Canonical.{canon}
use Rattle.otel_model_stream.specs.Sets.{over_set}
use Rattle.otel_model.specs.Calls.{Counter, UpDownCounter, Histogram, Gauge, Call, Build, Record, Bind, RecordBound, Unbind, Collect, WrongNumber, UnknownHandle, Reply}
use Rattle.otel_model.specs.Demands.{nothing_said}
use Rattle.otel_model_rows.specs.Rows.{a, b, about, with_own_bounds, u64, i64, x1, y1, if_named, limited, limit_1, named, cumulative, delta, low_memory, AloneShows, Shows, replies, one, delta_sum, cumulative_sum, plain_sum, last_values, cumulative_histogram, spread, on, add}

-- ======== places ========
-- two handles of one set: it keeps its place while one of them is live
pub two_handles : AloneShows limit_1 delta (on (about Counter a) (
    Bind 0 x1 ∷ Bind 0 x1 ∷ Collect 0 200 [] ∷ Unbind 0 ∷ Collect 0 300 [] ∷ add 1 y1 ∷ RecordBound 1 (u64 2) ∷ Unbind 1
    ∷ Collect 0 400 [] ∷ Collect 0 500 [] ∷ add 4 y1 ∷ Collect 0 600 [] ∷ []))
    ([] ∷ [] ∷ one a (delta_sum ((x1, 2) ∷ (over_set, 1) ∷ [])) ∷ [] ∷ one a (delta_sum ((y1, 4) ∷ [])) ∷ [])
unfolding canon
two_handles = (refl, refl)

-- the first of two handles is let go last
pub first_handle_stays : AloneShows limit_1 delta (on (about Counter a) (
    Bind 0 x1 ∷ Bind 0 x1 ∷ Unbind 1 ∷ Collect 0 200 [] ∷ add 1 y1 ∷ RecordBound 0 (u64 2) ∷ Collect 0 300 [] ∷ Collect 0 400 [] ∷ add 4 x1 ∷ Collect 0 500 [] ∷ []))
    ([] ∷ one a (delta_sum ((x1, 2) ∷ (over_set, 1) ∷ [])) ∷ [] ∷ one a (delta_sum ((x1, 4) ∷ [])) ∷ [])
unfolding canon
first_handle_stays = (refl, refl)

-- a handle of the empty set, which takes no place
pub handle_of_empty_set : AloneShows limit_1 delta (on (about Counter a) (Bind 0 [] ∷ add 1 x1 ∷ Collect 0 200 [] ∷ RecordBound 0 (u64 2) ∷ add 4 y1 ∷ Collect 0 300 [] ∷ []))
    (one a (delta_sum ((x1, 1) ∷ [])) ∷ one a (delta_sum (([], 2) ∷ (over_set, 4) ∷ [])) ∷ [])
unfolding canon
handle_of_empty_set = (refl, refl)

-- bound alone it shows nothing, at a cumulative reader neither
pub empty_set_bound : AloneShows [] cumulative (on (about Counter a) (Bind 0 [] ∷ Collect 0 200 [] ∷ RecordBound 0 (u64 2) ∷ Collect 0 300 [] ∷ [])) ([] ∷ one a (cumulative_sum (([], 2) ∷ [])) ∷ [])
unfolding canon
empty_set_bound = (refl, refl)

-- of another set it shows 0
pub counter_bound : AloneShows [] low_memory (on (about UpDownCounter a) (Bind 0 x1 ∷ Collect 0 200 [] ∷ RecordBound 0 (u64 2) ∷ Collect 0 300 [] ∷ []))
    (one a (plain_sum ((x1, 0) ∷ [])) ∷ one a (plain_sum ((x1, 2) ∷ [])) ∷ [])
unfolding canon
counter_bound = (refl, refl)

-- bound at the limit, a handle stays with the overflow set, which is there from then on
pub handle_of_overflow : AloneShows limit_1 cumulative (on (about Counter a) (add 1 x1 ∷ Bind 0 y1 ∷ Collect 0 200 [] ∷ RecordBound 0 (u64 2) ∷ add 4 y1 ∷ Collect 0 300 [] ∷ []))
    (one a (cumulative_sum ((x1, 1) ∷ (over_set, 0) ∷ [])) ∷ one a (cumulative_sum ((x1, 1) ∷ (over_set, 6) ∷ [])) ∷ [])
unfolding canon
handle_of_overflow = (refl, refl)

-- a place that was let go is another set's, and the set bound again overflows
pub bound_again : AloneShows limit_1 delta (on (about Counter a) (Bind 0 x1 ∷ Unbind 0 ∷ Collect 0 200 [] ∷ add 1 y1 ∷ Bind 0 x1 ∷ RecordBound 1 (u64 2) ∷ Collect 0 300 [] ∷ []))
    ([] ∷ one a (delta_sum ((y1, 1) ∷ (over_set, 2) ∷ [])) ∷ [])
unfolding canon
bound_again = (refl, refl)

-- the end of a handle takes nothing back
pub recorded_then_unbound : AloneShows [] delta (on (about Counter a) (Bind 0 x1 ∷ RecordBound 0 (u64 2) ∷ Unbind 0 ∷ RecordBound 0 (u64 4) ∷ Collect 0 200 [] ∷ Collect 0 300 [] ∷ []))
    (one a (delta_sum ((x1, 2) ∷ [])) ∷ [] ∷ [])
unfolding canon
recorded_then_unbound = (refl, refl)

-- ======== streams ========
-- a handle of an instrument that feeds two streams, in one of which its set has no place
pub two_streams : AloneShows (if_named a (limited 1) ∷ if_named a (named b) ∷ []) delta (on (about Counter a) (add 1 x1 ∷ Bind 0 y1 ∷ RecordBound 0 (u64 2) ∷ Collect 0 200 [] ∷ []))
    ((one a (delta_sum ((x1, 1) ∷ (over_set, 2) ∷ [])) ++ one b (delta_sum ((x1, 1) ∷ (y1, 2) ∷ []))) ∷ [])
unfolding canon
two_streams = (refl, refl)

-- of two readers one evicts the set, the other does not
abbrev calls : List Call
calls = on (about Counter a) (Bind 0 x1 ∷ RecordBound 0 (u64 1) ∷ Unbind 0 ∷ Collect 0 200 [] ∷ Collect 0 300 [] ∷ add 2 y1 ∷ Collect 0 400 [] ∷ Collect 1 500 [] ∷ [])

pub at_two_readers : Shows limit_1 (delta ∷ cumulative ∷ []) 0 delta calls (one a (delta_sum ((x1, 1) ∷ [])) ∷ [] ∷ one a (delta_sum ((y1, 2) ∷ [])) ∷ [])
unfolding canon
at_two_readers = (refl, refl)

pub at_two_readers_other : Shows limit_1 (delta ∷ cumulative ∷ []) 1 cumulative calls (one a (cumulative_sum ((x1, 1) ∷ (over_set, 2) ∷ [])) ∷ [])
unfolding canon
at_two_readers_other = (refl, refl)

-- the allow-list is asked at the bind
pub allowed_bind : AloneShows (if_named a (record nothing_said { allow = Some ((120 ∷ []) ∷ []) }) ∷ []) cumulative (on (about Counter a) (Bind 0 (y1 ++ x1) ∷ RecordBound 0 (u64 2) ∷ add 1 x1 ∷ Collect 0 200 [] ∷ []))
    (one a (cumulative_sum ((x1, 3) ∷ [])) ∷ [])
unfolding canon
allowed_bind = (refl, refl)

-- last values and histograms through handles, between records
pub gauge_by_handle : AloneShows [] cumulative (on (about Gauge a) (Bind 0 x1 ∷ add 9 x1 ∷ RecordBound 0 (u64 5) ∷ Collect 0 200 [] ∷ add 4 x1 ∷ Collect 0 300 [] ∷ []))
    (one a (last_values ((x1, 5) ∷ [])) ∷ one a (last_values ((x1, 4) ∷ [])) ∷ [])
unfolding canon
gauge_by_handle = (refl, refl)

pub histogram_by_handle : AloneShows [] cumulative (on (with_own_bounds (pos 5 ∷ []) (about Histogram a)) (Bind 0 x1 ∷ RecordBound 0 (u64 5) ∷ add 6 x1 ∷ RecordBound 0 (u64 2) ∷ Collect 0 200 [] ∷ []))
    (one a (cumulative_histogram x1 (spread (pos 5 ∷ []) 3 13 2 6 (2 ∷ 1 ∷ []))) ∷ [])
unfolding canon
histogram_by_handle = (refl, refl)

-- ======== replies ========
-- through a handle: the handle first, then the number type
pub number_through_handle : replies [] (cumulative ∷ []) (on (about Counter a) (Bind 0 x1 ∷ RecordBound 0 (i64 1 (pos 1)) ∷ RecordBound 1 (i64 1 (pos 1)) ∷ Record 0 (i64 1 (pos 1)) [] ∷ RecordBound 0 (u64 1) ∷ []))
    ≡ Reply.Meter (Some 0) ∷ Reply.Instrument 0 ∷ Reply.Handle 0 ∷ Reply.Refused WrongNumber ∷ Reply.Refused UnknownHandle ∷ Reply.Refused WrongNumber ∷ Reply.Done ∷ []
unfolding canon
number_through_handle = refl

-- numbers of handles are not used again
pub handle_numbers : replies [] (cumulative ∷ []) (on (about Counter a) (Bind 0 x1 ∷ Bind 0 x1 ∷ Unbind 0 ∷ Bind 0 y1 ∷ RecordBound 0 (u64 1) ∷ Unbind 0 ∷ RecordBound 1 (u64 1) ∷ Unbind 3 ∷ []))
    ≡ Reply.Meter (Some 0) ∷ Reply.Instrument 0 ∷ Reply.Handle 0 ∷ Reply.Handle 1 ∷ Reply.Done ∷ Reply.Handle 2 ∷ Reply.Refused UnknownHandle ∷ Reply.Refused UnknownHandle ∷ Reply.Done ∷ Reply.Refused UnknownHandle ∷ []
unfolding canon
handle_numbers = refl

-- each handle has the number type of its own instrument
pub number_of_instrument : replies [] (cumulative ∷ []) (on (about Counter a) (Build (Some 0) (record (about UpDownCounter b) { signed = true }) 100 ∷ Bind 1 [] ∷ Bind 0 [] ∷ RecordBound 0 (i64 1 (pos 1)) ∷ RecordBound 0 (u64 1) ∷ RecordBound 1 (i64 1 (pos 1)) ∷ RecordBound 1 (u64 1) ∷ []))
    ≡ Reply.Meter (Some 0) ∷ Reply.Instrument 0 ∷ Reply.Instrument 1 ∷ Reply.Handle 0 ∷ Reply.Handle 1 ∷ Reply.Done ∷ Reply.Refused WrongNumber ∷ Reply.Refused WrongNumber ∷ Reply.Done ∷ []
unfolding canon
number_of_instrument = refl
