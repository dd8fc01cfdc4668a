-- Further worked rows, where definitions are easily misread, on the machine and read off the calls.
use Rattle.std.specs.Prelude.{◌≡◌, ℕ, ℤ, pos, true, false, List, [], ◌∷◌, ◌++◌, Some, None, codes}
use Rattle.std.proofs.Common.{refl}
use Rattle.otel_common.specs.Canonical.{canon}
use Rattle.otel_common.specs.declared.attributes.KeyValue.{KeyValue}
use Rattle.otel_common.specs.declared.attributes.Value.TheVariants as value
use Rattle.otel_model_stream.specs.Sets.{over_set}
use Rattle.otel_model.specs.Calls.{Counter, UpDownCounter, Histogram, ObservableCounter, Gauge, Meter, Build, Record, Bind, RecordBound, Unbind, Collect, Shutdown, UnknownInstrument, UnknownMeter, UnknownHandle, WrongKind, WrongNumber, Reply}
use Rattle.otel_model.specs.Demands.{Drop, LastValue, ExplicitBucketHistogram, Views}
use Rattle.otel_model.specs.Calls.{Flush, OutOfMemory, Exhausted, AlreadyShutdown, ReaderShutDown, ReadersFailed}
use Rattle.otel_model.specs.Resources.{empty_resource}
use Rattle.otel_model.specs.State.{State}
use Rattle.otel_model.specs.Machine.{new_instrument, new_state}
use Rattle.otel_model.specs.Steps.{reply_of, after, Step}
use Rattle.otel_model.specs.Only.{only}
use Rattle.otel_model.specs.History.{made_calls}
use Rattle.otel_model_rows.specs.Rows.{a, m, about, with_own_bounds, u64, i64, x1, y1, pair, if_named, limited, named, aggregating, but_for, default_of, cumulative, delta, AloneShows, replies, one, delta_sum, cumulative_sum, last_values, cumulative_histogram, delta_histogram, spread, on, add, observe}

-- ======== sets and places ========
abbrev a_is : ℕ → List KeyValue
a_is n = pair 97 n ∷ []

pub row_33 : AloneShows [] cumulative (on (about Counter a) (add 1 (pair 97 1 ∷ pair 97 2 ∷ []) ∷ add 2 (a_is 1) ∷ add 4 (a_is 2) ∷ Collect 0 200 [] ∷ []))
    (one a (cumulative_sum ((a_is 1, 3) ∷ (a_is 2, 4) ∷ [])) ∷ [])
unfolding canon
row_33 = (refl, refl)

abbrev not_over : List KeyValue
not_over = record { key = codes "otel.metric.overflow"; value = value.Bool false } ∷ []

pub row_36 : AloneShows (if_named a (limited 1) ∷ []) delta (on (about Counter a) (add 1 not_over ∷ add 2 x1 ∷ Collect 0 200 [] ∷ []))
    (one a (delta_sum ((not_over, 1) ∷ (over_set, 2) ∷ [])) ∷ [])
unfolding canon
row_36 = (refl, refl)

pub row_41 : AloneShows (if_named a (limited 18446744073709551614) ∷ []) delta (on (about Counter a) (add 1 x1 ∷ Collect 0 200 [] ∷ [])) (one a (delta_sum ((x1, 1) ∷ [])) ∷ [])
unfolding canon
row_41 = (refl, refl)

-- a set that was evicted comes back behind those that stayed
pub back_behind : AloneShows [] delta (on (about Counter a) (add 1 x1 ∷ add 2 y1 ∷ Collect 0 200 [] ∷ add 3 y1 ∷ Collect 0 300 [] ∷ add 4 x1 ∷ add 5 y1 ∷ Collect 0 400 [] ∷ []))
    (one a (delta_sum ((x1, 1) ∷ (y1, 2) ∷ [])) ∷ one a (delta_sum ((y1, 3) ∷ [])) ∷ one a (delta_sum ((y1, 5) ∷ (x1, 4) ∷ [])) ∷ [])
unfolding canon
back_behind = (refl, refl)

-- a gauge that was only bound shows 0
pub bound_gauge : AloneShows [] cumulative (on (about Gauge a) (Bind 0 x1 ∷ Collect 0 200 [] ∷ [])) (one a (last_values ((x1, 0) ∷ [])) ∷ [])
unfolding canon
bound_gauge = (refl, refl)

-- ======== aggregations ========
abbrev ten : List ℤ
ten = pos 10 ∷ []

abbrev with_buckets : Views
with_buckets = if_named a (aggregating (ExplicitBucketHistogram ten true)) ∷ []

-- observations of a counter seen as a histogram add up, and a delta reader resets it
pub observed_histogram : AloneShows with_buckets delta (on (about ObservableCounter a) (Collect 0 200 (observe 0 7 [] ∷ []) ∷ Collect 0 300 (observe 0 7 [] ∷ []) ∷ []))
    (one a (delta_histogram [] (spread ten 1 7 7 7 (1 ∷ 0 ∷ []))) ∷ one a (delta_histogram [] (spread ten 1 7 7 7 (1 ∷ 0 ∷ []))) ∷ [])
unfolding canon
observed_histogram = (refl, refl)

-- a histogram on an up-down counter has the sum 0
pub up_down_histogram : AloneShows with_buckets cumulative (on (about UpDownCounter a) (add 7 [] ∷ Collect 0 200 [] ∷ []))
    (one a (cumulative_histogram [] (spread ten 1 0 7 7 (1 ∷ 0 ∷ []))) ∷ [])
unfolding canon
up_down_histogram = (refl, refl)

-- the reader drops, a view is incompatible: the own demand drops too
pub own_drops : AloneShows (if_named a (aggregating LastValue) ∷ []) (but_for Counter (default_of Drop) cumulative) (on (about Counter a) (add 5 [] ∷ Collect 0 200 [] ∷ [])) ([] ∷ [])
unfolding canon
own_drops = (refl, refl)

-- ======== names ========
-- two characters of two bytes that differ in case
abbrev upper : List ℕ
upper = 67 ∷ 195 ∷ 137 ∷ []

abbrev lower : List ℕ
lower = 99 ∷ 195 ∷ 169 ∷ []

pub only_ascii_case : AloneShows (if_named a (named upper) ∷ if_named a (named lower) ∷ []) cumulative (on (about Counter a) (add 1 [] ∷ Collect 0 200 [] ∷ []))
    ((one upper (cumulative_sum (([], 1) ∷ [])) ++ one lower (cumulative_sum (([], 1) ∷ []))) ∷ [])
unfolding canon
only_ascii_case = (refl, refl)

-- ======== instruments that ignore ========
-- bounds are looked at for a histogram alone
pub bounds_of_counter : AloneShows [] cumulative (on (with_own_bounds (pos 5 ∷ pos 5 ∷ []) (about Counter a)) (add 1 [] ∷ Collect 0 200 [] ∷ [])) (one a (cumulative_sum (([], 1) ∷ [])) ∷ [])
unfolding canon
bounds_of_counter = (refl, refl)

pub bounds_of_histogram : AloneShows [] cumulative (on (with_own_bounds (pos 5 ∷ pos 5 ∷ []) (about Histogram a)) (add 1 [] ∷ Collect 0 200 [] ∷ [])) ([] ∷ [])
unfolding canon
bounds_of_histogram = (refl, refl)

pub bad_name_ignores : AloneShows [] cumulative (on (about Counter (95 ∷ [])) (add 1 [] ∷ Collect 0 200 [] ∷ [])) ([] ∷ [])
unfolding canon
bad_name_ignores = (refl, refl)

-- records and binds of instruments that ignore are accepted, and handles are numbered
pub ignored_replies : replies [] (cumulative ∷ []) (Build None (about Counter a) 100 ∷ Record 0 (u64 1) [] ∷ Bind 0 x1 ∷ RecordBound 0 (u64 1) ∷ Bind 0 x1 ∷ Unbind 0 ∷ RecordBound 0 (u64 1) ∷ [])
    ≡ Reply.Instrument 0 ∷ Reply.Done ∷ Reply.Handle 0 ∷ Reply.Done ∷ Reply.Handle 1 ∷ Reply.Done ∷ Reply.Refused UnknownHandle ∷ []
unfolding canon
ignored_replies = refl

-- a number of the other type is refused for an observable without streams too
pub ignored_observation : replies [] (cumulative ∷ []) (Build None (about ObservableCounter a) 100 ∷ Collect 0 200 (record { instrument = 0; value = i64 1 (pos 1); attributes = [] } ∷ []) ∷ Collect 0 300 (observe 1 1 [] ∷ []) ∷ Record 0 (u64 1) [] ∷ Bind 0 [] ∷ [])
    ≡ Reply.Instrument 0 ∷ Reply.Refused WrongNumber ∷ Reply.Refused UnknownInstrument ∷ Reply.Refused WrongKind ∷ Reply.Refused WrongKind ∷ []
unfolding canon
ignored_observation = refl

-- after a shutdown there is no meter any more, but those that were there go on
pub meters_after_shutdown : replies [] [] (Meter m ∷ Shutdown ∷ Meter m ∷ Build (Some 0) (about Counter a) 100 ∷ Build (Some 1) (about Counter a) 100 ∷ [])
    ≡ Reply.Meter (Some 0) ∷ Reply.Done ∷ Reply.Meter None ∷ Reply.Instrument 0 ∷ Reply.Refused UnknownMeter ∷ []
meters_after_shutdown = refl

-- ======== handles, readers that fail, calls that count ========
-- a provider with one counter, of which this many handles were bound
abbrev bound_before : ℕ → State
bound_before n = record {
  shared = record (new_state empty_resource 0 []).shared { instruments = new_instrument (about Counter a) ∷ []; next = n };
  readers = [];
}

pub last_handle : reply_of (bound_before 18446744073709551614) (Bind 0 []) ≡ Reply.Handle 18446744073709551614
last_handle = refl

pub no_more_handles : reply_of (bound_before 18446744073709551615) (Bind 0 []) ≡ Reply.Refused Exhausted
no_more_handles = refl

abbrev three : State
three = new_state empty_resource 0 (delta ∷ delta ∷ delta ∷ [])

-- readers 1 and 2 fail at the shutdown; the provider is shut down, and a second one is refused
pub row_26 : Step [] three Shutdown (Reply.Refused (ReadersFailed 2 1)) (after [] three Shutdown)
row_26 = (refl, refl, refl)

pub row_26_second : reply_of (after [] three Shutdown) Shutdown ≡ Reply.Refused AlreadyShutdown
row_26_second = refl

-- a shutdown that a reader failed counts as made, a flush that one failed does not, nor what was refused
pub calls_made : made_calls (Shutdown ∷ Flush ∷ add 1 [] ∷ Bind 0 [] ∷ []) (Reply.Refused (ReadersFailed 1 0) ∷ Reply.Refused (ReadersFailed 1 0) ∷ Reply.Done ∷ Reply.Refused OutOfMemory ∷ []) ≡ Shutdown ∷ add 1 [] ∷ []
calls_made = refl

-- what reader 1 sees: not what was refused for memory, not another reader's collection, and its own as reader 0
pub calls_left : only 1 (add 1 [] ∷ Bind 0 [] ∷ Collect 0 200 [] ∷ Collect 1 300 [] ∷ Record 9 (u64 1) [] ∷ [])
    (Reply.Done ∷ Reply.Refused OutOfMemory ∷ Reply.Refused ReaderShutDown ∷ Reply.Refused ReaderShutDown ∷ Reply.Refused UnknownInstrument ∷ [])
    ≡ add 1 [] ∷ Collect 0 300 [] ∷ Record 9 (u64 1) [] ∷ []
calls_left = refl
