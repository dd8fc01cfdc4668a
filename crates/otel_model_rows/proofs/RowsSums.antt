-- Worked rows on sums, histograms, last values, starts and several readers, on the machine and read off the calls.
use Rattle.std.specs.Prelude.{◌≡◌, ℕ, ℤ, pos, negsuc, true, false, List, [], ◌∷◌, ◌++◌, map, Option, Some, None}
use Rattle.std.proofs.Common.{refl}
use Rattle.otel_common.specs.Canonical.{canon}
use Rattle.otel_model.specs.Calls.{Counter, UpDownCounter, Histogram, ObservableCounter, Gauge, ObservableGauge, About, Call, Meter, Build, Record, Bind, RecordBound, Unbind, Collect, Flush, Shutdown, UnknownHandle, WrongKind, WrongNumber, AlreadyShutdown, ReaderShutDown, UnknownReader, Reply}
use Rattle.otel_model.specs.Demands.{ReaderAnswers, Cumulative, default_bounds}
use Rattle.otel_model_rows.specs.Rows.{Seen, SeenPoints, a, b, m, scope_named, about, with_own_bounds, u64, i64, x1, cumulative, delta, low_memory, Shows, HasMoments, replies, one, delta_sum, cumulative_sum, plain_sum, last_values, cumulative_histogram, plain_spread, spread, on, add, observe}

-- one reader without views
abbrev Shown : ReaderAnswers → List Call → List Seen → Type 0
Shown answers calls collections = Shows [] (answers ∷ []) 0 answers calls collections

abbrev adds : List ℕ → List Call
adds ns = map (λ n. add n []) ns

-- ======== histograms ========
abbrev bounds_1 : List ℤ
bounds_1 = pos 1 ∷ pos 3 ∷ pos 6 ∷ []

pub row_1 : Shown cumulative (on (with_own_bounds bounds_1 (about Histogram a)) (adds (1 ∷ 2 ∷ 3 ∷ 4 ∷ 5 ∷ 6 ∷ 7 ∷ 8 ∷ 9 ∷ 10 ∷ []) ++ Collect 0 200 [] ∷ []))
    (one a (cumulative_histogram [] (spread bounds_1 10 55 1 10 (1 ∷ 2 ∷ 3 ∷ 4 ∷ []))) ∷ [])
unfolding canon
row_1 = (refl, refl)

pub row_2 : Shown cumulative (on (about Histogram a) (adds (0 ∷ 5 ∷ 6 ∷ 10001 ∷ []) ++ Collect 0 200 [] ∷ []))
    (one a (cumulative_histogram [] (spread default_bounds 4 10012 0 10001 (1 ∷ 1 ∷ 1 ∷ 0 ∷ 0 ∷ 0 ∷ 0 ∷ 0 ∷ 0 ∷ 0 ∷ 0 ∷ 0 ∷ 0 ∷ 0 ∷ 0 ∷ 1 ∷ []))) ∷ [])
unfolding canon
row_2 = (refl, refl)

-- an entry that was only bound
pub row_9 : Shown cumulative (on (about Histogram a) (Bind 0 x1 ∷ Collect 0 200 [] ∷ []))
    (one a (cumulative_histogram x1 (plain_spread default_bounds 0 0 (0 ∷ 0 ∷ 0 ∷ 0 ∷ 0 ∷ 0 ∷ 0 ∷ 0 ∷ 0 ∷ 0 ∷ 0 ∷ 0 ∷ 0 ∷ 0 ∷ 0 ∷ 0 ∷ []))) ∷ [])
unfolding canon
row_9 = (refl, refl)

pub row_38 : Shown cumulative (on (with_own_bounds (pos 9223372036854775807 ∷ []) (about Histogram a)) (adds (18446744073709551615 ∷ 9223372036854775807 ∷ []) ++ Collect 0 200 [] ∷ []))
    (one a (cumulative_histogram [] (spread (pos 9223372036854775807 ∷ []) 2 9223372036854775806 9223372036854775807 18446744073709551615 (1 ∷ 1 ∷ []))) ∷ [])
unfolding canon
row_38 = (refl, refl)

pub row_39 : Shown cumulative (on (with_own_bounds (negsuc 4 ∷ pos 0 ∷ []) (about Histogram a)) (Build (Some 0) (with_own_bounds [] (about Histogram b)) 100 ∷ add 0 [] ∷ Record 1 (u64 7) [] ∷ Collect 0 200 [] ∷ []))
    ((one a (cumulative_histogram [] (spread (negsuc 4 ∷ pos 0 ∷ []) 1 0 0 0 (0 ∷ 1 ∷ 0 ∷ []))) ++ one b (cumulative_histogram [] (spread [] 1 7 7 7 []))) ∷ [])
unfolding canon
row_39 = (refl, refl)

-- ======== sums and last values ========
abbrev signed_counter : About
signed_counter = record (about UpDownCounter a) { signed = true }

pub row_13 : Shown cumulative (on signed_counter (Record 0 (i64 9223372036854775807 (pos 9223372036854775807)) [] ∷ Record 0 (i64 1 (pos 1)) [] ∷ Collect 0 200 [] ∷ []))
    (one a (SeenPoints.Sum Cumulative false (([], negsuc 9223372036854775807) ∷ [])) ∷ [])
unfolding canon
row_13 = (refl, refl)

pub row_19 : Shown low_memory (on (about Counter a) (add 1 [] ∷ Collect 0 200 [] ∷ Collect 0 300 [] ∷ [])) (one a (delta_sum (([], 1) ∷ [])) ∷ [] ∷ [])
unfolding canon
row_19 = (refl, refl)

pub row_19_up_down : Shown low_memory (on (about UpDownCounter a) (add 1 [] ∷ Collect 0 200 [] ∷ Collect 0 300 [] ∷ []))
    (one a (plain_sum (([], 1) ∷ [])) ∷ one a (plain_sum (([], 1) ∷ [])) ∷ [])
unfolding canon
row_19_up_down = (refl, refl)

pub row_27 : Shown cumulative (on (about Gauge a) (Bind 0 x1 ∷ RecordBound 0 (u64 7) ∷ RecordBound 0 (u64 42) ∷ Collect 0 200 [] ∷ [])) (one a (last_values ((x1, 42) ∷ [])) ∷ [])
unfolding canon
row_27 = (refl, refl)

-- two names that differ in ASCII case are one identity, another kind is another
pub row_37 : Shown cumulative (on (about Counter (72 ∷ 105 ∷ [])) (Build (Some 0) (about Counter (104 ∷ 73 ∷ [])) 100 ∷ Build (Some 0) (about UpDownCounter (104 ∷ 105 ∷ [])) 100
    ∷ add 1 [] ∷ Record 1 (u64 2) [] ∷ Record 2 (u64 4) [] ∷ Collect 0 200 [] ∷ []))
    ((one (72 ∷ 105 ∷ []) (cumulative_sum (([], 3) ∷ [])) ++ one (104 ∷ 105 ∷ []) (plain_sum (([], 4) ∷ []))) ∷ [])
unfolding canon
row_37 = (refl, refl)

-- ======== observed sums ========
abbrev calls_5 : List Call
calls_5 = on (about ObservableCounter a) (Collect 0 200 (observe 0 10 x1 ∷ []) ∷ Collect 0 300 (observe 0 15 x1 ∷ []) ∷ Collect 0 400 [] ∷ Collect 0 500 (observe 0 20 x1 ∷ []) ∷ [])

pub row_5 : Shown delta calls_5 (one a (delta_sum ((x1, 10) ∷ [])) ∷ one a (delta_sum ((x1, 5) ∷ [])) ∷ [] ∷ one a (delta_sum ((x1, 20) ∷ [])) ∷ [])
unfolding canon
row_5 = (refl, refl)

-- an observation for a counter refuses the collection, which changes nothing
abbrev calls_40 : List Call
calls_40 = on (about ObservableCounter a) (Build (Some 0) (about Counter b) 100 ∷ Collect 0 200 (observe 0 10 x1 ∷ []) ∷ Collect 0 300 (observe 0 99 x1 ∷ observe 1 1 [] ∷ []) ∷ Collect 0 400 (observe 0 15 x1 ∷ []) ∷ [])

pub row_40 : Shown delta calls_40 (one a (delta_sum ((x1, 10) ∷ [])) ∷ one a (delta_sum ((x1, 5) ∷ [])) ∷ [])
unfolding canon
row_40 = (refl, refl)

pub row_40_moments : HasMoments [] (delta ∷ []) 0 delta calls_40 (((100, 200) ∷ []) ∷ ((200, 400) ∷ []) ∷ [])
unfolding canon
row_40_moments = (refl, refl)

-- the fault and the number of the reply to the refused one
abbrev fourth : List Reply → Option Reply
fourth [] = None
fourth (p ∷ []) = None
fourth (p ∷ q ∷ []) = None
fourth (p ∷ q ∷ r ∷ []) = None
fourth (p ∷ q ∷ r ∷ s ∷ []) = None
fourth (p ∷ q ∷ r ∷ s ∷ t ∷ rest) = Some t

pub row_40_fault : fourth (replies [] (delta ∷ []) calls_40) ≡ Some (Reply.Refused WrongKind)
unfolding canon
row_40_fault = refl

-- ======== several readers ========
abbrev two : List ReaderAnswers
two = delta ∷ delta ∷ []

abbrev calls_6 : List Call
calls_6 = on (about Counter a) (add 3 [] ∷ Collect 0 200 [] ∷ add 4 [] ∷ Collect 1 300 [] ∷ Collect 0 400 [] ∷ [])

pub row_6 : Shows [] two 0 delta calls_6 (one a (delta_sum (([], 3) ∷ [])) ∷ one a (delta_sum (([], 4) ∷ [])) ∷ [])
unfolding canon
row_6 = (refl, refl)

pub row_6_other : Shows [] two 1 delta calls_6 (one a (delta_sum (([], 7) ∷ [])) ∷ [])
unfolding canon
row_6_other = (refl, refl)

abbrev calls_25 : List Call
calls_25 = on (about ObservableCounter a) (Collect 1 200 (observe 0 5 x1 ∷ []) ∷ Collect 0 300 (observe 0 8 x1 ∷ []) ∷ Collect 1 400 (observe 0 9 x1 ∷ []) ∷ Collect 0 500 [] ∷ [])

pub row_25 : Shows [] two 1 delta calls_25 (one a (delta_sum ((x1, 5) ∷ [])) ∷ one a (delta_sum ((x1, 4) ∷ [])) ∷ [])
unfolding canon
row_25 = (refl, refl)

pub row_25_other : Shows [] two 0 delta calls_25 (one a (delta_sum ((x1, 8) ∷ [])) ∷ [] ∷ [])
unfolding canon
row_25_other = (refl, refl)

-- ======== moments ========
pub row_14 : HasMoments [] (delta ∷ []) 0 delta (on (about Counter a) (Collect 0 200 [] ∷ add 1 [] ∷ Collect 0 300 [] ∷ [])) ([] ∷ ((200, 300) ∷ []) ∷ [])
unfolding canon
row_14 = (refl, refl)

-- a last value of an asynchronous gauge resets at a cumulative reader too
pub gauge_resets : HasMoments [] (cumulative ∷ []) 0 cumulative (on (about ObservableGauge a) (Collect 0 200 (observe 0 1 [] ∷ []) ∷ Collect 0 300 (observe 0 2 [] ∷ []) ∷ [])) (((100, 200) ∷ []) ∷ ((200, 300) ∷ []) ∷ [])
unfolding canon
gauge_resets = (refl, refl)

-- a cumulative observed sum keeps its start
pub observed_sum_stays : HasMoments [] (cumulative ∷ []) 0 cumulative (on (about ObservableCounter a) (Collect 0 200 (observe 0 1 [] ∷ []) ∷ Collect 0 300 (observe 0 2 [] ∷ []) ∷ [])) (((100, 200) ∷ []) ∷ ((100, 300) ∷ []) ∷ [])
unfolding canon
observed_sum_stays = (refl, refl)

-- ======== replies ========
pub row_15 : replies [] (cumulative ∷ []) (Meter m ∷ Build (Some 0) (about Counter a) 100 ∷ Shutdown ∷ Collect 0 200 [] ∷ Flush ∷ Shutdown ∷ add 1 [] ∷ Meter (scope_named b) ∷ Build None (about Counter a) 100 ∷ Record 1 (u64 1) [] ∷ [])
    ≡ Reply.Meter (Some 0) ∷ Reply.Instrument 0 ∷ Reply.Done ∷ Reply.Refused ReaderShutDown ∷ Reply.Refused AlreadyShutdown ∷ Reply.Refused AlreadyShutdown ∷ Reply.Done ∷ Reply.Meter None ∷ Reply.Instrument 1 ∷ Reply.Done ∷ []
unfolding canon
row_15 = refl

-- an unbind, and one more of the same number
pub row_27_unbind : replies [] [] (on (about Gauge a) (Bind 0 x1 ∷ RecordBound 0 (u64 7) ∷ Unbind 0 ∷ Unbind 0 ∷ []))
    ≡ Reply.Meter (Some 0) ∷ Reply.Instrument 0 ∷ Reply.Handle 0 ∷ Reply.Done ∷ Reply.Done ∷ Reply.Refused UnknownHandle ∷ []
unfolding canon
row_27_unbind = refl

-- an unknown reader comes before a shutdown; the number type is looked at for an instrument without streams too
pub order_of_faults : replies [] (cumulative ∷ []) (Shutdown ∷ Collect 1 200 [] ∷ Build None (about Counter a) 100 ∷ Record 0 (i64 1 (pos 1)) [] ∷ Collect 0 300 [] ∷ [])
    ≡ Reply.Done ∷ Reply.Refused UnknownReader ∷ Reply.Instrument 0 ∷ Reply.Refused WrongNumber ∷ Reply.Refused ReaderShutDown ∷ []
unfolding canon
order_of_faults = refl

-- the same scope gives the same meter, another version another one
pub meters_by_scope : replies [] [] (Meter m ∷ Meter (record m { version = Some [] }) ∷ Meter m ∷ []) ≡ Reply.Meter (Some 0) ∷ Reply.Meter (Some 1) ∷ Reply.Meter (Some 0) ∷ []
meters_by_scope = refl
