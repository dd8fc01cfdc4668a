-- Worked rows on views, fates, and the limits and aggregations of readers, on the machine and read off the calls.
use Rattle.std.specs.Prelude.{◌≡◌, ℕ, ℤ, pos, true, false, List, [], ◌∷◌, ◌++◌, Some}
use Rattle.std.proofs.Common.{refl}
use Rattle.otel_common.specs.Canonical.{canon}
use Rattle.otel_model_stream.specs.Sets.{over_set}
use Rattle.otel_model.specs.Calls.{Counter, UpDownCounter, Histogram, ObservableCounter, Call, Build, Record, Collect}
use Rattle.otel_model.specs.Demands.{Aggregation, Drop, Default, Sum, LastValue, ExplicitBucketHistogram, Views, ReaderAnswers, own_demand}
use Rattle.otel_model_rows.specs.Rows.{Seen, a, b, m, about, with_own_bounds, u64, x1, y1, if_named, limited, named, aggregating, but_for, limit_of, default_of, cumulative, delta, AloneShows, Shows, one, delta_sum, cumulative_sum, plain_sum, cumulative_histogram, plain_spread, spread, on, add, observe}

-- one cumulative reader
abbrev CumulativeShows : Views → List Call → List Seen → Type 0
CumulativeShows views calls collections = Shows views (cumulative ∷ []) 0 cumulative calls collections

-- ======== views ========
abbrev Foo : List ℕ
Foo = 70 ∷ 111 ∷ 111 ∷ []

abbrev foo : List ℕ
foo = 102 ∷ 111 ∷ 111 ∷ []

pub row_11 : CumulativeShows (if_named a (named Foo) ∷ if_named a (named foo) ∷ []) (on (about Counter a) (add 1 [] ∷ Collect 0 200 [] ∷ [])) (one Foo (cumulative_sum (([], 1) ∷ [])) ∷ [])
unfolding canon
row_11 = (refl, refl)

pub row_12 : CumulativeShows (if_named a (aggregating Drop) ∷ if_named a (aggregating LastValue) ∷ []) (on (about Counter a) (add 1 [] ∷ Collect 0 200 [] ∷ [])) ([] ∷ [])
unfolding canon
row_12 = (refl, refl)

abbrev x : List ℕ
x = 120 ∷ []

pub row_23 : CumulativeShows (if_named a (record (named x) { aggregation = Some LastValue }) ∷ []) (on (about Counter a) (add 5 [] ∷ Collect 0 200 [] ∷ [])) (one a (cumulative_sum (([], 5) ∷ [])) ∷ [])
unfolding canon
row_23 = (refl, refl)

-- a `Drop` demand of an identity that has a stream feeds that stream
pub drop_after_first : CumulativeShows (if_named b (record (named a) { aggregation = Some Drop }) ∷ []) (on (about Counter a) (Build (Some 0) (about Counter b) 100 ∷ add 1 [] ∷ Record 1 (u64 2) [] ∷ Collect 0 200 [] ∷ []))
    (one a (cumulative_sum (([], 3) ∷ [])) ∷ [])
unfolding canon
drop_after_first = (refl, refl)

-- an incompatible demand feeds nothing
pub incompatible_feeds_nothing : CumulativeShows (if_named b (record (named a) { aggregation = Some LastValue }) ∷ []) (on (about Counter a) (Build (Some 0) (about Counter b) 100 ∷ add 1 [] ∷ Record 1 (u64 2) [] ∷ Collect 0 200 [] ∷ []))
    ((one a (cumulative_sum (([], 1) ∷ [])) ++ one b (cumulative_sum (([], 2) ∷ []))) ∷ [])
unfolding canon
incompatible_feeds_nothing = (refl, refl)

-- the own default is demanded where one demand is incompatible and the compatible ones' fates are `Drop`:
-- the second counter has its own stream
pub default_where_all_dropped : CumulativeShows (if_named a (record (named x) { aggregation = Some Drop }) ∷ if_named b (named x) ∷ if_named b (record (named Foo) { aggregation = Some LastValue }) ∷ [])
    (on (about Counter a) (Build (Some 0) (about Counter b) 100 ∷ Record 1 (u64 2) [] ∷ Collect 0 200 [] ∷ []))
    (one b (cumulative_sum (([], 2) ∷ [])) ∷ [])
unfolding canon
default_where_all_dropped = (refl, refl)

-- without the incompatible one nothing is demanded
pub nothing_where_all_dropped : CumulativeShows (if_named a (record (named x) { aggregation = Some Drop }) ∷ if_named b (named x) ∷ [])
    (on (about Counter a) (Build (Some 0) (about Counter b) 100 ∷ Record 1 (u64 2) [] ∷ Collect 0 200 [] ∷ []))
    ([] ∷ [])
unfolding canon
nothing_where_all_dropped = (refl, refl)

-- ======== limits of readers ========
-- where neither a view nor the reader says one
pub usual_limit : (own_demand cumulative m (about Counter a)).limit ≡ 2000
usual_limit = refl

abbrev limited_delta : ReaderAnswers
limited_delta = but_for Counter (limit_of 1) delta

abbrev calls_42 : List Call
calls_42 = on (about Counter a) (add 1 x1 ∷ add 2 y1 ∷ Collect 0 200 [] ∷ Collect 1 300 [] ∷ [])

pub row_42 : Shows [] (limited_delta ∷ delta ∷ []) 0 limited_delta calls_42 (one a (delta_sum ((x1, 1) ∷ (over_set, 2) ∷ [])) ∷ [])
unfolding canon
row_42 = (refl, refl)

pub row_42_other : Shows [] (limited_delta ∷ delta ∷ []) 1 delta calls_42 (one a (delta_sum ((x1, 1) ∷ (y1, 2) ∷ [])) ∷ [])
unfolding canon
row_42_other = (refl, refl)

abbrev calls_43 : List Call
calls_43 = on (about Counter a) (add 1 x1 ∷ add 2 y1 ∷ Collect 0 200 [] ∷ [])

pub row_43 : AloneShows (if_named a (limited 2) ∷ []) limited_delta calls_43 (one a (delta_sum ((x1, 1) ∷ (y1, 2) ∷ [])) ∷ [])
unfolding canon
row_43 = (refl, refl)

-- an up-down counter is cumulative at a delta reader
pub row_44 : AloneShows [] limited_delta (on (about UpDownCounter a) (add 1 x1 ∷ add 2 y1 ∷ Collect 0 200 [] ∷ [])) (one a (plain_sum ((x1, 1) ∷ (y1, 2) ∷ [])) ∷ [])
unfolding canon
row_44 = (refl, refl)

pub row_45 : AloneShows [] (but_for Counter (limit_of 2) delta) calls_43 (one a (delta_sum ((x1, 1) ∷ (y1, 2) ∷ [])) ∷ [])
unfolding canon
row_45 = (refl, refl)

-- ======== aggregations of readers ========
abbrev counters_by : Aggregation → ReaderAnswers
counters_by aggregation = but_for Counter (default_of aggregation) cumulative

abbrev histograms_by : Aggregation → ReaderAnswers
histograms_by aggregation = but_for Histogram (default_of aggregation) cumulative

abbrev calls_46 : List Call
calls_46 = on (about Counter a) (add 5 [] ∷ Collect 0 200 [] ∷ Collect 1 300 [] ∷ [])

pub row_46 : Shows [] (counters_by Drop ∷ cumulative ∷ []) 0 (counters_by Drop) calls_46 ([] ∷ [])
unfolding canon
row_46 = (refl, refl)

pub row_46_other : Shows [] (counters_by Drop ∷ cumulative ∷ []) 1 cumulative calls_46 (one a (cumulative_sum (([], 5) ∷ [])) ∷ [])
unfolding canon
row_46_other = (refl, refl)

abbrev plain : List ℤ → Aggregation
plain bounds = ExplicitBucketHistogram bounds false

abbrev ten : List ℤ
ten = pos 10 ∷ []

abbrev five : List ℤ
five = pos 5 ∷ []

abbrev readers_47 : List ReaderAnswers
readers_47 = histograms_by Sum ∷ histograms_by (plain ten) ∷ []

abbrev calls_47 : List Call
calls_47 = on (about Histogram a) (add 10 [] ∷ add 11 [] ∷ Collect 0 200 [] ∷ Collect 1 300 [] ∷ [])

pub row_47 : Shows [] readers_47 0 (histograms_by Sum) calls_47 (one a (cumulative_sum (([], 21) ∷ [])) ∷ [])
unfolding canon
row_47 = (refl, refl)

pub row_47_other : Shows [] readers_47 1 (histograms_by (plain ten)) calls_47 (one a (cumulative_histogram [] (plain_spread ten 2 21 (1 ∷ 1 ∷ []))) ∷ [])
unfolding canon
row_47_other = (refl, refl)

abbrev calls_48 : List Call
calls_48 = on (with_own_bounds five (about Histogram a)) (add 10 [] ∷ add 11 [] ∷ Collect 0 200 [] ∷ Collect 1 300 [] ∷ [])

pub row_48 : Shows [] readers_47 0 (histograms_by Sum) calls_48 (one a (cumulative_sum (([], 21) ∷ [])) ∷ [])
unfolding canon
row_48 = (refl, refl)

pub row_48_other : Shows [] readers_47 1 (histograms_by (plain ten)) calls_48 (one a (cumulative_histogram [] (plain_spread five 2 21 (0 ∷ 2 ∷ []))) ∷ [])
unfolding canon
row_48_other = (refl, refl)

abbrev default_view : Views
default_view = if_named a (aggregating Default) ∷ []

pub row_49 : Shows default_view readers_47 0 (histograms_by Sum) calls_48 (one a (cumulative_sum (([], 21) ∷ [])) ∷ [])
unfolding canon
row_49 = (refl, refl)

pub row_49_other : Shows default_view readers_47 1 (histograms_by (plain ten)) calls_48 (one a (cumulative_histogram [] (plain_spread ten 2 21 (1 ∷ 1 ∷ []))) ∷ [])
unfolding canon
row_49_other = (refl, refl)

pub row_50 : AloneShows [] (counters_by LastValue) (on (about Counter a) (add 2 [] ∷ add 3 [] ∷ Collect 0 200 [] ∷ [])) (one a (cumulative_sum (([], 5) ∷ [])) ∷ [])
unfolding canon
row_50 = (refl, refl)

abbrev dropping : ReaderAnswers
dropping = but_for ObservableCounter (default_of Drop) delta

abbrev calls_51 : List Call
calls_51 = on (about ObservableCounter a) (Collect 0 200 (observe 0 7 x1 ∷ []) ∷ Collect 1 300 (observe 0 9 x1 ∷ []) ∷ Collect 1 400 (observe 0 12 x1 ∷ []) ∷ [])

pub row_51 : Shows [] (dropping ∷ delta ∷ []) 0 dropping calls_51 ([] ∷ [])
unfolding canon
row_51 = (refl, refl)

pub row_51_other : Shows [] (dropping ∷ delta ∷ []) 1 delta calls_51 (one a (delta_sum ((x1, 9) ∷ [])) ∷ one a (delta_sum ((x1, 3) ∷ [])) ∷ [])
unfolding canon
row_51_other = (refl, refl)

pub row_52 : AloneShows [] (counters_by (ExplicitBucketHistogram ten true)) (on (about Counter a) (add 10 [] ∷ add 11 [] ∷ Collect 0 200 [] ∷ []))
    (one a (cumulative_histogram [] (spread ten 2 21 10 11 (1 ∷ 1 ∷ []))) ∷ [])
unfolding canon
row_52 = (refl, refl)

-- own bounds are lost where the reader's default is no histogram; a default that is not valid is the kind's
pub own_bounds_of_invalid_default : AloneShows [] (histograms_by (plain (pos 2 ∷ pos 1 ∷ []))) (on (with_own_bounds five (about Histogram a)) (add 10 [] ∷ Collect 0 200 [] ∷ []))
    (one a (cumulative_histogram [] (spread five 1 10 10 10 (0 ∷ 1 ∷ []))) ∷ [])
unfolding canon
own_bounds_of_invalid_default = (refl, refl)
