-- Worked rows on kinds of instruments: readers' preferences, their aggregations, sums that may fall, and differences.
use Rattle.std.specs.Prelude.{◌≡◌, ℕ, ℤ, pos, negsuc, Bool, true, false, List, [], ◌∷◌, ◌++◌, map, drop, replicate, Some, None}
use Rattle.std.proofs.Common.{refl}
use Rattle.otel_common.specs.Canonical.{canon}
use Rattle.otel_common.specs.declared.attributes.KeyValue.{KeyValue}
use Rattle.otel_model_stream.specs.Sets.{AttributeSet}
use Rattle.otel_model_stream.specs.Folds.{Aggregate}
use Rattle.otel_model_stream.specs.Events.{Kind}
use Rattle.otel_model.specs.Calls.{is_observable, InstrumentKind, Counter, UpDownCounter, Histogram, ObservableCounter, ObservableUpDownCounter, Gauge, ObservableGauge, kind_number, kind_eq, About, Observed, Call, Meter, Build, Record, Bind, Collect, WrongKind, WrongNumber, Reply}
use Rattle.otel_model.specs.Demands.{Temporality, Cumulative, Delta, Answer, ReaderAnswers, Demand, Aggregation, Drop, Default, Sum, LastValue, ExplicitBucketHistogram, Views, answers_by, answer_for, fits, kinds, kind_default}
use Rattle.otel_model.specs.Streams.{is_sum, is_last_value, observes_sums, observes_last_values, is_drained, always_resets, is_delta, kind_of, has_sum, aggregate_from, aggregate_of, is_monotonic_kind}
use Rattle.otel_model_rows.specs.Rows.{SeenPoints, a, m, about, with_own_bounds, u64, i64, x1, y1, if_named, aggregating, cumulative, delta, low_memory, AloneShows, replies, one, delta_sum, cumulative_sum, plain_sum, last_values, cumulative_histogram, delta_histogram, plain_spread, spread, on, add, observe}

-- counters, up-down counters, histograms, observable counters, observable up-down counters, gauges, observable gauges
abbrev seven : List InstrumentKind
seven = Counter ∷ UpDownCounter ∷ Histogram ∷ ObservableCounter ∷ ObservableUpDownCounter ∷ Gauge ∷ ObservableGauge ∷ []

-- ======== what readers prefer ========
-- each kind stands at its number
pub numbers_of_kinds : map kind_number kinds ≡ 0 ∷ 1 ∷ 2 ∷ 3 ∷ 4 ∷ 5 ∷ 6 ∷ []
numbers_of_kinds = refl

-- the answer for a kind is the one that was given for it, whatever the answers are
pub answer_of_kind : (temporality : InstrumentKind → Temporality) (kind : InstrumentKind) → answer_for (answers_by temporality) kind ≡ record { temporality = temporality kind; limit = None; aggregation = None }
answer_of_kind temporality Counter = refl
answer_of_kind temporality UpDownCounter = refl
answer_of_kind temporality Histogram = refl
answer_of_kind temporality ObservableCounter = refl
answer_of_kind temporality ObservableUpDownCounter = refl
answer_of_kind temporality Gauge = refl
answer_of_kind temporality ObservableGauge = refl

-- a reader without answers is cumulative, and wants no limit and no aggregation
pub no_answers : map (answer_for []) seven ≡ replicate 7 (record { temporality = Cumulative; limit = None; aggregation = None })
no_answers = refl

pub same_kinds : map (λ kind. kind_eq Histogram kind) seven ≡ false ∷ false ∷ true ∷ false ∷ false ∷ false ∷ false ∷ []
same_kinds = refl

-- in the order of the numbers of kinds
abbrev in_order : ReaderAnswers → List Temporality
in_order answers = map (λ (x : Answer). x.temporality) answers

abbrev by_kind : ReaderAnswers → List Temporality
by_kind answers = map (λ kind. (answer_for answers kind).temporality) seven

pub cumulative_answers : in_order cumulative ≡ Cumulative ∷ Cumulative ∷ Cumulative ∷ Cumulative ∷ Cumulative ∷ Cumulative ∷ Cumulative ∷ []
cumulative_answers = refl

pub delta_answers : in_order delta ≡ Delta ∷ Cumulative ∷ Delta ∷ Delta ∷ Cumulative ∷ Delta ∷ Delta ∷ []
delta_answers = refl

pub low_memory_answers : in_order low_memory ≡ Delta ∷ Cumulative ∷ Delta ∷ Cumulative ∷ Cumulative ∷ Cumulative ∷ Cumulative ∷ []
low_memory_answers = refl

pub cumulative_by_kind : by_kind cumulative ≡ Cumulative ∷ Cumulative ∷ Cumulative ∷ Cumulative ∷ Cumulative ∷ Cumulative ∷ Cumulative ∷ []
cumulative_by_kind = refl

pub delta_by_kind : by_kind delta ≡ Delta ∷ Cumulative ∷ Delta ∷ Delta ∷ Cumulative ∷ Delta ∷ Delta ∷ []
delta_by_kind = refl

pub low_memory_by_kind : by_kind low_memory ≡ Delta ∷ Cumulative ∷ Delta ∷ Cumulative ∷ Cumulative ∷ Cumulative ∷ Cumulative ∷ []
low_memory_by_kind = refl

-- ======== aggregations of kinds ========
abbrev ten : List ℤ
ten = pos 10 ∷ []

abbrev all_fit : List Bool
all_fit = true ∷ true ∷ true ∷ true ∷ true ∷ true ∷ true ∷ []

abbrev fitting : Aggregation → List Bool
fitting aggregation = map (λ kind. fits kind aggregation) seven

-- a sum fits all but the gauges, a last value the gauges alone
pub sum_fits : fitting Sum ≡ true ∷ true ∷ true ∷ true ∷ true ∷ false ∷ false ∷ []
sum_fits = refl

pub last_value_fits : fitting LastValue ≡ false ∷ false ∷ false ∷ false ∷ false ∷ true ∷ true ∷ []
last_value_fits = refl

pub drop_fits : fitting Drop ≡ all_fit
drop_fits = refl

pub default_fits : fitting Default ≡ all_fit
default_fits = refl

pub histogram_fits : fitting (ExplicitBucketHistogram ten false) ≡ all_fit
histogram_fits = refl

abbrev usual_bounds : List ℤ
usual_bounds = pos 0 ∷ pos 5 ∷ pos 10 ∷ pos 25 ∷ pos 50 ∷ pos 75 ∷ pos 100 ∷ pos 250 ∷ pos 500 ∷ pos 750 ∷ pos 1000 ∷ pos 2500 ∷ pos 5000 ∷ pos 7500 ∷ pos 10000 ∷ []

pub defaults_of_kinds : map kind_default seven ≡ Sum ∷ Sum ∷ ExplicitBucketHistogram usual_bounds true ∷ Sum ∷ Sum ∷ LastValue ∷ LastValue ∷ []
defaults_of_kinds = refl

-- ======== what kinds of streams there are ========
abbrev each_aggregation : List Aggregation
each_aggregation = Drop ∷ Default ∷ Sum ∷ LastValue ∷ ExplicitBucketHistogram ten true ∷ []

pub sums : map is_sum each_aggregation ≡ false ∷ false ∷ true ∷ false ∷ false ∷ []
sums = refl

pub last_values_of_each : map is_last_value each_aggregation ≡ false ∷ false ∷ false ∷ true ∷ false ∷ []
last_values_of_each = refl

pub observables : map is_observable seven ≡ false ∷ false ∷ false ∷ true ∷ true ∷ false ∷ true ∷ []
observables = refl

pub observing_sums : map observes_sums seven ≡ false ∷ false ∷ false ∷ true ∷ true ∷ false ∷ false ∷ []
observing_sums = refl

pub observing_last_values : map observes_last_values seven ≡ false ∷ false ∷ false ∷ false ∷ false ∷ false ∷ true ∷ []
observing_last_values = refl

pub kinds_with_sums : map has_sum seven ≡ true ∷ false ∷ true ∷ true ∷ false ∷ true ∷ false ∷ []
kinds_with_sums = refl

pub monotonic_kinds : map is_monotonic_kind seven ≡ true ∷ false ∷ true ∷ true ∷ false ∷ false ∷ false ∷ []
monotonic_kinds = refl

-- a stream of each kind with the same aggregation
abbrev demands : Aggregation → List Demand
demands aggregation = map (λ kind. record { identity = record { scope = m; kind = kind; signed = false; description = []; unit = []; name = a }; spelling = a; aggregation = aggregation; allow = None; limit = 1 }) seven

pub drained_sums : map is_drained (demands Sum) ≡ false ∷ false ∷ false ∷ true ∷ true ∷ false ∷ false ∷ []
drained_sums = refl

pub drained_histograms : map is_drained (demands (ExplicitBucketHistogram ten true)) ≡ false ∷ false ∷ false ∷ false ∷ false ∷ false ∷ false ∷ []
drained_histograms = refl

pub resetting_sums : map always_resets (demands Sum) ≡ false ∷ false ∷ false ∷ false ∷ false ∷ false ∷ false ∷ []
resetting_sums = refl

pub resetting_last_values : map always_resets (demands LastValue) ≡ false ∷ false ∷ false ∷ false ∷ false ∷ false ∷ true ∷ []
resetting_last_values = refl

pub delta_sums : map (is_delta delta) (demands Sum) ≡ true ∷ false ∷ true ∷ true ∷ false ∷ true ∷ true ∷ []
delta_sums = refl

pub cumulative_last_values : map (is_delta cumulative) (demands LastValue) ≡ false ∷ false ∷ false ∷ false ∷ false ∷ false ∷ true ∷ []
cumulative_last_values = refl

pub kinds_of_sums : map (kind_of delta) (demands Sum) ≡ Kind.Delta ∷ Kind.Cumulative ∷ Kind.Delta ∷ Kind.Drained ∷ Kind.Drained ∷ Kind.Delta ∷ Kind.Delta ∷ []
kinds_of_sums = refl

pub kinds_of_last_values : map (kind_of cumulative) (demands LastValue) ≡ Kind.Cumulative ∷ Kind.Cumulative ∷ Kind.Cumulative ∷ Kind.Cumulative ∷ Kind.Cumulative ∷ Kind.Cumulative ∷ Kind.Delta ∷ []
kinds_of_last_values = refl

pub aggregates : map (aggregate_from false Counter) each_aggregation ≡ Aggregate.Sum ∷ Aggregate.Sum ∷ Aggregate.Sum ∷ Aggregate.LastValue ∷ Aggregate.Histogram ten true true ∷ []
aggregates = refl

pub aggregates_drained : map (aggregate_from true UpDownCounter) each_aggregation ≡ Aggregate.Sum ∷ Aggregate.Sum ∷ Aggregate.LastValue ∷ Aggregate.LastValue ∷ Aggregate.Histogram ten true false ∷ []
aggregates_drained = refl

pub aggregates_of_sums : map aggregate_of (demands Sum) ≡ Aggregate.Sum ∷ Aggregate.Sum ∷ Aggregate.Sum ∷ Aggregate.LastValue ∷ Aggregate.LastValue ∷ Aggregate.Sum ∷ Aggregate.Sum ∷ []
aggregates_of_sums = refl

-- ======== observable or not ========
-- what the same call answers at an instrument of each kind
abbrev at_each_kind : (ℕ → Call) → List Reply
at_each_kind call = drop 8 (replies [] (cumulative ∷ []) (Meter m ∷ (map (λ kind. Build (Some 0) (about kind a) 100) seven ++ map call (0 ∷ 1 ∷ 2 ∷ 3 ∷ 4 ∷ 5 ∷ 6 ∷ []))))

abbrev wrong_kind : Reply
wrong_kind = Reply.Refused WrongKind

abbrev wrong_number : Reply
wrong_number = Reply.Refused WrongNumber

pub records_at_kinds : at_each_kind (λ n. Record n (u64 1) []) ≡ Reply.Done ∷ Reply.Done ∷ Reply.Done ∷ wrong_kind ∷ wrong_kind ∷ Reply.Done ∷ wrong_kind ∷ []
unfolding canon
records_at_kinds = refl

pub binds_at_kinds : at_each_kind (λ n. Bind n []) ≡ Reply.Handle 0 ∷ Reply.Handle 1 ∷ Reply.Handle 2 ∷ wrong_kind ∷ wrong_kind ∷ Reply.Handle 3 ∷ wrong_kind ∷ []
unfolding canon
binds_at_kinds = refl

-- the kind is looked at before the number type
pub observations_at_kinds : at_each_kind (λ n. Collect 0 200 (record { instrument = n; value = i64 1 (pos 1); attributes = [] } ∷ [])) ≡ wrong_kind ∷ wrong_kind ∷ wrong_kind ∷ wrong_number ∷ wrong_number ∷ wrong_kind ∷ wrong_number ∷ []
unfolding canon
observations_at_kinds = refl

-- ======== histograms of kinds ========
abbrev as_histogram : Views
as_histogram = if_named a (aggregating (ExplicitBucketHistogram ten false)) ∷ []

-- the sum of a histogram is 0 for the two up-down kinds and the observable gauge
pub counter_histogram : AloneShows as_histogram cumulative (on (about Counter a) (add 7 [] ∷ add 18 [] ∷ Collect 0 200 [] ∷ [])) (one a (cumulative_histogram [] (plain_spread ten 2 25 (1 ∷ 1 ∷ []))) ∷ [])
unfolding canon
counter_histogram = (refl, refl)

pub up_down_histogram : AloneShows as_histogram cumulative (on (about UpDownCounter a) (add 7 [] ∷ add 18 [] ∷ Collect 0 200 [] ∷ [])) (one a (cumulative_histogram [] (plain_spread ten 2 0 (1 ∷ 1 ∷ []))) ∷ [])
unfolding canon
up_down_histogram = (refl, refl)

pub histogram_histogram : AloneShows as_histogram cumulative (on (about Histogram a) (add 7 [] ∷ add 18 [] ∷ Collect 0 200 [] ∷ [])) (one a (cumulative_histogram [] (plain_spread ten 2 25 (1 ∷ 1 ∷ []))) ∷ [])
unfolding canon
histogram_histogram = (refl, refl)

pub gauge_histogram : AloneShows as_histogram cumulative (on (about Gauge a) (add 7 [] ∷ add 8 [] ∷ Collect 0 200 [] ∷ [])) (one a (cumulative_histogram [] (plain_spread ten 2 15 (2 ∷ 0 ∷ []))) ∷ [])
unfolding canon
gauge_histogram = (refl, refl)

-- observations add up in a histogram
abbrev observed_twice : InstrumentKind → List Call
observed_twice kind = on (about kind a) (Collect 0 200 (observe 0 7 [] ∷ []) ∷ Collect 0 300 (observe 0 8 [] ∷ []) ∷ [])

pub observable_counter_histogram : AloneShows as_histogram cumulative (observed_twice ObservableCounter)
    (one a (cumulative_histogram [] (plain_spread ten 1 7 (1 ∷ 0 ∷ []))) ∷ one a (cumulative_histogram [] (plain_spread ten 2 15 (2 ∷ 0 ∷ []))) ∷ [])
unfolding canon
observable_counter_histogram = (refl, refl)

pub observable_up_down_histogram : AloneShows as_histogram cumulative (observed_twice ObservableUpDownCounter)
    (one a (cumulative_histogram [] (plain_spread ten 1 0 (1 ∷ 0 ∷ []))) ∷ one a (cumulative_histogram [] (plain_spread ten 2 0 (2 ∷ 0 ∷ []))) ∷ [])
unfolding canon
observable_up_down_histogram = (refl, refl)

pub observable_gauge_histogram : AloneShows as_histogram cumulative (observed_twice ObservableGauge)
    (one a (cumulative_histogram [] (plain_spread ten 1 0 (1 ∷ 0 ∷ []))) ∷ one a (cumulative_histogram [] (plain_spread ten 2 0 (2 ∷ 0 ∷ []))) ∷ [])
unfolding canon
observable_gauge_histogram = (refl, refl)

-- ======== sums and last values of kinds ========
abbrev as_sum : Views
as_sum = if_named a (aggregating Sum) ∷ []

abbrev as_last_value : Views
as_last_value = if_named a (aggregating LastValue) ∷ []

-- a sum on a histogram rises; its own bounds are not looked at
pub histogram_sum : AloneShows as_sum delta (on (with_own_bounds ten (about Histogram a)) (add 7 [] ∷ Collect 0 200 [] ∷ [])) (one a (delta_sum (([], 7) ∷ [])) ∷ [])
unfolding canon
histogram_sum = (refl, refl)

-- `Default` gives up own bounds
pub default_discards : AloneShows (if_named a (aggregating Default) ∷ []) low_memory (on (with_own_bounds ten (about Histogram a)) (add 7 [] ∷ Collect 0 200 [] ∷ []))
    (one a (delta_histogram [] (spread usual_bounds 1 7 7 7 (0 ∷ 0 ∷ 1 ∷ 0 ∷ 0 ∷ 0 ∷ 0 ∷ 0 ∷ 0 ∷ 0 ∷ 0 ∷ 0 ∷ 0 ∷ 0 ∷ 0 ∷ 0 ∷ []))) ∷ [])
unfolding canon
default_discards = (refl, refl)

-- a sum does not fit a gauge, which has its own default then
pub gauge_sum : AloneShows as_sum delta (on (about Gauge a) (add 7 [] ∷ add 5 [] ∷ Collect 0 200 [] ∷ Collect 0 300 [] ∷ [])) (one a (last_values (([], 5) ∷ [])) ∷ [] ∷ [])
unfolding canon
gauge_sum = (refl, refl)

pub observable_gauge_sum : AloneShows as_sum low_memory (on (about ObservableGauge a) (Collect 0 200 (observe 0 7 [] ∷ []) ∷ Collect 0 300 [] ∷ [])) (one a (last_values (([], 7) ∷ [])) ∷ [] ∷ [])
unfolding canon
observable_gauge_sum = (refl, refl)

-- a last value fits a gauge and an observable gauge
pub gauge_last_value : AloneShows as_last_value cumulative (on (about Gauge a) (add 1 x1 ∷ Collect 0 200 [] ∷ add 2 y1 ∷ Collect 0 300 [] ∷ []))
    (one a (last_values ((x1, 1) ∷ [])) ∷ one a (last_values ((x1, 1) ∷ (y1, 2) ∷ [])) ∷ [])
unfolding canon
gauge_last_value = (refl, refl)

-- which forgets what was observed, at a cumulative reader too
pub observable_gauge_last_value : AloneShows as_last_value cumulative (on (about ObservableGauge a) (Collect 0 200 (observe 0 1 x1 ∷ []) ∷ Collect 0 300 (observe 0 2 y1 ∷ []) ∷ []))
    (one a (last_values ((x1, 1) ∷ [])) ∷ one a (last_values ((y1, 2) ∷ [])) ∷ [])
unfolding canon
observable_gauge_last_value = (refl, refl)

-- ======== observed sums ========
-- a cumulative reader is shown what was observed last, and nothing of what was not observed
pub observable_counter_drained : AloneShows [] low_memory (on (about ObservableCounter a) (Collect 0 200 (observe 0 7 x1 ∷ []) ∷ Collect 0 300 (observe 0 9 x1 ∷ []) ∷ Collect 0 400 [] ∷ []))
    (one a (cumulative_sum ((x1, 7) ∷ [])) ∷ one a (cumulative_sum ((x1, 9) ∷ [])) ∷ [] ∷ [])
unfolding canon
observable_counter_drained = (refl, refl)

pub observable_up_down_drained : AloneShows [] delta (on (about ObservableUpDownCounter a) (Collect 0 200 (observe 0 7 x1 ∷ []) ∷ Collect 0 300 (observe 0 6 x1 ∷ []) ∷ Collect 0 400 [] ∷ []))
    (one a (plain_sum ((x1, 7) ∷ [])) ∷ one a (plain_sum ((x1, 6) ∷ [])) ∷ [] ∷ [])
unfolding canon
observable_up_down_drained = (refl, refl)

-- a reader that answers `Delta` for each kind
abbrev all_delta : ReaderAnswers
all_delta = answers_by (λ kind. Delta)

abbrev observe_i64 : ℕ → ℤ → List KeyValue → Observed
observe_i64 bits wide attributes = record { instrument = 0; value = i64 bits wide; attributes = attributes }

abbrev signed_observable : About
signed_observable = record (about ObservableUpDownCounter a) { signed = true }

abbrev plain_delta : List (AttributeSet × ℤ) → SeenPoints
plain_delta points = SeenPoints.Sum Delta false points

-- 5, then 7 at x; then 4 at x, and 1 at y
pub observed_sum_falls : AloneShows [] all_delta (on signed_observable (Collect 0 200 (observe_i64 5 (pos 5) x1 ∷ observe_i64 7 (pos 7) x1 ∷ []) ∷ Collect 0 300 (observe_i64 4 (pos 4) x1 ∷ observe_i64 1 (pos 1) y1 ∷ []) ∷ []))
    (one a (plain_delta ((x1, pos 7) ∷ [])) ∷ one a (plain_delta ((x1, negsuc 2) ∷ (y1, pos 1) ∷ [])) ∷ [])
unfolding canon
observed_sum_falls = (refl, refl)

-- -5, then 3, then -9223372036854775808: a difference wraps
pub observed_sum_below_zero : AloneShows [] all_delta (on signed_observable (Collect 0 200 (observe_i64 18446744073709551611 (negsuc 4) x1 ∷ []) ∷ Collect 0 300 (observe_i64 3 (pos 3) x1 ∷ []) ∷ Collect 0 400 (observe_i64 9223372036854775808 (negsuc 9223372036854775807) x1 ∷ []) ∷ []))
    (one a (plain_delta ((x1, negsuc 4) ∷ [])) ∷ one a (plain_delta ((x1, pos 8) ∷ [])) ∷ one a (plain_delta ((x1, pos 9223372036854775805) ∷ [])) ∷ [])
unfolding canon
observed_sum_below_zero = (refl, refl)

-- 10, then 4
pub counter_falls : AloneShows [] delta (on (about ObservableCounter a) (Collect 0 200 (observe 0 10 x1 ∷ []) ∷ Collect 0 300 (observe 0 4 x1 ∷ []) ∷ []))
    (one a (delta_sum ((x1, 10) ∷ [])) ∷ one a (delta_sum ((x1, 18446744073709551610) ∷ [])) ∷ [])
unfolding canon
counter_falls = (refl, refl)
