-- Worked rows on what instruments, views and readers say of streams: names, units, aggregations, bounds, keys.
use Rattle.std.specs.Prelude.{◌≡◌, ℕ, ℤ, pos, true, false, List, [], ◌∷◌, ◌++◌, map, Option, Some, None, codes}
use Rattle.std.proofs.Common.{refl}
use Rattle.otel_common.specs.Canonical.{canon}
use Rattle.otel_common.specs.declared.attributes.KeyValue.{KeyValue}
use Rattle.otel_common.specs.declared.attributes.Value.TheVariants as value
use Rattle.otel_data.specs.declared.aggregated.AggregatedMetrics.TheVariants.{U64}
use Rattle.otel_data.specs.declared.aggregated.MetricData.TheVariants.{Sum}
use Rattle.otel_model_stream.specs.Sets.{none_set, over_set, allowed_part, set_of}
use Rattle.otel_model.specs.Calls.{InstrumentKind, Counter, Histogram, Gauge, ObservableGauge, About, Build, Record, Collect, or_else}
use Rattle.otel_model.specs.Demands.{Aggregation, Drop, Default, LastValue, ExplicitBucketHistogram, Views, ReaderAnswers, Cumulative, kinds, default_from, with_bounds, with_own, resolved_aggregation, description_of, unit_of, instrument_of, nothing_said}
use Rattle.otel_model.specs.Resources.{empty_resource}
use Rattle.otel_model_rows.specs.Rows.{a, b, m, about, with_own_bounds, u64, x1, y1, pair, if_named, named, but_for, default_of, limit_1, cumulative, delta, AloneShows, Gives, one, delta_sum, cumulative_sum, last_values, cumulative_histogram, spread, on, add, observe}

-- ======== sets ========
abbrev overflow : List KeyValue
overflow = record { key = codes "otel.metric.overflow"; value = value.Bool true } ∷ []

pub overflow_attribute : over_set ≡ overflow
overflow_attribute = refl

pub empty_attributes : none_set ≡ []
empty_attributes = refl

pub overflow_shown : AloneShows limit_1 delta (on (about Counter a) (add 1 x1 ∷ add 2 y1 ∷ Collect 0 200 [] ∷ [])) (one a (delta_sum ((x1, 1) ∷ (overflow, 2) ∷ [])) ∷ [])
unfolding canon
overflow_shown = (refl, refl)

-- ======== allow-lists ========
abbrev text : List ℕ → KeyValue
text key = record { key = key; value = value.I64 (pos 1) }

-- a key is allowed as a whole: neither what it begins with nor what begins with it
pub whole_keys : set_of (Some (codes "ab" ∷ [])) (text (codes "a") ∷ text (codes "ab") ∷ text (codes "abc") ∷ text (codes "b") ∷ text [] ∷ []) ≡ text (codes "ab") ∷ []
unfolding canon
whole_keys = refl

-- what is allowed keeps its order, and is not made canonical yet
pub allowed_in_order : allowed_part (Some (b ∷ a ∷ [])) (pair 98 1 ∷ pair 99 2 ∷ pair 97 3 ∷ pair 98 4 ∷ []) ≡ pair 98 1 ∷ pair 97 3 ∷ pair 98 4 ∷ []
allowed_in_order = refl

pub all_in_order : allowed_part None (pair 98 1 ∷ pair 97 3 ∷ []) ≡ pair 98 1 ∷ pair 97 3 ∷ []
all_in_order = refl

abbrev only_ab : Views
only_ab = if_named a (record nothing_said { allow = Some (codes "ab" ∷ []) }) ∷ []

pub whole_keys_shown : AloneShows only_ab cumulative (on (about Counter a) (add 1 (text (codes "a") ∷ []) ∷ add 2 (text (codes "ab") ∷ []) ∷ add 4 (text (codes "abc") ∷ []) ∷ Collect 0 200 [] ∷ []))
    (one a (cumulative_sum (([], 5) ∷ (text (codes "ab") ∷ [], 2) ∷ [])) ∷ [])
unfolding canon
whole_keys_shown = (refl, refl)

-- ======== names ========
abbrev mixed : List ℕ
mixed = codes "Ab"

-- a view sees an instrument's name as it was given, and not in lower case
pub views_see_capitals : AloneShows (if_named mixed (named b) ∷ []) cumulative (on (about Counter mixed) (add 1 [] ∷ Collect 0 200 [] ∷ [])) (one b (cumulative_sum (([], 1) ∷ [])) ∷ [])
unfolding canon
views_see_capitals = (refl, refl)

pub views_see_no_lower_case : AloneShows (if_named (codes "ab") (named b) ∷ []) cumulative (on (about Counter mixed) (add 1 [] ∷ Collect 0 200 [] ∷ [])) (one mixed (cumulative_sum (([], 1) ∷ [])) ∷ [])
unfolding canon
views_see_no_lower_case = (refl, refl)

-- names with a `Z` in one case or the other name one stream
pub last_letter : AloneShows [] cumulative (on (about Counter (codes "aZ")) (Build (Some 0) (about Counter (codes "Az")) 100 ∷ add 1 [] ∷ Record 1 (u64 2) [] ∷ Collect 0 200 [] ∷ [])) (one (codes "aZ") (cumulative_sum (([], 3) ∷ [])) ∷ [])
unfolding canon
last_letter = (refl, refl)

-- instruments with these names have streams
pub first_and_last_characters : AloneShows [] cumulative (on (about Counter (codes "z-0")) (Build (Some 0) (about Counter (codes "Z9")) 100 ∷ add 1 [] ∷ Record 1 (u64 2) [] ∷ Collect 0 200 [] ∷ []))
    ((one (codes "z-0") (cumulative_sum (([], 1) ∷ [])) ++ one (codes "Z9") (cumulative_sum (([], 2) ∷ []))) ∷ [])
unfolding canon
first_and_last_characters = (refl, refl)

-- ======== what is absent ========
pub given_or_else : (or_else (Some a) b ≡ a) × (or_else (Some []) b ≡ []) × (or_else None b ≡ b)
given_or_else = (refl, refl, refl)

abbrev full : About
full = record (about Counter a) { description = Some (codes "d"); unit = Some (codes "u") }

pub given_texts : (description_of full ≡ codes "d") × (unit_of full ≡ codes "u") × (description_of (about Counter a) ≡ []) × (unit_of (about Counter a) ≡ [])
given_texts = (refl, refl, refl, refl)

-- what a view sees of an instrument
pub seen_by_views : instrument_of m (record full { name = mixed }) ≡ record { name = mixed; description = codes "d"; kind = Counter; unit = codes "u"; scope = m }
seen_by_views = refl

-- an empty name, description or unit that a view gives stands in the place of the instrument's
pub empty_texts : Gives empty_resource (if_named a (record nothing_said { name = Some []; description = Some []; unit = Some [] }) ∷ []) cumulative (on full (add 1 [] ∷ Collect 0 200 [] ∷ []))
    (record {
      resource = empty_resource;
      scope_metrics =
          record {
            scope = m;
            metrics =
                record {
                  name = [];
                  description = [];
                  unit = [];
                  content = U64 (Sum (record { data_points = record { attributes = []; exemplars = []; value = 1 } ∷ []; start_time = 100; time = 200; temporality = Cumulative; is_monotonic = true }));
                }
                ∷ [];
          }
          ∷ [];
    }
    ∷ [])
unfolding canon
empty_texts = (refl, refl)

-- ======== aggregations ========
abbrev usual_bounds : List ℤ
usual_bounds = pos 0 ∷ pos 5 ∷ pos 10 ∷ pos 25 ∷ pos 50 ∷ pos 75 ∷ pos 100 ∷ pos 250 ∷ pos 500 ∷ pos 750 ∷ pos 1000 ∷ pos 2500 ∷ pos 5000 ∷ pos 7500 ∷ pos 10000 ∷ []

abbrev usual : List Aggregation
usual = Aggregation.Sum ∷ Aggregation.Sum ∷ ExplicitBucketHistogram usual_bounds true ∷ Aggregation.Sum ∷ Aggregation.Sum ∷ LastValue ∷ LastValue ∷ []

abbrev five : List ℤ
five = pos 5 ∷ []

abbrev ten : List ℤ
ten = pos 10 ∷ []

abbrev defaults_from : Option Aggregation → List Aggregation
defaults_from a = map (λ kind. default_from kind a) kinds

-- a reader that answers nothing, `Default` or bounds that do not rise leaves the kind's own default
pub default_of_none : defaults_from None ≡ usual
default_of_none = refl

pub default_of_default : defaults_from (Some Default) ≡ usual
default_of_default = refl

pub default_of_falling : defaults_from (Some (ExplicitBucketHistogram (pos 2 ∷ pos 1 ∷ []) true)) ≡ usual
default_of_falling = refl

-- what fits the kind is taken
pub default_of_drop : defaults_from (Some Drop) ≡ Drop ∷ Drop ∷ Drop ∷ Drop ∷ Drop ∷ Drop ∷ Drop ∷ []
default_of_drop = refl

pub default_of_sum : defaults_from (Some Aggregation.Sum) ≡ Aggregation.Sum ∷ Aggregation.Sum ∷ Aggregation.Sum ∷ Aggregation.Sum ∷ Aggregation.Sum ∷ LastValue ∷ LastValue ∷ []
default_of_sum = refl

pub default_of_last_value : defaults_from (Some LastValue) ≡ Aggregation.Sum ∷ Aggregation.Sum ∷ ExplicitBucketHistogram usual_bounds true ∷ Aggregation.Sum ∷ Aggregation.Sum ∷ LastValue ∷ LastValue ∷ []
default_of_last_value = refl

abbrev plain_ten : Aggregation
plain_ten = ExplicitBucketHistogram ten false

pub default_of_histogram : defaults_from (Some plain_ten) ≡ plain_ten ∷ plain_ten ∷ plain_ten ∷ plain_ten ∷ plain_ten ∷ plain_ten ∷ plain_ten ∷ []
default_of_histogram = refl

abbrev answering_default : InstrumentKind → ReaderAnswers
answering_default kind = but_for kind (default_of Default) cumulative

-- a gauge of a reader that answers `Default` keeps its last value, a histogram has the usual bounds
pub default_gauge : AloneShows [] (answering_default Gauge) (on (about Gauge a) (add 7 [] ∷ add 5 [] ∷ Collect 0 200 [] ∷ [])) (one a (last_values (([], 5) ∷ [])) ∷ [])
unfolding canon
default_gauge = (refl, refl)

pub default_observable_gauge : AloneShows [] (answering_default ObservableGauge) (on (about ObservableGauge a) (Collect 0 200 (observe 0 7 [] ∷ observe 0 5 [] ∷ []) ∷ Collect 0 300 [] ∷ [])) (one a (last_values (([], 5) ∷ [])) ∷ [] ∷ [])
unfolding canon
default_observable_gauge = (refl, refl)

pub default_histogram : AloneShows [] (answering_default Histogram) (on (about Histogram a) (add 7 [] ∷ Collect 0 200 [] ∷ []))
    (one a (cumulative_histogram [] (spread usual_bounds 1 7 7 7 (0 ∷ 0 ∷ 1 ∷ 0 ∷ 0 ∷ 0 ∷ 0 ∷ 0 ∷ 0 ∷ 0 ∷ 0 ∷ 0 ∷ 0 ∷ 0 ∷ 0 ∷ 0 ∷ []))) ∷ [])
unfolding canon
default_histogram = (refl, refl)

-- ======== own bounds ========
-- only a histogram's bounds are replaced
pub bounds_replaced : map (with_bounds (Some five)) (Drop ∷ Default ∷ Aggregation.Sum ∷ LastValue ∷ plain_ten ∷ ExplicitBucketHistogram ten true ∷ [])
    ≡ Drop ∷ Default ∷ Aggregation.Sum ∷ LastValue ∷ ExplicitBucketHistogram five false ∷ ExplicitBucketHistogram five true ∷ []
bounds_replaced = refl

pub bounds_left : map (with_bounds None) (Aggregation.Sum ∷ plain_ten ∷ []) ≡ Aggregation.Sum ∷ plain_ten ∷ []
bounds_left = refl

-- and only those of a histogram instrument, whatever the reader's aggregation is
pub own_bounds_by_kind : map (λ kind. with_own kind (Some five) plain_ten) kinds ≡ plain_ten ∷ plain_ten ∷ ExplicitBucketHistogram five false ∷ plain_ten ∷ plain_ten ∷ plain_ten ∷ plain_ten ∷ []
own_bounds_by_kind = refl

abbrev counters_in_buckets : ReaderAnswers
counters_in_buckets = but_for Counter (default_of (ExplicitBucketHistogram ten true)) cumulative

pub own_bounds_of_counter : AloneShows [] counters_in_buckets (on (with_own_bounds five (about Counter a)) (add 7 [] ∷ Collect 0 200 [] ∷ [])) (one a (cumulative_histogram [] (spread ten 1 7 7 7 (1 ∷ 0 ∷ []))) ∷ [])
unfolding canon
own_bounds_of_counter = (refl, refl)

abbrev bounded : About
bounded = with_own_bounds five (about Histogram a)

abbrev plain_histograms : ReaderAnswers
plain_histograms = but_for Histogram (default_of plain_ten) cumulative

-- nothing, `Default`, or an aggregation that a view gives
pub resolved : map (resolved_aggregation plain_histograms bounded) (None ∷ Some Default ∷ Some Drop ∷ Some Aggregation.Sum ∷ Some LastValue ∷ Some (ExplicitBucketHistogram [] true) ∷ [])
    ≡ ExplicitBucketHistogram five false ∷ plain_ten ∷ Drop ∷ Aggregation.Sum ∷ LastValue ∷ ExplicitBucketHistogram [] true ∷ []
resolved = refl
