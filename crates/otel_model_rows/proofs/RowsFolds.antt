-- Worked rows on folds, one measurement at a time and of whole lists, on totals, differences, and points as data.
use Rattle.std.specs.Prelude.{◌≡◌, ℕ, ℤ, pos, negsuc, true, false, List, [], ◌∷◌, map, Some, None}
use Rattle.std.proofs.Common.{refl}
use Rattle.otel_common.specs.declared.metrics.Temporality.TheVariants as temporality
use Rattle.otel_data.specs.declared.aggregated.MetricData.TheVariants as data_of
use Rattle.otel_model_stream.specs.Data.{spread_of, natural_of, signed_of, gauge_point, sum_point, histogram_point, gauge_of, sum_of, histogram_of}
use Rattle.otel_model_stream.specs.Events.{Event, Bind, RecordBound, Unbind, Collect, Point}
use Rattle.otel_model_stream.specs.Folds as folds
use Rattle.otel_model_stream.specs.Folds.{Aggregate, Sum, LastValue, Amount, Sample, Spread, Fold, Total, Last, Spreads, wrap, lesser, greater, counted_in, record_spread, record_fold, no_spread, clear_fold, buckets_of, empty_of, bounds_below, bounds_of, keeps_sum, sample_of, counts_from, last_bits, least_of, greatest_of, fold_samples, fold_of}
use Rattle.otel_model_stream.specs.Observed.{fold_in, value_before, less, difference}
use Rattle.otel_model_stream.specs.Totals.{size, has_number, without_number, recorded_from, recorded_total, weight, value_of, points_total}
use Rattle.otel_model_rows.specs.StreamRows.{x1, y1, z1, amount, add, bounds}

-- ======== numbers that wrap ========
pub wrapped : map wrap (0 ∷ 1 ∷ 18446744073709551615 ∷ 18446744073709551616 ∷ 36893488147419103233 ∷ []) ≡ 0 ∷ 1 ∷ 18446744073709551615 ∷ 0 ∷ 1 ∷ []
wrapped = refl

-- ======== one more measurement ========
abbrev sample : ℕ → ℤ → ℕ → Sample
sample bits wide bucket = record { bits = bits; wide = wide; bucket = bucket }

-- the value -1, which falls into the first bucket, and 9, which falls into the second
abbrev minus_one : Sample
minus_one = sample 18446744073709551615 (negsuc 0) 0

abbrev nine : Sample
nine = sample 9 (pos 9) 1

pub least_so_far : (lesser None (pos 3) ≡ Some (pos 3)) × (lesser (Some (pos 2)) (pos 3) ≡ Some (pos 2)) × (lesser (Some (pos 2)) (negsuc 3) ≡ Some (negsuc 3))
least_so_far = (refl, refl, refl)

pub greatest_so_far : (greater None (pos 3) ≡ Some (pos 3)) × (greater (Some (negsuc 2)) (pos 3) ≡ Some (pos 3)) × (greater (Some (pos 2)) (negsuc 3) ≡ Some (pos 2))
greatest_so_far = (refl, refl, refl)

-- the last of these buckets is not there
pub buckets : map (counted_in (7 ∷ 8 ∷ 9 ∷ [])) (0 ∷ 1 ∷ 2 ∷ 3 ∷ []) ≡ (8 ∷ 8 ∷ 9 ∷ []) ∷ (7 ∷ 9 ∷ 9 ∷ []) ∷ (7 ∷ 8 ∷ 10 ∷ []) ∷ (7 ∷ 8 ∷ 9 ∷ []) ∷ []
buckets = refl

pub bucket_wraps : counted_in (18446744073709551615 ∷ []) 0 ≡ 0 ∷ []
bucket_wraps = refl

-- 3 and 7, in one bucket each
abbrev two : Spread
two = record { has_min_max = true; has_sum = true; count = 2; sum = 10; least = Some (pos 3); greatest = Some (pos 7); counts = 1 ∷ 1 ∷ [] }

pub one_less : record_spread two minus_one ≡ record { has_min_max = true; has_sum = true; count = 3; sum = 9; least = Some (negsuc 0); greatest = Some (pos 7); counts = 2 ∷ 1 ∷ [] }
one_less = refl

pub one_greater : record_spread two nine ≡ record { has_min_max = true; has_sum = true; count = 3; sum = 19; least = Some (pos 3); greatest = Some (pos 9); counts = 1 ∷ 2 ∷ [] }
one_greater = refl

-- what a histogram does not keep stays as it is
pub without_min_max : record_spread (record two { has_min_max = false }) nine ≡ record { has_min_max = false; has_sum = true; count = 3; sum = 19; least = Some (pos 3); greatest = Some (pos 7); counts = 1 ∷ 2 ∷ [] }
without_min_max = refl

pub without_sum : record_spread (record two { has_sum = false }) nine ≡ record { has_min_max = true; has_sum = false; count = 3; sum = 10; least = Some (pos 3); greatest = Some (pos 9); counts = 1 ∷ 2 ∷ [] }
without_sum = refl

pub count_wraps : (record_spread (record two { count = 18446744073709551615 }) nine).count ≡ 0
count_wraps = refl

pub one_more : map (λ f. record_fold f minus_one) (Total 5 ∷ Total 0 ∷ Last 5 ∷ Spreads two ∷ [])
    ≡ Total 4 ∷ Total 18446744073709551615 ∷ Last 18446744073709551615 ∷ Spreads (record two { count = 3; sum = 9; least = Some (negsuc 0); counts = 2 ∷ 1 ∷ [] }) ∷ []
one_more = refl

-- ======== no measurements ========
pub none : no_spread true false 3 ≡ record { has_min_max = true; has_sum = false; count = 0; sum = 0; least = None; greatest = None; counts = 0 ∷ 0 ∷ 0 ∷ [] }
none = refl

pub cleared : map clear_fold (Total 5 ∷ Last 5 ∷ Spreads (record two { has_sum = false }) ∷ Spreads (record two { has_min_max = false }) ∷ [])
    ≡ Total 0 ∷ Last 0
    ∷ Spreads (record { has_min_max = true; has_sum = false; count = 0; sum = 0; least = None; greatest = None; counts = 0 ∷ 0 ∷ [] })
    ∷ Spreads (record { has_min_max = false; has_sum = true; count = 0; sum = 0; least = None; greatest = None; counts = 0 ∷ 0 ∷ [] })
    ∷ []
cleared = refl

abbrev five_ten : List ℤ
five_ten = bounds (5 ∷ 10 ∷ [])

pub numbers_of_buckets : map buckets_of ([] ∷ bounds (5 ∷ []) ∷ five_ten ∷ []) ≡ 0 ∷ 2 ∷ 3 ∷ []
numbers_of_buckets = refl

-- a histogram with min and max, but without a sum
abbrev plain : Aggregate
plain = folds.Histogram five_ten true false

pub empty_folds : map empty_of (Sum ∷ LastValue ∷ plain ∷ []) ≡ Total 0 ∷ Last 0 ∷ Spreads (record { has_min_max = true; has_sum = false; count = 0; sum = 0; least = None; greatest = None; counts = 0 ∷ 0 ∷ 0 ∷ [] }) ∷ []
empty_folds = refl

-- ======== buckets ========
-- the bounds -5, 0 and 10: a value at a bound is in the bucket below it
pub below : map (bounds_below (negsuc 4 ∷ pos 0 ∷ pos 10 ∷ [])) (negsuc 5 ∷ negsuc 4 ∷ negsuc 3 ∷ pos 0 ∷ pos 1 ∷ pos 10 ∷ pos 11 ∷ []) ≡ 0 ∷ 0 ∷ 1 ∷ 1 ∷ 2 ∷ 2 ∷ 3 ∷ []
below = refl

pub bounds_of_each : map bounds_of (Sum ∷ LastValue ∷ plain ∷ []) ≡ [] ∷ [] ∷ five_ten ∷ []
bounds_of_each = refl

pub sums_kept : map keeps_sum (Sum ∷ LastValue ∷ plain ∷ folds.Histogram [] false true ∷ []) ≡ false ∷ false ∷ false ∷ true ∷ []
sums_kept = refl

-- the values -3 and 7
abbrev minus_three : Amount
minus_three = record { bits = 18446744073709551613; wide = negsuc 2 }

pub samples : (map (sample_of plain) (minus_three ∷ amount 7 ∷ []) ≡ sample 18446744073709551613 (negsuc 2) 0 ∷ sample 7 (pos 7) 1 ∷ [])
    × (map (sample_of Sum) (minus_three ∷ amount 7 ∷ []) ≡ sample 18446744073709551613 (negsuc 2) 0 ∷ sample 7 (pos 7) 0 ∷ [])
samples = (refl, refl)

-- ======== whole lists ========
-- 3, -1 and 9, with the buckets 1, 0 and 2
abbrev three : List Sample
three = sample 3 (pos 3) 1 ∷ minus_one ∷ sample 9 (pos 9) 2 ∷ []

pub counts : (counts_from 0 4 three ≡ 1 ∷ 1 ∷ 1 ∷ 0 ∷ []) × (counts_from 0 2 (nine ∷ nine ∷ three) ≡ 1 ∷ 3 ∷ []) × (counts_from 2 1 three ≡ 1 ∷ []) × (counts_from 0 0 three ≡ [])
counts = (refl, refl, refl, refl)

pub last_of_each : map last_bits ([] ∷ (nine ∷ []) ∷ three ∷ (nine ∷ minus_one ∷ []) ∷ []) ≡ 0 ∷ 9 ∷ 9 ∷ 18446744073709551615 ∷ []
last_of_each = refl

pub least_of_each : map least_of ([] ∷ (pos 3 ∷ []) ∷ (pos 3 ∷ negsuc 0 ∷ pos 9 ∷ []) ∷ (pos 3 ∷ pos 9 ∷ pos 2 ∷ []) ∷ (negsuc 1 ∷ pos 3 ∷ []) ∷ [])
    ≡ None ∷ Some (pos 3) ∷ Some (negsuc 0) ∷ Some (pos 2) ∷ Some (negsuc 1) ∷ []
least_of_each = refl

pub greatest_of_each : map greatest_of ([] ∷ (pos 3 ∷ []) ∷ (pos 3 ∷ negsuc 0 ∷ pos 2 ∷ []) ∷ (pos 3 ∷ pos 9 ∷ pos 2 ∷ []) ∷ (negsuc 1 ∷ pos 3 ∷ []) ∷ [])
    ≡ None ∷ Some (pos 3) ∷ Some (pos 3) ∷ Some (pos 9) ∷ Some (pos 3) ∷ []
greatest_of_each = refl

-- what the first argument holds is not looked at, only its kind and settings
pub folded : map (λ f. fold_samples f three) (Total 5 ∷ Last 5 ∷ Spreads (record two { counts = 0 ∷ 0 ∷ 0 ∷ [] }) ∷ [])
    ≡ Total 11 ∷ Last 9 ∷ Spreads (record { has_min_max = true; has_sum = true; count = 3; sum = 11; least = Some (negsuc 0); greatest = Some (pos 9); counts = 1 ∷ 1 ∷ 1 ∷ [] }) ∷ []
folded = refl

pub folded_plain : (fold_samples (Spreads (record two { has_min_max = false })) three ≡ Spreads (record { has_min_max = false; has_sum = true; count = 3; sum = 11; least = None; greatest = None; counts = 1 ∷ 1 ∷ [] }))
    × (fold_samples (Spreads (record two { has_sum = false })) three ≡ Spreads (record { has_min_max = true; has_sum = false; count = 3; sum = 0; least = Some (negsuc 0); greatest = Some (pos 9); counts = 1 ∷ 1 ∷ [] }))
folded_plain = (refl, refl)

pub folded_none : map (λ f. fold_samples f []) (Total 5 ∷ Last 5 ∷ Spreads two ∷ [])
    ≡ Total 0 ∷ Last 0 ∷ Spreads (record { has_min_max = true; has_sum = true; count = 0; sum = 0; least = None; greatest = None; counts = 0 ∷ 0 ∷ [] }) ∷ []
folded_none = refl

-- 4, 11, then -3
abbrev some_values : List Amount
some_values = amount 4 ∷ amount 11 ∷ minus_three ∷ []

pub folds_of_each : map (λ σ. fold_of σ some_values) (Sum ∷ LastValue ∷ plain ∷ folds.Histogram five_ten false true ∷ [])
    ≡ Total 12 ∷ Last 18446744073709551613
    ∷ Spreads (record { has_min_max = true; has_sum = false; count = 3; sum = 0; least = Some (negsuc 2); greatest = Some (pos 11); counts = 2 ∷ 0 ∷ 1 ∷ [] })
    ∷ Spreads (record { has_min_max = false; has_sum = true; count = 3; sum = 12; least = None; greatest = None; counts = 2 ∷ 0 ∷ 1 ∷ [] })
    ∷ []
folds_of_each = refl

-- ======== totals ========
pub sizes : map (λ σ. size σ (amount 7)) (Sum ∷ LastValue ∷ plain ∷ []) ≡ 7 ∷ 0 ∷ 1 ∷ []
sizes = refl

pub size_of_bits : size Sum minus_three ≡ 18446744073709551613
size_of_bits = refl

pub numbers_there : map (λ h. has_number h (3 ∷ 5 ∷ [])) (3 ∷ 4 ∷ 5 ∷ []) ≡ true ∷ false ∷ true ∷ []
numbers_there = refl

-- the first occurrence goes
pub numbers_left : map (λ h. without_number h (3 ∷ 5 ∷ 3 ∷ [])) (3 ∷ 4 ∷ 5 ∷ []) ≡ (5 ∷ 3 ∷ []) ∷ (3 ∷ 5 ∷ 3 ∷ []) ∷ (3 ∷ 3 ∷ []) ∷ []
numbers_left = refl

-- through handles that are live, that are not yet, that are no more, and that were live before
abbrev some_events : List Event
some_events = add x1 1 ∷ RecordBound 1 (amount 2) ∷ Bind 1 y1 ∷ RecordBound 1 (amount 4) ∷ Collect ∷ RecordBound 7 (amount 8) ∷ Unbind 1 ∷ RecordBound 1 (amount 16) ∷ Unbind 7 ∷ RecordBound 7 (amount 32) ∷ add y1 64 ∷ []

pub recorded_of_each : map (λ σ. recorded_total σ some_events) (Sum ∷ LastValue ∷ plain ∷ []) ≡ 69 ∷ 0 ∷ 3 ∷ []
recorded_of_each = refl

pub recorded_with_live : recorded_from (size Sum) (7 ∷ []) some_events ≡ 77
recorded_with_live = refl

-- totals of histories do not wrap
pub recorded_beyond : recorded_total Sum (add x1 18446744073709551615 ∷ add x1 2 ∷ []) ≡ 18446744073709551617
recorded_beyond = refl

pub weights : map weight (Total 5 ∷ Last 5 ∷ Spreads two ∷ []) ≡ 5 ∷ 0 ∷ 2 ∷ []
weights = refl

pub values_of_folds : map value_of (Total 5 ∷ Last 6 ∷ Spreads two ∷ []) ≡ 5 ∷ 6 ∷ 0 ∷ []
values_of_folds = refl

abbrev some_points : List Point
some_points = (x1, Total 5) ∷ (y1, Last 6) ∷ (x1, Spreads two) ∷ []

pub total_of_points : points_total some_points ≡ 7
total_of_points = refl

-- ======== differences ========
pub folds_in : map (fold_in some_points) (x1 ∷ y1 ∷ z1 ∷ []) ≡ Some (Total 5) ∷ Some (Last 6) ∷ None ∷ []
folds_in = refl

pub values_before : map (value_before some_points) (x1 ∷ y1 ∷ z1 ∷ []) ≡ 5 ∷ 6 ∷ 0 ∷ []
values_before = refl

-- below 0 and beyond 2^64 numbers wrap
pub lessened : (less 5 3 ≡ 2) × (less 3 5 ≡ 18446744073709551614) × (less 5 5 ≡ 0) × (less 5 18446744073709551619 ≡ 2) × (less 18446744073709551619 2 ≡ 1)
lessened = (refl, refl, refl, refl, refl)

pub differences_shown : map (difference some_points) ((x1, Last 8) ∷ (y1, Last 4) ∷ (z1, Last 9) ∷ []) ≡ (x1, Last 3) ∷ (y1, Last 18446744073709551614) ∷ (z1, Last 9) ∷ []
differences_shown = refl

-- ======== points as data ========
pub spreads : map spread_of (Total 5 ∷ Last 5 ∷ Spreads two ∷ []) ≡ no_spread false false 0 ∷ no_spread false false 0 ∷ two ∷ []
spreads = refl

pub naturals : map natural_of (pos 3 ∷ pos 0 ∷ negsuc 0 ∷ negsuc 4 ∷ []) ≡ 3 ∷ 0 ∷ 0 ∷ 0 ∷ []
naturals = refl

pub signed_values : map signed_of (0 ∷ 9223372036854775807 ∷ 9223372036854775808 ∷ 18446744073709551615 ∷ []) ≡ pos 0 ∷ pos 9223372036854775807 ∷ negsuc 9223372036854775807 ∷ negsuc 0 ∷ []
signed_values = refl

-- without exemplars
pub gauge_points : (gauge_point (λ n. n) natural_of (x1, Last 7) ≡ record { attributes = x1; exemplars = []; value = 7 })
    × (gauge_point signed_of (λ z. z) (y1, Last 18446744073709551615) ≡ record { attributes = y1; exemplars = []; value = negsuc 0 })
gauge_points = (refl, refl)

pub sum_points : (sum_point (λ n. n) natural_of (x1, Total 7) ≡ record { attributes = x1; exemplars = []; value = 7 })
    × (sum_point signed_of (λ z. z) (y1, Total 18446744073709551615) ≡ record { attributes = y1; exemplars = []; value = negsuc 0 })
sum_points = (refl, refl)

pub histogram_points : (histogram_point (λ n. n) natural_of five_ten (x1, Spreads two) ≡ record { attributes = x1; exemplars = []; bounds = five_ten; bucket_counts = 1 ∷ 1 ∷ []; count = 2; min = Some 3; max = Some 7; sum = 10 })
    × (histogram_point signed_of (λ z. z) [] (y1, Spreads (record two { least = Some (negsuc 1); sum = 18446744073709551615 })) ≡ record { attributes = y1; exemplars = []; bounds = []; bucket_counts = 1 ∷ 1 ∷ []; count = 2; min = Some (negsuc 1); max = Some (pos 7); sum = negsuc 0 })
histogram_points = (refl, refl)

-- of the first moment and the second
pub gauge_data : gauge_of (λ n. n) natural_of 100 200 ((x1, Last 7) ∷ []) ≡ data_of.Gauge (record { data_points = record { attributes = x1; exemplars = []; value = 7 } ∷ []; start_time = 100; time = 200 })
gauge_data = refl

pub sum_data : sum_of (λ n. n) natural_of temporality.Delta true 100 200 ((x1, Total 7) ∷ []) ≡ data_of.Sum (record { data_points = record { attributes = x1; exemplars = []; value = 7 } ∷ []; start_time = 100; time = 200; temporality = temporality.Delta; is_monotonic = true })
sum_data = refl

pub histogram_data : map (λ has_sum. histogram_of (λ n. n) natural_of temporality.Cumulative five_ten has_sum 100 200 []) (true ∷ false ∷ [])
    ≡ data_of.Histogram (record { data_points = []; start_time = 100; time = 200; temporality = temporality.Cumulative; has_sum = true })
    ∷ data_of.Histogram (record { data_points = []; start_time = 100; time = 200; temporality = temporality.Cumulative; has_sum = false }) ∷ []
histogram_data = refl
