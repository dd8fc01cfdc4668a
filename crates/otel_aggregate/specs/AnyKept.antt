-- An aggregator of any kind, by its variants.
use Rattle.std.specs.Prelude.{ℕ, ◌+◌, ℤ, pos, List, Option, fold}
use Rattle.std.specs.Int.{int_min, int_max}
use Rattle.std.specs.Option.{option_map}
use Rattle.otel_data.specs.declared.numbers.NumberValue.{NumberValue}
use Rattle.otel_aggregate.specs.declared.aggregators.buckets.Buckets.{Buckets}
use Rattle.otel_model_stream.specs.Folds.{Fold, Total, Last, Spreads, Spread, Sample, no_spread, wrap, lesser, greater, counted_in, bounds_below}
use Rattle.otel_aggregate.specs.Any.{amount_of}
use Rattle.otel_aggregate.specs.declared.any_aggregator.AnyBuckets.{AnyBuckets}
use Rattle.otel_aggregate.specs.declared.any_aggregator.AnyAggregator.{AnyAggregator}
use Rattle.otel_aggregate.specs.declared.any_aggregator.AnyAggregator.TheVariants as kept
use Rattle.otel_aggregate.specs.declared.any_aggregator.AnyConfig.{AnyConfig}
use Rattle.otel_aggregate.specs.declared.any_aggregator.AnyConfig.TheVariants as config
use Rattle.otel_aggregate.specs.declared.any_aggregator.AnyRecord.{AnyRecord}

-- the totals of buckets
abbrev pub totals_of : Buckets ℕ → Spread
totals_of b = record {
  has_min_max = b.has_min_max;
  has_sum = b.has_sum;
  count = b.count;
  sum = b.sum;
  least = option_map pos b.least;
  greatest = option_map pos b.greatest;
  counts = b.counts.items;
}

-- the totals of a histogram
abbrev pub spread_in : AnyBuckets → Spread
spread_in b = record (totals_of b.buckets) { has_min_max = b.has_min_max; least = b.least; greatest = b.greatest }

-- what the records so far come to
abbrev pub fold_in : AnyAggregator → Fold
fold_in (kept.Sum n) = Total n
fold_in (kept.LastValue n) = Last n
fold_in (kept.Histogram b) = Spreads (spread_in b.value)

-- what no records come to
abbrev pub empty_for : AnyConfig → Fold
empty_for config.Sum = Total 0
empty_for config.LastValue = Last 0
empty_for (config.Histogram c) = Spreads (no_spread c.has_min_max c.has_sum c.number)

-- a record as the model sees it
abbrev pub sample_in : AnyRecord → Sample
sample_in r = record { bits = (amount_of r.value).bits; wide = (amount_of r.value).wide; bucket = r.bucket }

-- ======== several values ========
-- a sum with these values
abbrev pub sum_with : ℕ → List NumberValue → ℕ
sum_with n values = fold (λ (m : ℕ) (value : NumberValue). wrap (m + (amount_of value).bits)) n values

-- the least value, if there is one, with these
abbrev pub least_with : Option ℤ → List NumberValue → Option ℤ
least_with o values = fold (λ (p : Option ℤ) (value : NumberValue). lesser p (amount_of value).wide) o values

-- the greatest value, if there is one, with these
abbrev pub greatest_with : Option ℤ → List NumberValue → Option ℤ
greatest_with o values = fold (λ (p : Option ℤ) (value : NumberValue). greater p (amount_of value).wide) o values

-- the least of a number and these values
abbrev pub least_from : ℤ → List NumberValue → ℤ
least_from z values = fold (λ (y : ℤ) (value : NumberValue). int_min y (amount_of value).wide) z values

-- the greatest of a number and these values
abbrev pub greatest_from : ℤ → List NumberValue → ℤ
greatest_from z values = fold (λ (y : ℤ) (value : NumberValue). int_max y (amount_of value).wide) z values

-- the counts of the buckets between these bounds, with these values
abbrev pub counts_with : List ℤ → List ℕ → List NumberValue → List ℕ
counts_with bounds counts values = fold (λ (ns : List ℕ) (value : NumberValue). counted_in ns (bounds_below bounds (amount_of value).wide)) counts values
