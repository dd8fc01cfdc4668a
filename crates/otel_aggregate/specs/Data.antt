-- What a collection gives of a stream, as data.
use Rattle.std.specs.Prelude.{ℕ, ℤ, cond}
use Rattle.otel_common.specs.declared.metrics.Temporality.{Temporality}
use Rattle.otel_common.specs.declared.metrics.Temporality.TheVariants.{Cumulative, Delta}
use Rattle.otel_data.specs.declared.gauges.Gauge.{Gauge}
use Rattle.otel_data.specs.declared.histograms.Histogram.{Histogram}
use Rattle.otel_data.specs.declared.sums.Sum.{Sum}
use Rattle.otel_model_stream.specs.Data.{sum, gauge, histogram}
use Rattle.otel_model_stream.specs.Folds.{bounds_of, keeps_sum}
use Rattle.otel_aggregate.specs.Streams.{AggregateState, points_now}

abbrev pub temporality_of : AggregateState → Temporality
temporality_of a = cond a.resets Delta Cumulative

-- collected at the moment `now`; `of_bits` makes a number of type T of its 64 bits, and `of_whole` of its value
module _ {T : Type 0} (of_bits : ℕ → T) (of_whole : ℤ → T) where
  abbrev pub sum_data : ℕ → AggregateState → Sum T
  sum_data now a = sum of_bits of_whole (temporality_of a) a.is_monotonic a.start now (points_now a)

  abbrev pub gauge_data : ℕ → AggregateState → Gauge T
  gauge_data now a = gauge of_bits of_whole a.start now (points_now a)

  abbrev pub histogram_data : ℕ → AggregateState → Histogram T
  histogram_data now a = histogram of_bits of_whole (temporality_of a) (bounds_of a.aggregate) (keeps_sum a.aggregate) a.start now (points_now a)
