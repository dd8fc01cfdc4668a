-- What a collection shows of one stream, as data (Metrics data model, "Metric points").
use Rattle.std.specs.Prelude.{ℕ, ℤ, pos, negsuc, Bool, false, List, [], map}
use Rattle.std.specs.Int.{cast_signed, w64}
use Rattle.std.specs.Option.{option_map}
use Rattle.otel_common.specs.declared.metrics.Temporality.{Temporality}
use Rattle.otel_data.specs.declared.aggregated.MetricData.{MetricData}
use Rattle.otel_data.specs.declared.gauges.Gauge.{Gauge}
use Rattle.otel_data.specs.declared.histograms.Histogram.{Histogram}
use Rattle.otel_data.specs.declared.points.GaugeDataPoint.{GaugeDataPoint}
use Rattle.otel_data.specs.declared.points.HistogramDataPoint.{HistogramDataPoint}
use Rattle.otel_data.specs.declared.points.SumDataPoint.{SumDataPoint}
use Rattle.otel_data.specs.declared.sums.Sum.{Sum}
use Rattle.otel_model_stream.specs.Folds.{Fold, Total, Last, Spreads, Spread, no_spread}
use Rattle.otel_model_stream.specs.Events.{Point}
pub use Rattle.otel_model_stream.specs.Totals.{value_of}
pub use Rattle.otel_common.specs.Aggregations.{rises}

-- ======== folds ========
-- the totals of a histogram; empty totals for any other fold
abbrev pub spread_of : Fold → Spread
spread_of (Total n) = no_spread false false 0
spread_of (Last n) = no_spread false false 0
spread_of (Spreads s) = s

-- ======== numbers ========
-- a whole number as a natural number; 0 if it is negative
abbrev pub natural_of : ℤ → ℕ
natural_of (pos n) = n
natural_of (negsuc n) = 0

-- the value of type `i64` with these 64 bits
abbrev pub signed_of : ℕ → ℤ
signed_of n = cast_signed w64 n

-- ======== points ========
-- data points, each made from an attribute set and the fold of its measurements. No exemplars are kept
module _ {T : Type 0} (of_bits : ℕ → T) (of_whole : ℤ → T) where
  abbrev pub gauge_point : Point → GaugeDataPoint T
  gauge_point p = record { attributes = p.0; exemplars = []; value = of_bits (value_of p.1) }

  abbrev pub sum_point : Point → SumDataPoint T
  sum_point p = record { attributes = p.0; exemplars = []; value = of_bits (value_of p.1) }

  abbrev pub histogram_point : List ℤ → Point → HistogramDataPoint T
  histogram_point bounds p = record {
    attributes = p.0;
    exemplars = [];
    bounds = bounds;
    bucket_counts = (spread_of p.1).counts;
    count = (spread_of p.1).count;
    min = option_map of_whole (spread_of p.1).least;
    max = option_map of_whole (spread_of p.1).greatest;
    sum = of_bits (spread_of p.1).sum;
  }

  -- the data of a metric, with start time `start` and collected at the time `now`
  abbrev pub gauge : ℕ → ℕ → List Point → Gauge T
  gauge start now ps = record { data_points = map gauge_point ps; start_time = start; time = now }

  abbrev pub sum : Temporality → Bool → ℕ → ℕ → List Point → Sum T
  sum temporality is_monotonic start now ps = record { data_points = map sum_point ps; start_time = start; time = now; temporality = temporality; is_monotonic = is_monotonic }

  abbrev pub histogram : Temporality → List ℤ → Bool → ℕ → ℕ → List Point → Histogram T
  histogram temporality bounds has_sum start now ps = record { data_points = map (histogram_point bounds) ps; start_time = start; time = now; temporality = temporality; has_sum = has_sum }

  -- the same as `MetricData`
  abbrev pub gauge_of : ℕ → ℕ → List Point → MetricData T
  gauge_of start now ps = MetricData.Gauge (gauge start now ps)

  abbrev pub sum_of : Temporality → Bool → ℕ → ℕ → List Point → MetricData T
  sum_of temporality is_monotonic start now ps = MetricData.Sum (sum temporality is_monotonic start now ps)

  abbrev pub histogram_of : Temporality → List ℤ → Bool → ℕ → ℕ → List Point → MetricData T
  histogram_of temporality bounds has_sum start now ps = MetricData.Histogram (histogram temporality bounds has_sum start now ps)
