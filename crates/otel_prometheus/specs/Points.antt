-- Points as series of samples.
use Rattle.std.specs.Prelude.{ℕ, ◌+◌, ◌%◌, ◌^◌, ◌&&◌, ℤ, pos, int_le, List, [], ◌∷◌, ◌++◌, Bool, true, false, cond, codes, map}
use Rattle.std.specs.Float.Ieee as Ieee
use Rattle.std.specs.Fmt.{signed_decimal}
use Rattle.std.specs.List.{list_all}
use Rattle.otel_common.specs.declared.attributes.KeyValue.{KeyValue}
use Rattle.otel_common.specs.declared.scopes.InstrumentationScope.{InstrumentationScope}
use Rattle.otel_data.specs.declared.aggregated.AggregatedMetrics.{AggregatedMetrics}
use Rattle.otel_data.specs.declared.aggregated.AggregatedMetrics.TheVariants as number_types
use Rattle.otel_data.specs.declared.aggregated.MetricData.{MetricData}
use Rattle.otel_data.specs.declared.aggregated.MetricData.TheVariants as aggregations
use Rattle.otel_data.specs.declared.points.GaugeDataPoint.{GaugeDataPoint}
use Rattle.otel_data.specs.declared.points.HistogramDataPoint.{HistogramDataPoint}
use Rattle.otel_data.specs.declared.points.SumDataPoint.{SumDataPoint}
use Rattle.otel_prometheus.specs.Numbers.{unsigned, signed}
use Rattle.otel_prometheus.specs.Samples.{Pair, Sample}
use Rattle.otel_prometheus.specs.declared.text.formats.Format.{Format}
use Rattle.otel_prometheus.specs.declared.text.formats.Format.TheVariants as formats
use Rattle.otel_prometheus.specs.Labels.{point_labels}
use Rattle.otel_prometheus.specs.Series.{Series}
use Rattle.otel_prometheus.specs.declared.headings.Heading.{Heading}
use Rattle.otel_prometheus.specs.declared.headings.Kind.{Kind}
use Rattle.otel_prometheus.specs.declared.headings.Kind.TheVariants as kinds
use Rattle.otel_prometheus.specs.declared.settings.Settings.{Settings}

-- the name of a counter's samples ends with `_total`
abbrev pub value_end : Kind → List ℕ
value_end kinds.Counter = codes "_total"
value_end kinds.Gauge = []
value_end kinds.Histogram = []

-- the name of a sample with a value
abbrev pub value_name : Heading → List ℕ
value_name h = h.name ++ value_end h.kind

-- ======== histograms ========
-- a bound of a bucket; in OpenMetrics it is written as a float
abbrev pub bound_text : Format → ℤ → List ℕ
bound_text formats.Prometheus z = signed_decimal z
bound_text formats.OpenMetrics z = signed_decimal z ++ codes ".0"

-- how many values are at most the bound
abbrev pub bucket : List ℕ → List Pair → List ℕ → ℕ → Sample
bucket name labels bound count = record { name = name ++ codes "_bucket"; labels = labels ++ (codes "le", bound) ∷ []; value = unsigned count }

-- who reads a text has doubles: whether the next bound is the same one
abbrev pub meets_next : ℤ → List ℤ → Bool
meets_next bound [] = false
meets_next bound (next ∷ bounds) = Ieee.eq (Ieee.of_int Ieee.binary64 bound) (Ieee.of_int Ieee.binary64 next)

abbrev pub sample_unless : Bool → Sample → List Sample
sample_unless true x = []
sample_unless false x = x ∷ []

-- a bucket for each bound, each with the values of those before it; of bounds that are one double the last has one
abbrev pub buckets : Format → List ℕ → List Pair → ℕ → List ℤ → List ℕ → List Sample
buckets f name labels before [] counts = []
buckets f name labels before (b ∷ bounds) [] = []
buckets f name labels before (b ∷ bounds) (n ∷ counts) =
    sample_unless (meets_next b bounds) (bucket name labels (bound_text f b) ((before + n) % 2 ^ 64)) ++ buckets f name labels ((before + n) % 2 ^ 64) bounds counts

-- whether no bound is below 0; OpenMetrics has no sum beside one that is
abbrev pub are_natural : List ℤ → Bool
are_natural bounds = list_all (λ bound. int_le (pos 0) bound) bounds

-- a sum that isn't kept, or that may fall, is not shown
abbrev pub sum_samples : Bool → List ℕ → List Pair → ℤ → List Sample
sum_samples has_sum name labels z = cond has_sum (record { name = name ++ codes "_sum"; labels = labels; value = z } ∷ []) []

abbrev pub count_sample : List ℕ → List Pair → ℕ → Sample
count_sample name labels count = record { name = name ++ codes "_count"; labels = labels; value = unsigned count }

-- OpenMetrics has a count only beside a sum
abbrev pub count_samples : Format → Bool → List ℕ → List Pair → ℕ → List Sample
count_samples formats.Prometheus has_sum name labels count = count_sample name labels count ∷ []
count_samples formats.OpenMetrics has_sum name labels count = cond has_sum (count_sample name labels count ∷ []) []

module _ {T : Type 0} (integer : T → ℤ) where
  abbrev pub histogram_samples : Format → Bool → List ℕ → List Pair → HistogramDataPoint T → List Sample
  histogram_samples f has_sum name labels p =
      buckets f name labels 0 p.bounds p.bucket_counts
      ++ (bucket name labels (codes "+Inf") p.count ∷ (sum_samples (has_sum && are_natural p.bounds) name labels (integer p.sum) ++ count_samples f (has_sum && are_natural p.bounds) name labels p.count))

  -- ======== points ========
  abbrev pub number_series : Settings → InstrumentationScope → List ℕ → List KeyValue → T → Series
  number_series s scope name attributes value = record {
    labels = point_labels s false scope attributes;
    samples = record { name = name; labels = point_labels s false scope attributes; value = integer value } ∷ [];
  }

  abbrev pub gauge_series : Settings → InstrumentationScope → Heading → GaugeDataPoint T → Series
  gauge_series s scope h p = number_series s scope (value_name h) p.attributes p.value

  abbrev pub sum_series : Settings → InstrumentationScope → Heading → SumDataPoint T → Series
  sum_series s scope h p = number_series s scope (value_name h) p.attributes p.value

  abbrev pub histogram_series : Settings → Bool → InstrumentationScope → Heading → HistogramDataPoint T → Series
  histogram_series s has_sum scope h p = record {
    labels = point_labels s true scope p.attributes;
    samples = histogram_samples s.format has_sum h.name (point_labels s true scope p.attributes) p;
  }

  abbrev pub data_series : Settings → Bool → InstrumentationScope → Heading → MetricData T → List Series
  data_series s has_sum scope h (aggregations.Gauge g) = map (gauge_series s scope h) g.data_points
  data_series s has_sum scope h (aggregations.Sum d) = map (sum_series s scope h) d.data_points
  data_series s has_sum scope h (aggregations.Histogram d) = map (histogram_series s (has_sum && d.has_sum) scope h) d.data_points

-- a series for each point; a sum of signed values may fall
abbrev pub content_series : Settings → InstrumentationScope → Heading → AggregatedMetrics → List Series
content_series s scope h (number_types.U64 d) = data_series unsigned s true scope h d
content_series s scope h (number_types.I64 d) = data_series signed s false scope h d
