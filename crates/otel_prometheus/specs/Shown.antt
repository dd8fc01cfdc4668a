-- The points of a collection, as who reads its text is to have them.
use Rattle.std.specs.Prelude.{ℕ, ◌+◌, ◌&&◌, ℤ, List, [], ◌∷◌, ◌++◌, Bool, true, false, cond, Option, Some, None, codes, flat_map, map}
use Rattle.otel_common.specs.declared.attributes.KeyValue.{KeyValue}
use Rattle.otel_common.specs.declared.scopes.InstrumentationScope.{InstrumentationScope}
use Rattle.otel_data.specs.declared.aggregated.AggregatedMetrics.{AggregatedMetrics}
use Rattle.otel_data.specs.declared.aggregated.AggregatedMetrics.TheVariants as number_types
use Rattle.otel_data.specs.declared.aggregated.MetricData.{MetricData}
use Rattle.otel_data.specs.declared.aggregated.MetricData.TheVariants as aggregations
use Rattle.otel_data.specs.declared.collections.Metric.{Metric}
use Rattle.otel_data.specs.declared.collections.ResourceMetrics.{ResourceMetrics}
use Rattle.otel_data.specs.declared.points.HistogramDataPoint.{HistogramDataPoint}
use Rattle.otel_prometheus.specs.Collections.{belongs}
use Rattle.otel_prometheus.specs.Consumers.{Histogram, number, histogram, Point}
use Rattle.otel_prometheus.specs.Families.{families}
use Rattle.otel_prometheus.specs.Headings.{heading_of}
use Rattle.otel_prometheus.specs.Labels.{point_labels, resource_labels}
use Rattle.otel_prometheus.specs.Numbers.{unsigned, signed}
use Rattle.otel_prometheus.specs.Points.{value_name, bound_text, meets_next, are_natural}
use Rattle.otel_prometheus.specs.Samples.{Pair, labels_text}
use Rattle.otel_prometheus.specs.Series.{is_seen}
use Rattle.otel_prometheus.specs.declared.headings.Heading.{Heading}
use Rattle.otel_prometheus.specs.declared.settings.Settings.{Settings}
use Rattle.otel_prometheus.specs.declared.text.formats.Format.{Format}
use Rattle.otel_prometheus.specs.declared.text.formats.Format.TheVariants as formats

-- each bound with how many values are in the buckets up to it; of bounds that are one double the last
abbrev pub counts_up_to : Format → ℕ → List ℤ → List ℕ → List (List ℕ × ℤ)
counts_up_to f before [] counts = []
counts_up_to f before (b ∷ bounds) [] = []
counts_up_to f before (b ∷ bounds) (n ∷ counts) = cond (meets_next b bounds) [] ((bound_text f b, unsigned (before + n)) ∷ []) ++ counts_up_to f (before + n) bounds counts

abbrev pub if_kept : Bool → ℤ → Option ℤ
if_kept is_kept z = cond is_kept (Some z) None

-- OpenMetrics has a count only beside a sum
abbrev pub shown_count : Format → Bool → ℤ → Option ℤ
shown_count formats.Prometheus has_sum z = Some z
shown_count formats.OpenMetrics has_sum z = if_kept has_sum z

module _ {T : Type 0} (integer : T → ℤ) where
  -- a histogram has a sum if one is kept that can't fall, and no bound is below 0
  abbrev pub shown_histogram : Format → Bool → HistogramDataPoint T → Histogram
  shown_histogram f has_sum p = record {
    buckets = counts_up_to f 0 p.bounds p.bucket_counts ++ (codes "+Inf", unsigned p.count) ∷ [];
    sum = if_kept (has_sum && are_natural p.bounds) (integer p.sum);
    count = shown_count f (has_sum && are_natural p.bounds) (unsigned p.count);
  }

  abbrev pub number_point : Settings → InstrumentationScope → Heading → List KeyValue → T → Point
  number_point s scope h attributes value = record { name = value_name h; labels = point_labels s false scope attributes; content = number (integer value) }

  abbrev pub histogram_point : Settings → Bool → InstrumentationScope → Heading → HistogramDataPoint T → Point
  histogram_point s has_sum scope h p = record { name = h.name; labels = point_labels s true scope p.attributes; content = histogram (shown_histogram s.format has_sum p) }

  abbrev pub data_points : Settings → Bool → InstrumentationScope → Heading → MetricData T → List Point
  data_points s has_sum scope h (aggregations.Gauge g) = map (λ p. number_point s scope h p.attributes p.value) g.data_points
  data_points s has_sum scope h (aggregations.Sum d) = map (λ p. number_point s scope h p.attributes p.value) d.data_points
  data_points s has_sum scope h (aggregations.Histogram d) = map (histogram_point s (has_sum && d.has_sum) scope h) d.data_points

abbrev pub content_points : Settings → InstrumentationScope → Heading → AggregatedMetrics → List Point
content_points s scope h (number_types.U64 d) = data_points unsigned s true scope h d
content_points s scope h (number_types.I64 d) = data_points signed s false scope h d

abbrev pub metric_points : Settings → Heading → InstrumentationScope → Metric → List Point
metric_points s h scope m = cond (belongs h (heading_of m)) (content_points s scope h m.content) []

-- the points of each metric of a family
abbrev pub family_points : Settings → ResourceMetrics → Heading → List Point
family_points s c h = flat_map (λ sm. flat_map (metric_points s h sm.scope) sm.metrics) c.scope_metrics

-- of points with the same labels the first
abbrev pub first_points : List (List ℕ) → List Point → List Point
first_points seen [] = []
first_points seen (p ∷ ps) = cond (is_seen (labels_text p.labels) seen) (first_points seen ps) (p ∷ first_points (seen ++ labels_text p.labels ∷ []) ps)

abbrev pub points_of : Settings → ResourceMetrics → List Point
points_of s c = flat_map (λ f. first_points [] (family_points s c f.heading)) (families c)

-- what says what the resource is
abbrev pub target_points : List Pair → List Point
target_points [] = []
target_points (l ∷ ls) = record { name = codes "target_info"; labels = l ∷ ls; content = number (unsigned 1) } ∷ []

abbrev pub all_read : Settings → ResourceMetrics → List Point
all_read s c = target_points (resource_labels c.resource.attributes) ++ points_of s c
