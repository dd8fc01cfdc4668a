-- Worked rows on what who reads a text takes for points, and on the points that it is to have.
use Rattle.std.specs.Prelude.{◌≡◌, ℕ, ℤ, pos, negsuc, true, false, List, [], ◌∷◌, ◌++◌, Some, None, codes, option_map}
use Rattle.std.specs.Fmt.{signed_decimal}
use Rattle.std.proofs.Common.{refl}
use Rattle.otel_common.specs.declared.attributes.KeyValue.{KeyValue}
use Rattle.otel_common.specs.declared.attributes.Value.TheVariants as values
use Rattle.otel_common.specs.declared.metrics.Temporality.{Temporality}
use Rattle.otel_common.specs.declared.metrics.Temporality.TheVariants as temporality
use Rattle.otel_common.specs.declared.scopes.InstrumentationScope.{InstrumentationScope}
use Rattle.otel_data.specs.declared.aggregated.AggregatedMetrics.{AggregatedMetrics}
use Rattle.otel_data.specs.declared.aggregated.AggregatedMetrics.TheVariants as numbers
use Rattle.otel_data.specs.declared.aggregated.MetricData.TheVariants as data_of
use Rattle.otel_data.specs.declared.collections.Metric.{Metric}
use Rattle.otel_data.specs.declared.collections.ResourceMetrics.{ResourceMetrics}
use Rattle.otel_data.specs.declared.points.HistogramDataPoint.{HistogramDataPoint}
use Rattle.otel_prometheus.specs.Consumers.{Point, Typed, number, histogram, split_types, is_bound, without_bound, bound_of, labels_eq, histograms, read_points}
use Rattle.otel_prometheus.specs.Lines.{Line, help, kind, sample, finish}
use Rattle.otel_prometheus.specs.Numbers.{unsigned, signed}
use Rattle.otel_prometheus.specs.Reading.{read}
use Rattle.otel_prometheus.specs.Samples.{Pair, Sample}
use Rattle.otel_prometheus.specs.Shown.{counts_up_to, shown_count, shown_histogram, first_points, points_of, target_points, all_read}
use Rattle.otel_prometheus.specs.declared.settings.Settings.{Settings}
use Rattle.otel_prometheus.specs.declared.text.formats.Format.TheVariants as formats

abbrev path : List ℕ → List Pair
path value = (codes "path", value) ∷ []

abbrev value_of : List ℕ → List Pair → ℕ → Point
value_of name labels n = record { name = name; labels = labels; content = number (pos n) }

-- ======== lines ========
pub counter_read : option_map read_points (read (codes "# HELP hits_total Hits\n# TYPE hits_total counter\nhits_total{path=\"/a\"} 3\nhits_total 18446744073709551615\n"))
    ≡ Some (value_of (codes "hits_total") (path (codes "/a")) 3 ∷ value_of (codes "hits_total") [] 18446744073709551615 ∷ [])
counter_read = refl

pub gauge_read : option_map read_points (read (codes "# TYPE heat gauge\nheat{path=\"a\\\"b\"} -4\n# EOF\n"))
    ≡ Some (record { name = codes "heat"; labels = path (codes "a\"b"); content = number (negsuc 3) } ∷ [])
gauge_read = refl

pub one_histogram : option_map read_points (read (codes "# TYPE took histogram\ntook_bucket{path=\"/a\",le=\"10\"} 1\ntook_bucket{path=\"/a\",le=\"+Inf\"} 3\ntook_sum{path=\"/a\"} 40\ntook_count{path=\"/a\"} 3\n"))
    ≡ Some (record { name = codes "took"; labels = path (codes "/a"); content = histogram (record { buckets = (codes "10", pos 1) ∷ (codes "+Inf", pos 3) ∷ []; sum = Some (pos 40); count = Some (pos 3) }) } ∷ [])
one_histogram = refl

abbrev bucket : List Pair → ℕ → Sample
bucket labels n = record { name = codes "took_bucket"; labels = labels; value = pos n }

abbrev infinite : Pair
infinite = (codes "le", codes "+Inf")

-- samples with other labels are another histogram, and those that come back are a third
pub two_histograms : histograms (codes "took") (bucket ((codes "path", codes "/a") ∷ infinite ∷ []) 1 ∷ bucket (infinite ∷ (codes "path", codes "/b") ∷ []) 2 ∷ bucket ((codes "path", codes "/a") ∷ infinite ∷ []) 3 ∷ [])
    ≡ (path (codes "/a"), record { buckets = (codes "+Inf", pos 1) ∷ []; sum = None; count = None })
    ∷ (path (codes "/b"), record { buckets = (codes "+Inf", pos 2) ∷ []; sum = None; count = None })
    ∷ (path (codes "/a"), record { buckets = (codes "+Inf", pos 3) ∷ []; sum = None; count = None }) ∷ []
two_histograms = refl

pub without_sum : histograms (codes "took") (bucket (infinite ∷ []) 2 ∷ record { name = codes "took_count"; labels = []; value = pos 2 } ∷ [])
    ≡ ([], record { buckets = (codes "+Inf", pos 2) ∷ []; sum = None; count = Some (pos 2) }) ∷ []
without_sum = refl

pub sample_of_another_name : histograms (codes "took") (record { name = codes "took_mean"; labels = []; value = pos 2 } ∷ []) ≡ []
sample_of_another_name = refl

pub types_apart : split_types (sample (bucket [] 1) ∷ kind (codes "a") (codes "gauge") ∷ help (codes "b") (codes "text") ∷ kind (codes "b") (codes "gauge") ∷ sample (bucket [] 2) ∷ [])
    ≡ (bucket [] 1 ∷ [], record { name = codes "a"; word = codes "gauge"; samples = [] } ∷ record { name = codes "b"; word = codes "gauge"; samples = bucket [] 2 ∷ [] } ∷ [])
types_apart = refl

pub behind_the_end : split_types (kind (codes "a") (codes "gauge") ∷ finish ∷ sample (bucket [] 1) ∷ []) ≡ ([], record { name = codes "a"; word = codes "gauge"; samples = [] } ∷ [])
behind_the_end = refl

pub bounds : (is_bound infinite ≡ true) × (is_bound (codes "exported_le", codes "1") ≡ false) × (without_bound (infinite ∷ path (codes "/a")) ≡ path (codes "/a")) × (bound_of (path (codes "/a")) ≡ [])
bounds = (refl, refl, refl, refl)

pub labels_compared : (labels_eq (path (codes "/a")) (path (codes "/a")) ≡ true) × (labels_eq (path (codes "/a")) (path (codes "/b")) ≡ false)
    × (labels_eq (path (codes "/a")) ((codes "way", codes "/a") ∷ []) ≡ false) × (labels_eq (path (codes "/a")) [] ≡ false)
labels_compared = (refl, refl, refl, refl)

-- ======== histograms ========
-- 4 values below are counted too
pub counted_up_to : counts_up_to formats.Prometheus 4 (pos 5 ∷ []) (1 ∷ 2 ∷ []) ≡ (signed_decimal (pos 5), pos 5) ∷ []
counted_up_to = refl

pub floats : counts_up_to formats.OpenMetrics 0 (negsuc 4 ∷ []) (1 ∷ 2 ∷ []) ≡ (signed_decimal (negsuc 4) ++ codes ".0", pos 1) ∷ []
floats = refl

pub counts_wrap : counts_up_to formats.Prometheus 18446744073709551615 (pos 5 ∷ []) (2 ∷ 0 ∷ []) ≡ (signed_decimal (pos 5), pos 1) ∷ []
counts_wrap = refl

pub counts_shown : (shown_count formats.Prometheus false (pos 3) ≡ Some (pos 3)) × (shown_count formats.OpenMetrics false (pos 3) ≡ None) × (shown_count formats.OpenMetrics true (pos 3) ≡ Some (pos 3))
counts_shown = (refl, refl, refl)

abbrev spread : List ℤ → HistogramDataPoint ℕ
spread edges = record { attributes = []; exemplars = []; bounds = edges; bucket_counts = 1 ∷ 2 ∷ 3 ∷ []; count = 6; min = None; max = None; sum = 70 }

pub spread_shown : shown_histogram unsigned formats.Prometheus true (spread (pos 5 ∷ []))
    ≡ record { buckets = (signed_decimal (pos 5), pos 1) ∷ (codes "+Inf", pos 6) ∷ []; sum = Some (pos 70); count = Some (pos 6) }
spread_shown = refl

-- beside a bound below 0 there is no sum, and in OpenMetrics no count
pub signed_bounds : shown_histogram unsigned formats.OpenMetrics true (spread (negsuc 4 ∷ []))
    ≡ record { buckets = (signed_decimal (negsuc 4) ++ codes ".0", pos 1) ∷ (codes "+Inf", pos 6) ∷ []; sum = None; count = None }
signed_bounds = refl

-- ======== collections ========
abbrev text_settings : Settings
text_settings = record { format = formats.Prometheus; has_scope_labels = false }

abbrev at_path : List ℕ → KeyValue
at_path value = record { key = codes "path"; value = values.String value }

abbrev sum_of : Temporality → List KeyValue → ℕ → AggregatedMetrics
sum_of t attributes n = numbers.U64 (data_of.Sum (record { data_points = record { attributes = attributes; exemplars = []; value = n } ∷ []; start_time = 1; time = 2; temporality = t; is_monotonic = true }))

abbrev metric_of : List ℕ → List ℕ → AggregatedMetrics → Metric
metric_of name unit content = record { name = name; description = []; unit = unit; content = content }

abbrev of_metrics : List Metric → ResourceMetrics
of_metrics metrics = record { resource = record { attributes = []; schema_url = None }; scope_metrics = record { scope = record { name = codes "shop"; version = None; schema_url = None; attributes = [] }; metrics = metrics } ∷ [] }

pub sum_shown : all_read text_settings (of_metrics (metric_of (codes "http.hits") (codes "By") (sum_of temporality.Cumulative (at_path (codes "/a") ∷ []) 3) ∷ []))
    ≡ value_of (codes "http_hits_bytes_total") (path (codes "/a")) 3 ∷ []
sum_shown = refl

pub gauge_shown : points_of text_settings (of_metrics (metric_of (codes "heat") (codes "Cel") (numbers.I64 (data_of.Gauge (record { data_points = record { attributes = []; exemplars = []; value = negsuc 3 } ∷ []; start_time = 0; time = 2 }))) ∷ []))
    ≡ record { name = codes "heat_celsius"; labels = []; content = number (negsuc 3) } ∷ []
gauge_shown = refl

pub histogram_shown : points_of text_settings (of_metrics (metric_of (codes "took") (codes "s") (numbers.U64 (data_of.Histogram (record { data_points = spread (pos 5 ∷ []) ∷ []; start_time = 1; time = 2; temporality = temporality.Cumulative; has_sum = true }))) ∷ []))
    ≡ record { name = codes "took_seconds"; labels = []; content = histogram (record { buckets = (signed_decimal (pos 5), pos 1) ∷ (codes "+Inf", pos 6) ∷ []; sum = Some (pos 70); count = Some (pos 6) }) } ∷ []
histogram_shown = refl

-- a second metric of the family adds its points to it, and one of another type has none
pub collection_shown : points_of text_settings (of_metrics (metric_of (codes "hits") [] (sum_of temporality.Cumulative [] 1) ∷ metric_of (codes "hits_created") [] (numbers.U64 (data_of.Gauge (record { data_points = record { attributes = []; exemplars = []; value = 9 } ∷ []; start_time = 0; time = 2 })))
    ∷ metric_of (codes "hits.total") [] (sum_of temporality.Cumulative (at_path (codes "/a") ∷ []) 2) ∷ []))
    ≡ value_of (codes "hits_total") [] 1 ∷ value_of (codes "hits_total") (path (codes "/a")) 2 ∷ []
collection_shown = refl

pub delta_hidden : points_of text_settings (of_metrics (metric_of (codes "hits") [] (sum_of temporality.Delta [] 1) ∷ [])) ≡ []
delta_hidden = refl

-- an empty label is none, so the second point has the labels of the first
pub doubled_once : points_of text_settings (of_metrics (metric_of (codes "hits") [] (sum_of temporality.Cumulative [] 1) ∷ metric_of (codes "hits.total") [] (sum_of temporality.Cumulative (at_path [] ∷ []) 2) ∷ []))
    ≡ value_of (codes "hits_total") [] 1 ∷ []
doubled_once = refl

pub target_shown : (target_points [] ≡ []) × (target_points ((codes "service_name", codes "shop") ∷ []) ≡ value_of (codes "target_info") ((codes "service_name", codes "shop") ∷ []) 1 ∷ [])
target_shown = (refl, refl)
