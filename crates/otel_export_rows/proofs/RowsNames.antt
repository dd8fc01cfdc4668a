-- Worked rows on the names of families and of their samples (Prometheus and OpenMetrics Compatibility, "Metric Metadata").
use Rattle.std.specs.Prelude.{◌≡◌, ℕ, true, false, List, [], ◌∷◌, Option, Some, None, codes, option_map}
use Rattle.std.proofs.Common.{refl}
use Rattle.otel_common.specs.declared.metrics.Temporality.TheVariants as temporality
use Rattle.otel_data.specs.declared.aggregated.AggregatedMetrics.{AggregatedMetrics}
use Rattle.otel_data.specs.declared.aggregated.AggregatedMetrics.TheVariants as numbers
use Rattle.otel_data.specs.declared.aggregated.MetricData.TheVariants as data_of
use Rattle.otel_data.specs.declared.collections.Metric.{Metric}
use Rattle.otel_prometheus.specs.Groups.{sample_names}
use Rattle.otel_prometheus.specs.Headings.{heading_of}
use Rattle.otel_prometheus.specs.Units.{unit_suffix}

abbrev counter : AggregatedMetrics
counter = numbers.U64 (data_of.Sum (record { data_points = []; start_time = 1; time = 2; temporality = temporality.Cumulative; is_monotonic = true }))

abbrev gauge : AggregatedMetrics
gauge = numbers.I64 (data_of.Gauge (record { data_points = []; start_time = 1; time = 2 }))

abbrev spread : AggregatedMetrics
spread = numbers.U64 (data_of.Histogram (record { data_points = []; start_time = 1; time = 2; temporality = temporality.Cumulative; has_sum = true }))

abbrev metric_of : AggregatedMetrics → List ℕ → List ℕ → Metric
metric_of content name unit = record { name = name; description = []; unit = unit; content = content }

abbrev family_of : AggregatedMetrics → List ℕ → List ℕ → Option (List ℕ)
family_of content name unit = option_map (λ h. h.name) (heading_of (metric_of content name unit))

-- whether the family of a metric of this name and unit has this name
abbrev IsNamed : AggregatedMetrics → List ℕ → List ℕ → List ℕ → Type 0
IsNamed content name unit family = family_of content name unit ≡ Some family

abbrev samples_of : AggregatedMetrics → List ℕ → Option (List (List ℕ))
samples_of content name = option_map sample_names (heading_of (metric_of content name []))

-- ======== names ========
-- an end stands behind the names of counters and histograms
pub no_gap_before_an_end : IsNamed counter (codes "x-") [] (codes "x") × IsNamed counter (codes "x_") [] (codes "x") × IsNamed counter (codes "x--") [] (codes "x") × IsNamed spread (codes "x.") [] (codes "x")
no_gap_before_an_end = (refl, refl, refl, refl)

pub ends_of_samples : (samples_of counter (codes "x-") ≡ Some (codes "x_total" ∷ codes "x_created" ∷ []))
    × (samples_of spread (codes "x-") ≡ Some (codes "x_bucket" ∷ codes "x_sum" ∷ codes "x_count" ∷ codes "x_created" ∷ []))
    × (samples_of gauge (codes "x-") ≡ Some [])
ends_of_samples = (refl, refl, refl)

pub gap_at_the_end : IsNamed gauge (codes "x-") [] (codes "x_") × IsNamed gauge (codes "x_") [] (codes "x_") × IsNamed gauge (codes "x__") (codes "[]") (codes "x_")
gap_at_the_end = (refl, refl, refl)

pub no_gap_before_a_unit : IsNamed gauge (codes "x-") (codes "s") (codes "x_seconds") × IsNamed gauge (codes "x_seconds_") (codes "s") (codes "x_seconds") × IsNamed gauge (codes "-") (codes "s") (codes "_seconds")
    × IsNamed counter (codes "x-") (codes "s") (codes "x_seconds")
no_gap_before_a_unit = (refl, refl, refl, refl)

pub total_once : IsNamed counter (codes "x.total") [] (codes "x") × IsNamed counter (codes "x_total") [] (codes "x") × IsNamed counter (codes "x._total") [] (codes "x") × IsNamed gauge (codes "x.total") [] (codes "x_total")
total_once = (refl, refl, refl, refl)

pub nothing_left : IsNamed counter (codes "_total") [] (codes "_") × IsNamed counter (codes "-") [] (codes "_") × IsNamed counter (codes "_total") (codes "s") (codes "_seconds") × IsNamed gauge [] [] (codes "_")
nothing_left = (refl, refl, refl, refl)

pub names_made_valid : IsNamed gauge (codes "a.b-c/d") [] (codes "a_b_c_d") × IsNamed gauge (codes "a..b__c") [] (codes "a_b_c") × IsNamed gauge (codes "1a") [] (codes "_1a") × IsNamed counter (codes "1_total") [] (codes "_1")
    × IsNamed gauge (codes "a:b") [] (codes "a:b")
names_made_valid = (refl, refl, refl, refl, refl)

pub not_shown : family_of (numbers.U64 (data_of.Sum (record { data_points = []; start_time = 1; time = 2; temporality = temporality.Delta; is_monotonic = true }))) (codes "x") [] ≡ None
not_shown = refl

-- ======== units ========
pub units_in_words : IsNamed counter (codes "requests") (codes "By") (codes "requests_bytes") × IsNamed counter (codes "requests_bytes_total") (codes "By") (codes "requests_bytes") × IsNamed spread (codes "x") (codes "m/s") (codes "x_meters_per_second")
    × IsNamed gauge (codes "y.seconds") (codes "s") (codes "y_seconds")
units_in_words = (refl, refl, refl, refl)

pub units_as_names : IsNamed counter (codes "x") (codes "[pH]") (codes "x_pH") × IsNamed gauge (codes "x") (codes "mm[Hg]") (codes "x_mm_Hg") × IsNamed gauge (codes "x") (codes "10") (codes "x_10") × IsNamed counter (codes "x") (codes "[]") (codes "x")
    × IsNamed gauge (codes "x") (codes "[a]/[b]") (codes "x_a_per_b") × IsNamed gauge (codes "x") (codes "lx:s") (codes "x_lx_s")
units_as_names = (refl, refl, refl, refl, refl, refl)

pub notes_dropped : (unit_suffix false (codes "By{sent}") ≡ codes "_bytes") × (unit_suffix false (codes "{packet}") ≡ []) × (unit_suffix false (codes "{packet}/s") ≡ codes "_per_second") × (unit_suffix false (codes "{a/b}") ≡ [])
    × (unit_suffix false (codes "By{a}/s{b}") ≡ codes "_bytes_per_second") × (unit_suffix false (codes "lm/{car}") ≡ codes "_lm") × (unit_suffix false (codes "By{sent") ≡ codes "_bytes") × (unit_suffix false (codes "{a}By{b}") ≡ codes "_bytes")
notes_dropped = (refl, refl, refl, refl, refl, refl, refl, refl)

pub counts : (unit_suffix false (codes "1") ≡ []) × (unit_suffix true (codes "1") ≡ codes "_ratio") × (unit_suffix false (codes "1{x}") ≡ []) × (unit_suffix true (codes "1{x}") ≡ codes "_ratio") × (unit_suffix true (codes "{x}") ≡ [])
    × (unit_suffix true (codes "1/d") ≡ codes "_per_day") × (unit_suffix false (codes "By/1") ≡ codes "_bytes")
counts = (refl, refl, refl, refl, refl, refl, refl)

pub ratios : IsNamed gauge (codes "x") (codes "1") (codes "x_ratio") × IsNamed counter (codes "x") (codes "1") (codes "x") × IsNamed spread (codes "x") (codes "1") (codes "x") × IsNamed counter (codes "x") (codes "{packet}/s") (codes "x_per_second")
ratios = (refl, refl, refl, refl)

pub without_a_unit : unit_suffix true [] ≡ []
without_a_unit = refl
