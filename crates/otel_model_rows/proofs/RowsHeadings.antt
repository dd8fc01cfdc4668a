-- Worked rows on whole collections: resource, scopes, headings, times, points, by the machine and read off the calls.
use Rattle.std.specs.Prelude.{ℕ, ℤ, pos, negsuc, true, false, List, [], ◌∷◌, ◌++◌, Some, None, codes}
use Rattle.std.proofs.Common.{refl}
use Rattle.otel_common.specs.Canonical.{canon}
use Rattle.otel_common.specs.declared.scopes.InstrumentationScope.{InstrumentationScope}
use Rattle.otel_data.specs.declared.aggregated.AggregatedMetrics.{AggregatedMetrics}
use Rattle.otel_data.specs.declared.aggregated.AggregatedMetrics.TheVariants.{U64, I64}
use Rattle.otel_data.specs.declared.aggregated.MetricData.{MetricData}
use Rattle.otel_data.specs.declared.aggregated.MetricData.TheVariants.{Gauge, Sum, Histogram}
use Rattle.otel_data.specs.declared.collections.Metric.{Metric}
use Rattle.otel_data.specs.declared.points.GaugeDataPoint.{GaugeDataPoint}
use Rattle.otel_data.specs.declared.points.HistogramDataPoint.{HistogramDataPoint}
use Rattle.otel_data.specs.declared.points.SumDataPoint.{SumDataPoint}
use Rattle.otel_model_stream.specs.Sets.{AttributeSet}
use Rattle.otel_model.specs.Calls as calls
use Rattle.otel_model.specs.Calls.{Text, About, Call, Meter, Build, Record, Collect}
use Rattle.otel_model.specs.Demands.{ExplicitBucketHistogram, StreamSpec, Views, Cumulative, Delta, LowMemory, ReaderAnswers, answers_by, nothing_said}
use Rattle.otel_model.specs.Resources.{Resource}
use Rattle.otel_model_rows.specs.Rows.{a, b, m, scope_named, about, with_own_bounds, u64, i64, x1, y1, pair, if_named, aggregating, cumulative, delta, low_memory, HasMoments, Gives, on, add, observe}

-- ======== what collections have ========
abbrev product : Resource
product = record { attributes = pair 97 1 ∷ []; schema_url = Some (codes "u") }

-- a scope with all its parts
abbrev library : InstrumentationScope
library = record { name = codes "l"; version = Some (codes "1.0"); schema_url = Some (codes "v"); attributes = pair 98 2 ∷ [] }

-- one without records
abbrev quiet : InstrumentationScope
quiet = scope_named (codes "q")

module _ {T : Type 0} where
  abbrev gauge_value : AttributeSet → T → GaugeDataPoint T
  gauge_value set value = record { attributes = set; exemplars = []; value = value }

  abbrev sum_value : AttributeSet → T → SumDataPoint T
  sum_value set value = record { attributes = set; exemplars = []; value = value }

  -- without min and max
  abbrev plain_value : List ℤ → AttributeSet → ℕ → T → List ℕ → HistogramDataPoint T
  plain_value bounds set count sum counts = record { attributes = set; exemplars = []; bounds = bounds; bucket_counts = counts; count = count; min = None; max = None; sum = sum }

  -- with them
  abbrev wide_value : List ℤ → AttributeSet → ℕ → T → T → T → List ℕ → HistogramDataPoint T
  wide_value bounds set count sum least greatest counts = record { attributes = set; exemplars = []; bounds = bounds; bucket_counts = counts; count = count; min = Some least; max = Some greatest; sum = sum }

  -- from the moment `start` to the moment `now`
  abbrev gauge_data : ℕ → ℕ → List (GaugeDataPoint T) → MetricData T
  gauge_data start now points = Gauge (record { data_points = points; start_time = start; time = now })

  abbrev rising_sum_data : ℕ → ℕ → List (SumDataPoint T) → MetricData T
  rising_sum_data start now points = Sum (record { data_points = points; start_time = start; time = now; temporality = Cumulative; is_monotonic = true })

  abbrev plain_sum_data : ℕ → ℕ → List (SumDataPoint T) → MetricData T
  plain_sum_data start now points = Sum (record { data_points = points; start_time = start; time = now; temporality = Cumulative; is_monotonic = false })

  abbrev rising_delta_data : ℕ → ℕ → List (SumDataPoint T) → MetricData T
  rising_delta_data start now points = Sum (record { data_points = points; start_time = start; time = now; temporality = Delta; is_monotonic = true })

  abbrev histogram_data : ℕ → ℕ → List (HistogramDataPoint T) → MetricData T
  histogram_data start now points = Histogram (record { data_points = points; start_time = start; time = now; temporality = Cumulative; has_sum = true })

  abbrev histogram_without_sums : ℕ → ℕ → List (HistogramDataPoint T) → MetricData T
  histogram_without_sums start now points = Histogram (record { data_points = points; start_time = start; time = now; temporality = Cumulative; has_sum = false })

  abbrev delta_histogram_data : ℕ → ℕ → List (HistogramDataPoint T) → MetricData T
  delta_histogram_data start now points = Histogram (record { data_points = points; start_time = start; time = now; temporality = Delta; has_sum = true })

abbrev metric_of : Text → Text → Text → AggregatedMetrics → Metric
metric_of name description unit content = record { name = name; description = description; unit = unit; content = content }

-- ======== the calls ========
-- an `i64` up-down counter, a `u64` histogram and an `i64` gauge
abbrev up_down : About
up_down = record { kind = calls.UpDownCounter; signed = true; name = codes "ud"; description = Some (codes "level"); unit = Some (codes "By"); bounds = None }

abbrev spreading : About
spreading = record { kind = calls.Histogram; signed = false; name = codes "h"; description = Some (codes "time"); unit = None; bounds = Some (pos 5 ∷ pos 10 ∷ []) }

abbrev level : About
level = record { kind = calls.Gauge; signed = true; name = codes "g"; description = None; unit = Some (codes "%"); bounds = None }

-- three meters. Their instruments are made in turn: those of the third have no records, and one of the first neither
abbrev begun : List Call
begun = Meter m ∷ Meter library ∷ Meter quiet
    ∷ Build (Some 1) up_down 100 ∷ Build (Some 0) (about calls.Counter b) 110 ∷ Build (Some 2) (about calls.Counter b) 120
    ∷ Build (Some 1) spreading 130 ∷ Build (Some 0) (about calls.Counter a) 140 ∷ Build (Some 0) level 150 ∷ Build (Some 1) (about calls.Counter b) 160 ∷ []

abbrev recorded : List Call
recorded = Record 6 (u64 8) [] ∷ Record 5 (i64 18446744073709551611 (negsuc 4)) x1 ∷ Record 3 (u64 5) [] ∷ Record 3 (u64 6) [] ∷ Record 1 (u64 4) y1 ∷ Record 0 (i64 3 (pos 3)) [] ∷ Record 1 (u64 1) [] ∷ []

-- two collections, with records between them
abbrev collected : List Call
collected = begun ++ (recorded ++ (Collect 0 200 [] ∷ Record 1 (u64 2) y1 ∷ Record 0 (i64 18446744073709551612 (negsuc 3)) [] ∷ Record 3 (u64 20) x1 ∷ Collect 0 300 [] ∷ []))

-- ======== a cumulative reader ========
-- the scopes in order of their meters, the metrics in order of their streams, the point without attributes first
pub whole_cumulative : Gives product [] cumulative collected
    (record {
      resource = product;
      scope_metrics =
          record {
            scope = m;
            metrics =
                metric_of b [] [] (U64 (rising_sum_data 110 200 (sum_value [] 1 ∷ sum_value y1 4 ∷ [])))
                ∷ metric_of (codes "g") [] (codes "%") (I64 (gauge_data 150 200 (gauge_value x1 (negsuc 4) ∷ [])))
                ∷ [];
          }
          ∷ record {
            scope = library;
            metrics =
                metric_of (codes "ud") (codes "level") (codes "By") (I64 (plain_sum_data 100 200 (sum_value [] (pos 3) ∷ [])))
                ∷ metric_of (codes "h") (codes "time") [] (U64 (histogram_data 130 200 (wide_value (pos 5 ∷ pos 10 ∷ []) [] 2 11 5 6 (1 ∷ 1 ∷ 0 ∷ []) ∷ [])))
                ∷ metric_of b [] [] (U64 (rising_sum_data 160 200 (sum_value [] 8 ∷ [])))
                ∷ [];
          }
          ∷ [];
    }
    ∷ record {
      resource = product;
      scope_metrics =
          record {
            scope = m;
            metrics =
                metric_of b [] [] (U64 (rising_sum_data 110 300 (sum_value [] 1 ∷ sum_value y1 6 ∷ [])))
                ∷ metric_of (codes "g") [] (codes "%") (I64 (gauge_data 150 300 (gauge_value x1 (negsuc 4) ∷ [])))
                ∷ [];
          }
          ∷ record {
            scope = library;
            metrics =
                metric_of (codes "ud") (codes "level") (codes "By") (I64 (plain_sum_data 100 300 (sum_value [] (negsuc 0) ∷ [])))
                ∷ metric_of (codes "h") (codes "time") [] (U64 (histogram_data 130 300 (wide_value (pos 5 ∷ pos 10 ∷ []) [] 2 11 5 6 (1 ∷ 1 ∷ 0 ∷ []) ∷ wide_value (pos 5 ∷ pos 10 ∷ []) x1 1 20 20 20 (0 ∷ 0 ∷ 1 ∷ []) ∷ [])))
                ∷ metric_of b [] [] (U64 (rising_sum_data 160 300 (sum_value [] 8 ∷ [])))
                ∷ [];
          }
          ∷ [];
    }
    ∷ [])
unfolding canon
whole_cumulative = (refl, refl)

-- ======== a delta reader ========
-- an up-down counter is cumulative all the same
pub whole_delta : Gives product [] delta collected
    (record {
      resource = product;
      scope_metrics =
          record {
            scope = m;
            metrics =
                metric_of b [] [] (U64 (rising_delta_data 110 200 (sum_value [] 1 ∷ sum_value y1 4 ∷ [])))
                ∷ metric_of (codes "g") [] (codes "%") (I64 (gauge_data 150 200 (gauge_value x1 (negsuc 4) ∷ [])))
                ∷ [];
          }
          ∷ record {
            scope = library;
            metrics =
                metric_of (codes "ud") (codes "level") (codes "By") (I64 (plain_sum_data 100 200 (sum_value [] (pos 3) ∷ [])))
                ∷ metric_of (codes "h") (codes "time") [] (U64 (delta_histogram_data 130 200 (wide_value (pos 5 ∷ pos 10 ∷ []) [] 2 11 5 6 (1 ∷ 1 ∷ 0 ∷ []) ∷ [])))
                ∷ metric_of b [] [] (U64 (rising_delta_data 160 200 (sum_value [] 8 ∷ [])))
                ∷ [];
          }
          ∷ [];
    }
    ∷ record {
      resource = product;
      scope_metrics =
          record { scope = m; metrics = metric_of b [] [] (U64 (rising_delta_data 200 300 (sum_value y1 2 ∷ []))) ∷ [] }
          ∷ record {
            scope = library;
            metrics =
                metric_of (codes "ud") (codes "level") (codes "By") (I64 (plain_sum_data 100 300 (sum_value [] (negsuc 0) ∷ [])))
                ∷ metric_of (codes "h") (codes "time") [] (U64 (delta_histogram_data 200 300 (wide_value (pos 5 ∷ pos 10 ∷ []) x1 1 20 20 20 (0 ∷ 0 ∷ 1 ∷ []) ∷ [])))
                ∷ [];
          }
          ∷ [];
    }
    ∷ [])
unfolding canon
whole_delta = (refl, refl)

-- ======== temporalities ========
abbrev three : List Call
three = Meter m ∷ Build (Some 0) (about calls.Counter a) 100 ∷ Build (Some 0) (about calls.UpDownCounter b) 100 ∷ Build (Some 0) (with_own_bounds [] (about calls.Histogram (codes "h"))) 100
    ∷ add 1 [] ∷ Record 1 (u64 2) [] ∷ Record 2 (u64 3) [] ∷ Collect 0 200 [] ∷ []

-- what a collection says is `Cumulative` or `Delta`. Without bounds there are no bucket counts
pub exported_low_memory : Gives product [] low_memory three
    (record {
      resource = product;
      scope_metrics =
          record {
            scope = m;
            metrics =
                metric_of a [] [] (U64 (rising_delta_data 100 200 (sum_value [] 1 ∷ [])))
                ∷ metric_of b [] [] (U64 (plain_sum_data 100 200 (sum_value [] 2 ∷ [])))
                ∷ metric_of (codes "h") [] [] (U64 (delta_histogram_data 100 200 (wide_value [] [] 1 3 3 3 [] ∷ [])))
                ∷ [];
          }
          ∷ [];
    }
    ∷ [])
unfolding canon
exported_low_memory = (refl, refl)

-- a reader that answers `LowMemory` itself has cumulative streams
abbrev low_answers : ReaderAnswers
low_answers = answers_by (λ kind. LowMemory)

pub exported_low_answers : Gives product [] low_answers three
    (record {
      resource = product;
      scope_metrics =
          record {
            scope = m;
            metrics =
                metric_of a [] [] (U64 (rising_sum_data 100 200 (sum_value [] 1 ∷ [])))
                ∷ metric_of b [] [] (U64 (plain_sum_data 100 200 (sum_value [] 2 ∷ [])))
                ∷ metric_of (codes "h") [] [] (U64 (histogram_data 100 200 (wide_value [] [] 1 3 3 3 [] ∷ [])))
                ∷ [];
          }
          ∷ [];
    }
    ∷ [])
unfolding canon
exported_low_answers = (refl, refl)

-- ======== views ========
-- a histogram with these bounds, without min and max
abbrev zero_ten : List ℤ
zero_ten = pos 0 ∷ pos 10 ∷ []

abbrev renamed : StreamSpec
renamed = record nothing_said { name = Some (codes "Seen"); description = Some (codes "D"); unit = Some (codes "m"); aggregation = Some (ExplicitBucketHistogram zero_ten false) }

-- what the view says stands in the place of what the instrument says; -3 falls below the bound 0
pub view_says : Gives product (if_named (codes "g") renamed ∷ []) cumulative (on level (Record 0 (i64 18446744073709551613 (negsuc 2)) [] ∷ Record 0 (i64 12 (pos 12)) [] ∷ Collect 0 200 [] ∷ []))
    (record {
      resource = product;
      scope_metrics =
          record { scope = m; metrics = metric_of (codes "Seen") (codes "D") (codes "m") (I64 (histogram_data 100 200 (plain_value zero_ten [] 2 (pos 9) (1 ∷ 0 ∷ 1 ∷ []) ∷ []))) ∷ [] }
          ∷ [];
    }
    ∷ [])
unfolding canon
view_says = (refl, refl)

-- what a view leaves out is the instrument's; a histogram of values that may fall keeps no sum
pub view_leaves : Gives product (if_named (codes "ud") (aggregating (ExplicitBucketHistogram zero_ten true)) ∷ []) cumulative (on up_down (Record 0 (i64 18446744073709551613 (negsuc 2)) [] ∷ Record 0 (i64 12 (pos 12)) [] ∷ Collect 0 200 [] ∷ []))
    (record {
      resource = product;
      scope_metrics =
          record { scope = m; metrics = metric_of (codes "ud") (codes "level") (codes "By") (I64 (histogram_without_sums 100 200 (wide_value zero_ten [] 2 (pos 0) (negsuc 2) (pos 12) (1 ∷ 0 ∷ 1 ∷ []) ∷ []))) ∷ [] }
          ∷ [];
    }
    ∷ [])
unfolding canon
view_leaves = (refl, refl)

-- ======== nothing to show ========
abbrev of_i64 : About → About
of_i64 i = record i { signed = true }

abbrev as_histogram : Views
as_histogram = if_named (codes "h") (aggregating (ExplicitBucketHistogram zero_ten true)) ∷ []

-- sums, gauges and histograms of both number types without records: no scopes
pub nothing_recorded : Gives product as_histogram cumulative (Meter m
    ∷ Build (Some 0) (about calls.Counter a) 100 ∷ Build (Some 0) (about calls.Gauge (codes "g")) 100 ∷ Build (Some 0) (about calls.Histogram (codes "h")) 100
    ∷ Build (Some 0) (of_i64 (about calls.UpDownCounter a)) 100 ∷ Build (Some 0) (of_i64 (about calls.Gauge (codes "g"))) 100 ∷ Build (Some 0) (of_i64 (about calls.Gauge (codes "h"))) 100
    ∷ Collect 0 200 [] ∷ [])
    (record { resource = product; scope_metrics = [] } ∷ [])
unfolding canon
nothing_recorded = (refl, refl)

-- ======== moments ========
-- the start of a delta stream moves without points too
pub drained_start : HasMoments [] (delta ∷ []) 0 delta (on (about calls.ObservableCounter a) (Collect 0 200 [] ∷ Collect 0 300 (observe 0 1 [] ∷ []) ∷ [])) ([] ∷ ((200, 300) ∷ []) ∷ [])
unfolding canon
drained_start = (refl, refl)

-- another reader's collection moves no start, and a stream that is made later starts at its build
pub later_start : HasMoments [] (delta ∷ delta ∷ []) 1 delta (on (about calls.Counter a) (Collect 0 150 [] ∷ Build (Some 0) (about calls.Counter b) 170 ∷ add 1 [] ∷ Record 1 (u64 1) [] ∷ Collect 1 200 [] ∷ []))
    (((100, 200) ∷ (170, 200) ∷ []) ∷ [])
unfolding canon
later_start = (refl, refl)

-- a second build of a stream leaves its start, and moments may come in any order
pub first_start : HasMoments [] (delta ∷ []) 0 delta (on (about calls.Counter a) (Build (Some 0) (about calls.Counter a) 500 ∷ add 1 [] ∷ Collect 0 90 [] ∷ add 1 [] ∷ Collect 0 40 [] ∷ [])) (((100, 90) ∷ []) ∷ ((90, 40) ∷ []) ∷ [])
unfolding canon
first_start = (refl, refl)
