-- What the worked rows of a provider are written in: instruments, values, sets, views and readers, and what is seen of collections.
use Rattle.std.specs.Prelude.{◌≡◌, ℕ, zero, suc, ◌+◌, ℤ, pos, Bool, true, false, cond, List, [], ◌∷◌, ◌++◌, map, Option, Some, None}
use Rattle.std.specs.Option.{option_map}
use Rattle.otel_common.specs.Equality.{bytes_eq}
use Rattle.otel_common.specs.declared.attributes.KeyValue.{KeyValue}
use Rattle.otel_common.specs.declared.attributes.Value.TheVariants as value
use Rattle.otel_common.specs.declared.scopes.InstrumentationScope.{InstrumentationScope}
use Rattle.otel_data.specs.declared.aggregated.AggregatedMetrics.{AggregatedMetrics}
use Rattle.otel_data.specs.declared.aggregated.MetricData.{MetricData}
use Rattle.otel_data.specs.declared.collections.Metric.{Metric}
use Rattle.otel_data.specs.declared.collections.ResourceMetrics.{ResourceMetrics}
use Rattle.otel_data.specs.declared.collections.ScopeMetrics.{ScopeMetrics}
use Rattle.otel_data.specs.declared.points.GaugeDataPoint.{GaugeDataPoint}
use Rattle.otel_data.specs.declared.points.HistogramDataPoint.{HistogramDataPoint}
use Rattle.otel_data.specs.declared.points.SumDataPoint.{SumDataPoint}
use Rattle.otel_model_stream.specs.Sets.{AttributeSet}
use Rattle.otel_model.specs.Resources.{Resource, empty_resource}
use Rattle.otel_model.specs.Calls.{Text, InstrumentKind, kind_number, Number, About, Observed, Call, Meter, Build, Record, Reply}
use Rattle.otel_model.specs.Demands.{Aggregation, StreamSpec, View, Views, Answer, ReaderAnswers, Temporality, Cumulative, Delta, LowMemory, answers_preferring, nothing_said}
use Rattle.otel_model.specs.Machine.{changed_at, new_state}
use Rattle.otel_model.specs.Steps.{replies_of}
use Rattle.otel_model.specs.History.{collections_of, given_collections, made_calls}

-- ======== instruments and values ========
abbrev pub a : Text
a = 97 ∷ []

abbrev pub b : Text
b = 98 ∷ []

abbrev pub scope_named : Text → InstrumentationScope
scope_named name = record { name = name; version = None; schema_url = None; attributes = [] }

abbrev pub m : InstrumentationScope
m = scope_named (109 ∷ [])

abbrev pub about : InstrumentKind → Text → About
about kind name = record { kind = kind; signed = false; name = name; description = None; unit = None; bounds = None }

abbrev pub with_own_bounds : List ℤ → About → About
with_own_bounds bounds i = record i { bounds = Some bounds }

abbrev pub u64 : ℕ → Number
u64 n = record { signed = false; amount = record { bits = n; wide = pos n } }

abbrev pub i64 : ℕ → ℤ → Number
i64 bits wide = record { signed = true; amount = record { bits = bits; wide = wide } }

-- this many numbers in a row, from the second one on
abbrev pub up_from : ℕ → ℕ → List ℕ
up_from zero n = []
up_from (suc k) n = n ∷ up_from k (n + 1)

-- all bytes
abbrev pub bytes : List ℕ
bytes = up_from 256 0

-- ======== sets ========
abbrev pub is_1 : ℕ → List KeyValue
is_1 key = record { key = key ∷ []; value = value.I64 (pos 1) } ∷ []

abbrev pub x1 : List KeyValue
x1 = is_1 120

abbrev pub y1 : List KeyValue
y1 = is_1 121

abbrev pub z1 : List KeyValue
z1 = is_1 122

abbrev pub pair : ℕ → ℕ → KeyValue
pair key n = record { key = key ∷ []; value = value.I64 (pos n) }

-- ======== views ========
-- for instruments of this name
abbrev pub if_named : Text → StreamSpec → View
if_named name spec i = cond (bytes_eq name i.name) (Some spec) None

abbrev pub limited : ℕ → StreamSpec
limited n = record nothing_said { limit = Some n }

abbrev pub limit_1 : Views
limit_1 = if_named a (limited 1) ∷ []

abbrev pub named : Text → StreamSpec
named name = record nothing_said { name = Some name }

abbrev pub aggregating : Aggregation → StreamSpec
aggregating aggregation = record nothing_said { aggregation = Some aggregation }

-- ======== readers ========
abbrev pub cumulative : ReaderAnswers
cumulative = answers_preferring Cumulative

abbrev pub delta : ReaderAnswers
delta = answers_preferring Delta

abbrev pub low_memory : ReaderAnswers
low_memory = answers_preferring LowMemory

abbrev pub but_for : InstrumentKind → (Answer → Answer) → ReaderAnswers → ReaderAnswers
but_for kind f answers = changed_at (kind_number kind) f answers

abbrev pub limit_of : ℕ → Answer → Answer
limit_of n answer = record answer { limit = Some n }

abbrev pub default_of : Aggregation → Answer → Answer
default_of aggregation answer = record answer { aggregation = Some aggregation }

-- ======== what is seen ========
-- how the records of a set spread
pub record SeenSpread : Type 0 where
  pub bounds : List ℤ
  pub counts : List ℕ
  pub count : ℕ
  pub sum : ℤ
  pub least : Option ℤ
  pub greatest : Option ℤ

-- the points of a metric, as whole numbers
pub data SeenPoints : Type 0 where
  Gauge : (points : List (AttributeSet × ℤ)) → SeenPoints
  Sum : (temporality : Temporality) (is_monotonic : Bool) (points : List (AttributeSet × ℤ)) → SeenPoints
  Histogram : (temporality : Temporality) (points : List (AttributeSet × SeenSpread)) → SeenPoints

module _ {T : Type 0} (whole : T → ℤ) where
  abbrev seen_gauge_point : GaugeDataPoint T → AttributeSet × ℤ
  seen_gauge_point p = (p.attributes, whole p.value)

  abbrev seen_sum_point : SumDataPoint T → AttributeSet × ℤ
  seen_sum_point p = (p.attributes, whole p.value)

  abbrev seen_histogram_point : HistogramDataPoint T → AttributeSet × SeenSpread
  seen_histogram_point p = (
    p.attributes,
    record {
      bounds = p.bounds;
      counts = p.bucket_counts;
      count = p.count;
      sum = whole p.sum;
      least = option_map whole p.min;
      greatest = option_map whole p.max;
    },
  )

  abbrev seen_data : MetricData T → SeenPoints
  seen_data (MetricData.Gauge gauge) = SeenPoints.Gauge (map seen_gauge_point gauge.data_points)
  seen_data (MetricData.Sum sum) = SeenPoints.Sum sum.temporality sum.is_monotonic (map seen_sum_point sum.data_points)
  seen_data (MetricData.Histogram histogram) = SeenPoints.Histogram histogram.temporality (map seen_histogram_point histogram.data_points)

-- of either number type
abbrev pub seen_points : AggregatedMetrics → SeenPoints
seen_points (AggregatedMetrics.U64 points) = seen_data (λ n. pos n) points
seen_points (AggregatedMetrics.I64 points) = seen_data (λ z. z) points

-- a metric's name and its points
abbrev pub Seen : Type 0
Seen = List (Text × SeenPoints)

abbrev pub flat : {X : Type 0} → List (List X) → List X
flat [] = []
flat (x ∷ xs) = x ++ flat xs

abbrev pub seen_metric : Metric → Text × SeenPoints
seen_metric x = (x.name, seen_points x.content)

abbrev pub seen : ResourceMetrics → Seen
seen c = flat (map (λ (s : ScopeMetrics). map seen_metric s.metrics) c.scope_metrics)

-- the replies of the machine of a provider with this resource
abbrev pub replies_at : Resource → Views → List ReaderAnswers → List Call → List Reply
replies_at resource views readers calls = replies_of views (new_state resource 0 readers) calls

-- reader r's collections by the machine
abbrev given_at : Resource → Views → List ReaderAnswers → ℕ → List Call → List ResourceMetrics
given_at resource views readers r calls = given_collections r calls (replies_at resource views readers calls)

-- and as they are read off the calls that count by these replies
abbrev read_at : Resource → Views → List ReaderAnswers → ℕ → ReaderAnswers → List Call → List ResourceMetrics
read_at resource views readers r answers calls = collections_of views resource answers r (made_calls calls (replies_at resource views readers calls))

-- both are these collections of the only reader
abbrev pub Gives : Resource → Views → ReaderAnswers → List Call → List ResourceMetrics → Type 0
Gives resource views answers calls collections = (given_at resource views (answers ∷ []) 0 calls ≡ collections) × (read_at resource views (answers ∷ []) 0 answers calls ≡ collections)

-- where the resource is empty
abbrev pub replies : Views → List ReaderAnswers → List Call → List Reply
replies views readers calls = replies_at empty_resource views readers calls

abbrev by_machine : Views → List ReaderAnswers → ℕ → List Call → List ResourceMetrics
by_machine views readers r calls = given_at empty_resource views readers r calls

abbrev by_windows : Views → List ReaderAnswers → ℕ → ReaderAnswers → List Call → List ResourceMetrics
by_windows views readers r answers calls = read_at empty_resource views readers r answers calls

-- both show this of reader r, whose answers are `answers`
abbrev pub Shows : Views → List ReaderAnswers → ℕ → ReaderAnswers → List Call → List Seen → Type 0
Shows views readers r answers calls collections = (map seen (by_machine views readers r calls) ≡ collections) × (map seen (by_windows views readers r answers calls) ≡ collections)

-- of the only reader
abbrev pub AloneShows : Views → ReaderAnswers → List Call → List Seen → Type 0
AloneShows views answers calls collections = Shows views (answers ∷ []) 0 answers calls collections

-- start and time
abbrev data_moments : {T : Type 0} → MetricData T → ℕ × ℕ
data_moments (MetricData.Gauge gauge) = (gauge.start_time, gauge.time)
data_moments (MetricData.Sum sum) = (sum.start_time, sum.time)
data_moments (MetricData.Histogram histogram) = (histogram.start_time, histogram.time)

abbrev metric_moments : AggregatedMetrics → ℕ × ℕ
metric_moments (AggregatedMetrics.U64 points) = data_moments points
metric_moments (AggregatedMetrics.I64 points) = data_moments points

-- of each metric
abbrev pub moments : ResourceMetrics → List (ℕ × ℕ)
moments c = flat (map (λ (s : ScopeMetrics). map (λ (x : Metric). metric_moments x.content) s.metrics) c.scope_metrics)

abbrev pub HasMoments : Views → List ReaderAnswers → ℕ → ReaderAnswers → List Call → List (List (ℕ × ℕ)) → Type 0
HasMoments views readers r answers calls times = (map moments (by_machine views readers r calls) ≡ times) × (map moments (by_windows views readers r answers calls) ≡ times)

-- one metric
abbrev pub one : Text → SeenPoints → Seen
one name points = (name, points) ∷ []

abbrev natural_points : List (AttributeSet × ℕ) → List (AttributeSet × ℤ)
natural_points points = map (λ (p : AttributeSet × ℕ). let q : AttributeSet × ℤ = (p.0, pos p.1) in q) points

-- of a counter
abbrev pub delta_sum : List (AttributeSet × ℕ) → SeenPoints
delta_sum points = SeenPoints.Sum Delta true (natural_points points)

abbrev pub cumulative_sum : List (AttributeSet × ℕ) → SeenPoints
cumulative_sum points = SeenPoints.Sum Cumulative true (natural_points points)

-- of an up-down counter
abbrev pub plain_sum : List (AttributeSet × ℕ) → SeenPoints
plain_sum points = SeenPoints.Sum Cumulative false (natural_points points)

abbrev pub last_values : List (AttributeSet × ℕ) → SeenPoints
last_values points = SeenPoints.Gauge (natural_points points)

-- a histogram of one set
abbrev pub cumulative_histogram : AttributeSet → SeenSpread → SeenPoints
cumulative_histogram set s = SeenPoints.Histogram Cumulative ((set, s) ∷ [])

abbrev pub delta_histogram : AttributeSet → SeenSpread → SeenPoints
delta_histogram set s = SeenPoints.Histogram Delta ((set, s) ∷ [])

-- without min and max
abbrev pub plain_spread : List ℤ → ℕ → ℕ → List ℕ → SeenSpread
plain_spread bounds count sum counts = record { bounds = bounds; counts = counts; count = count; sum = pos sum; least = None; greatest = None }

-- with them
abbrev pub spread : List ℤ → ℕ → ℕ → ℕ → ℕ → List ℕ → SeenSpread
spread bounds count sum least greatest counts = record { bounds = bounds; counts = counts; count = count; sum = pos sum; least = Some (pos least); greatest = Some (pos greatest) }

-- calls on one meter and one instrument
abbrev pub on : About → List Call → List Call
on i calls = Meter m ∷ Build (Some 0) i 100 ∷ calls

abbrev pub add : ℕ → List KeyValue → Call
add n attributes = Record 0 (u64 n) attributes

abbrev pub observe : ℕ → ℕ → List KeyValue → Observed
observe instrument n attributes = record { instrument = instrument; value = u64 n; attributes = attributes }
