-- What kind of stream a demand makes (Metrics SDK, "Aggregation" and "MetricReader").
use Rattle.std.specs.Prelude.{Bool, true, false, cond, ◌&&◌, ◌||◌}
use Rattle.otel_model_stream.specs.Folds.{Aggregate}
use Rattle.otel_model_stream.specs.Events.{Kind}
use Rattle.otel_model.specs.Calls.{InstrumentKind, Counter, UpDownCounter, Histogram, ObservableCounter, ObservableUpDownCounter, Gauge, ObservableGauge}
use Rattle.otel_model.specs.Demands.{Aggregation, Drop, Default, Sum, LastValue, ExplicitBucketHistogram, ReaderAnswers, answer_for, resets, Demand}

-- whether the aggregation is a sum
abbrev pub is_sum : Aggregation → Bool
is_sum Drop = false
is_sum Default = false
is_sum Sum = true
is_sum LastValue = false
is_sum (ExplicitBucketHistogram bounds m) = false

-- whether it is a last value
abbrev pub is_last_value : Aggregation → Bool
is_last_value Drop = false
is_last_value Default = false
is_last_value Sum = false
is_last_value LastValue = true
is_last_value (ExplicitBucketHistogram bounds m) = false

-- whether observations are sums already: those of asynchronous counters and up-down counters are
abbrev pub observes_sums : InstrumentKind → Bool
observes_sums Counter = false
observes_sums UpDownCounter = false
observes_sums Histogram = false
observes_sums ObservableCounter = true
observes_sums ObservableUpDownCounter = true
observes_sums Gauge = false
observes_sums ObservableGauge = false

-- whether observations are current values: those of asynchronous gauges are
abbrev pub observes_last_values : InstrumentKind → Bool
observes_last_values Counter = false
observes_last_values UpDownCounter = false
observes_last_values Histogram = false
observes_last_values ObservableCounter = false
observes_last_values ObservableUpDownCounter = false
observes_last_values Gauge = false
observes_last_values ObservableGauge = true

-- whether each collection empties the stream: it is a sum of observations that are sums already
abbrev pub is_drained : Demand → Bool
is_drained d = is_sum d.aggregation && observes_sums d.identity.kind

-- whether the stream resets whatever its reader answers: it is a last value of an asynchronous gauge
abbrev pub always_resets : Demand → Bool
always_resets d = is_last_value d.aggregation && observes_last_values d.identity.kind

-- whether it is a delta stream: the temporality that its reader answers for the kind resets, or it always resets
abbrev pub is_delta : ReaderAnswers → Demand → Bool
is_delta answers d = resets (answer_for answers d.identity.kind).temporality || always_resets d

-- what a collection does to the stream
abbrev pub kind_of : ReaderAnswers → Demand → Kind
kind_of answers d = cond (is_drained d) Kind.Drained (cond (is_delta answers d) Kind.Delta Kind.Cumulative)

-- whether a histogram of this kind's measurements has a sum: not for up-down counters, synchronous or asynchronous, nor
-- for asynchronous gauges (Metrics SDK, "Histogram Aggregations")
abbrev pub has_sum : InstrumentKind → Bool
has_sum Counter = true
has_sum UpDownCounter = false
has_sum Histogram = true
has_sum ObservableCounter = true
has_sum ObservableUpDownCounter = false
has_sum Gauge = true
has_sum ObservableGauge = false

-- how a stream aggregates: a drained sum keeps the last value. `Drop` and `Default` make no stream; they count as sums
abbrev pub aggregate_from : Bool → InstrumentKind → Aggregation → Aggregate
aggregate_from drained kind Sum = cond drained Aggregate.LastValue Aggregate.Sum
aggregate_from drained kind LastValue = Aggregate.LastValue
aggregate_from drained kind (ExplicitBucketHistogram bounds m) = Aggregate.Histogram bounds m (has_sum kind)
aggregate_from drained kind Drop = Aggregate.Sum
aggregate_from drained kind Default = Aggregate.Sum

-- how the stream of a demand aggregates
abbrev pub aggregate_of : Demand → Aggregate
aggregate_of d = aggregate_from (is_drained d) d.identity.kind d.aggregation

-- whether a sum of this kind is monotonic
abbrev pub is_monotonic_kind : InstrumentKind → Bool
is_monotonic_kind Counter = true
is_monotonic_kind UpDownCounter = false
is_monotonic_kind Histogram = true
is_monotonic_kind ObservableCounter = true
is_monotonic_kind ObservableUpDownCounter = false
is_monotonic_kind Gauge = false
is_monotonic_kind ObservableGauge = false
