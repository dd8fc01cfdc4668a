-- What a reader was given, read off the replies themselves, against what was recorded (Metrics SDK, "Collect"; Metrics
-- data model, "Temporality").
use Rattle.std.specs.Prelude.{◌≡◌, ℕ, ◌+◌, Bool, true, false, cond, ◌&&◌, List, [], ◌∷◌, filter, sum_by}
use Rattle.std.specs.Bool.{beq}
use Rattle.otel_common.specs.Equality.{bytes_eq}
use Rattle.otel_common.specs.Scopes.{scope_eq}
use Rattle.otel_common.specs.Temporalities.{resets}
use Rattle.otel_common.specs.declared.scopes.InstrumentationScope.{InstrumentationScope}
use Rattle.otel_data.specs.declared.aggregated.AggregatedMetrics.{AggregatedMetrics}
use Rattle.otel_data.specs.declared.aggregated.MetricData.{MetricData}
use Rattle.otel_data.specs.declared.collections.Metric.{Metric}
use Rattle.otel_data.specs.declared.collections.ResourceMetrics.{ResourceMetrics}
use Rattle.otel_data.specs.declared.collections.ScopeMetrics.{ScopeMetrics}
use Rattle.otel_model_stream.specs.Folds.{wrap}
use Rattle.otel_model_stream.specs.Machine.{points}
use Rattle.otel_model_stream.specs.Totals.{points_total}
use Rattle.otel_model.specs.Answered.{metric_total}
use Rattle.otel_model.specs.Calls.{Text, Call, Reply}
use Rattle.otel_model.specs.Demands.{Demand, Views, ReaderAnswers}
use Rattle.otel_model.specs.History.{made_calls, builds_in, streams_of, given_collections}
use Rattle.otel_model.specs.Laws.{OfReader, OfStream, OfEachReader, OfEachStream}
use Rattle.otel_model.specs.State.{Stream, ReaderPart}
use Rattle.otel_model.specs.Streams.{is_drained, kind_of}
use Rattle.otel_model.specs.Totals.{recorded_in}
use Rattle.otel_model.specs.Lawful.{EachOf}

-- ======== headings ========
-- by what a metric is found in a collection: its scope, name, description, unit, and whether its values are signed
pub record Heading : Type 0 where
  pub scope : InstrumentationScope
  pub name : Text
  pub description : Text
  pub unit : Text
  pub signed : Bool

-- whether two headings are the same
abbrev pub heading_eq : Heading → Heading → Bool
heading_eq a b = scope_eq a.scope b.scope && (bytes_eq a.name b.name && (bytes_eq a.description b.description && (bytes_eq a.unit b.unit && beq a.signed b.signed)))

-- whether values are signed
abbrev pub are_signed : AggregatedMetrics → Bool
are_signed (AggregatedMetrics.U64 points) = false
are_signed (AggregatedMetrics.I64 points) = true

-- the heading of a metric in a scope
abbrev pub metric_heading : InstrumentationScope → Metric → Heading
metric_heading scope m = record { scope = scope; name = m.name; description = m.description; unit = m.unit; signed = are_signed m.content }

-- the heading of a stream's metrics
abbrev pub stream_heading : Demand → Heading
stream_heading d = record { scope = d.identity.scope; name = d.spelling; description = d.identity.description; unit = d.identity.unit; signed = d.identity.signed }

-- ======== given ========
-- whether points show only what came after the collection before; those of a gauge do not
abbrev pub is_delta_data : {T : Type 0} → MetricData T → Bool
is_delta_data (MetricData.Gauge gauge) = false
is_delta_data (MetricData.Sum sum) = resets sum.temporality
is_delta_data (MetricData.Histogram histogram) = resets histogram.temporality

-- the same for either number type
abbrev pub are_deltas : AggregatedMetrics → Bool
are_deltas (AggregatedMetrics.U64 points) = is_delta_data points
are_deltas (AggregatedMetrics.I64 points) = is_delta_data points

-- what a metric gives for good: the total of its points if they are deltas; nothing otherwise, since cumulative points
-- come again
abbrev pub given_by : Metric → ℕ
given_by m = cond (are_deltas m.content) (metric_total m) 0

-- what the metrics of a collection give under this heading
abbrev pub given_under : Heading → ResourceMetrics → ℕ
given_under h c = sum_by (λ (s : ScopeMetrics). sum_by (λ (m : Metric). cond (heading_eq (metric_heading s.scope m) h) (given_by m) 0) s.metrics) c.scope_metrics

-- what all collections gave under it that reader r was answered with
abbrev pub total_given : ℕ → List Call → List Reply → Heading → ℕ
total_given r calls replies h = sum_by (given_under h) (given_collections r calls replies)

-- ======== recorded, pending ========
-- the demands of the streams with this heading, read off the builds among these calls. There is more than one only if
-- their identities differ in nothing but the kind
abbrev pub demanded_under : Views → ReaderAnswers → List Call → Heading → List Demand
demanded_under views answers calls h = filter (λ (d : Demand). heading_eq (stream_heading d) h) (streams_of views answers (builds_in calls))

-- what was recorded into these streams
abbrev pub total_recorded : Views → ReaderAnswers → ℕ → List Call → Heading → ℕ
total_recorded views answers r calls h = sum_by (λ (d : Demand). recorded_in views answers r d calls) (demanded_under views answers calls h)

-- the streams with this heading, of the state
abbrev pub streams_under : Heading → ReaderPart → List Stream
streams_under h part = filter (λ (s : Stream). heading_eq (stream_heading s.demand) h) part.streams

-- what a stream holds: the total of the points that it would show now
abbrev pub pending_in : ReaderAnswers → Stream → ℕ
pending_in answers s = points_total (points (kind_of answers s.demand) s.machine)

-- what these streams hold
abbrev pub total_pending : ReaderPart → Heading → ℕ
total_pending part h = sum_by (pending_in part.answers) (streams_under h part)

-- ======== given or pending ========
-- under each heading, unless a drained stream has it, what was recorded is what the reader was given plus what is
-- pending, modulo 2^64: the first read off the calls made, the second off the replies, the third off the state
abbrev pub IsGivenOrPending : OfReader
IsGivenOrPending views resource calls replies new r answers part = (h : Heading) → EachOf (λ (d : Demand). is_drained d ≡ false) (demanded_under views answers (made_calls calls replies) h)
    → wrap (total_recorded views answers r (made_calls calls replies) h) ≡ wrap (total_given r calls replies h + total_pending part h)

-- so it is for each reader after each run
abbrev pub AllIsGivenOrPending : Type 0
AllIsGivenOrPending = OfEachReader IsGivenOrPending

-- of a stream that shares its heading with no other: what it recorded is what the reader was given under its heading
-- plus what it holds, modulo 2^64
abbrev pub GivesOrHolds : OfStream
GivesOrHolds views calls replies new r answers part s =
    is_drained s.demand ≡ false → streams_under (stream_heading s.demand) part ≡ s ∷ []
    → wrap (recorded_in views answers r s.demand (made_calls calls replies)) ≡ wrap (total_given r calls replies (stream_heading s.demand) + pending_in answers s)

-- so it is for each stream after each run
abbrev pub EachGivesOrHolds : Type 0
EachGivesOrHolds = OfEachStream GivesOrHolds
