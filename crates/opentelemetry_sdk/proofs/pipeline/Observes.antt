-- Observations that are taken in stream by stream, and a collection after them, are the model's collection.
use Rattle.std.proofs.Common.{◌≡◌, ℕ, Bool, true, false, List, [], ◌∷◌, map, fold, refl, sym, ◌∙◌, ap, subst, arith}
use Rattle.std.proofs.lemmas.List.{map-id}
use Rattle.std.proofs.lemmas.List.Elements.{All-tail}
use Rattle.std.proofs.lemmas.Simd.{map-map}
use Rattle.otel_stream.specs.declared.observation.Observed.{Observed}
use Rattle.otel_common.specs.declared.resource.Resource.{Resource}
use Rattle.otel_common.specs.declared.scopes.InstrumentationScope.{InstrumentationScope}
use Rattle.otel_data.specs.declared.collections.ResourceMetrics.{ResourceMetrics}
use Rattle.otel_aggregate.specs.Any.{is_signed_value}
use Rattle.otel_model_stream.specs.Events.{Event}
use Rattle.otel_model.specs.Calls as model
use Rattle.otel_model.specs.Demands.{Demand, Identity, ReaderAnswers}
use Rattle.otel_model.specs.Collections.{metric, collection, ScopedMetric}
use Rattle.otel_model.specs.Machine.{machine_after, part_after_call, points_at, recorded_over, stream_after}
use Rattle.otel_model.specs.Sent.{is_fed, observed_events}
use Rattle.otel_model.specs.State.{ReaderPart, Shared, Stream}
use Rattle.otel_model.specs.Steps.{collect_from}
use Rattle.otel_model.specs.Streams.{aggregate_of, kind_of}
use Rattle.otel_model.proofs.Follow.{run_append, recorded_append}
use Rattle.opentelemetry_sdk.specs.pipeline.Collections.{IsCollectedFrom, scopes_shown}
use Rattle.opentelemetry_sdk.specs.pipeline.Observations.{observed_of, AreTypedFor, observed_in, observed_all}
use Rattle.opentelemetry_sdk.specs.pipeline.Pipelines.{AreAnswered, FeedsType, IsLawful, Piped, all_without_pending, all_after_collection, part_by, part_of}
use Rattle.opentelemetry_sdk.specs.pipeline.Streams.{StreamContents}
use Rattle.opentelemetry_sdk.proofs.pipeline.Answered.{answered-same, answers-observed}
use Rattle.opentelemetry_sdk.proofs.pipeline.Collects.{collected-is, part-finished}
use Rattle.opentelemetry_sdk.proofs.pipeline.PipelineLemmas.{lawful-same}
use Rattle.opentelemetry_sdk.proofs.pipeline.Records.{taken-sent}

-- ======== the model: records of observations, and a collection without ========
-- an observation as a record
abbrev pub record_of : model.Observed → model.Call
record_of o = model.Call.Record o.instrument o.value o.attributes

-- one record after another
abbrev pub records_sent : List model.Observed → ReaderPart → ReaderPart
records_sent os p = fold (λ q o. part_after_call 0 (record_of o) q) p os

module _ (answers : ReaderAnswers) (feeds : List (List Identity)) where
  abbrev sent_one : Stream → model.Observed → Stream
  sent_one s o = stream_after answers feeds 0 (record_of o) s

  -- a stream after these events, which are records
  abbrev stream_over : List Event → Stream → Stream
  stream_over es s = record s { machine = machine_after answers s.demand es s.machine; recorded = recorded_over (aggregate_of s.demand) (kind_of answers s.demand) s.demand.limit s.machine s.recorded es }

  over_one : (s : Stream) (o : model.Observed) (os : List model.Observed) (b : Bool) → is_fed feeds o.instrument s.demand.identity ≡ b
      → stream_over (observed_events feeds s.demand os) (sent_one s o) ≡ stream_over (observed_events feeds s.demand (o ∷ os)) s
  over_one s o os true e = rw e refl
  over_one s o os false e = rw e refl

  records_over : (os : List model.Observed) (s : Stream) → fold sent_one s os ≡ stream_over (observed_events feeds s.demand os) s
  records_over [] s = refl
  records_over (o ∷ os) s = records_over os (sent_one s o) ∙ over_one s o os (is_fed feeds o.instrument s.demand.identity) refl

  collected_after : (r now : ℕ) (os : List model.Observed) (s : Stream)
      → stream_after answers feeds 0 (model.Call.Collect r now []) (fold sent_one s os) ≡ stream_after answers feeds 0 (model.Call.Collect r now os) s
  collected_after r now os s =
      ap (stream_after answers feeds 0 (model.Call.Collect r now [])) (records_over os s)
      ∙ λ i. record (stream_after answers feeds 0 (model.Call.Collect r now os) s) {
        machine = sym (run_append (aggregate_of s.demand) (kind_of answers s.demand) s.demand.limit s.machine (observed_events feeds s.demand os) (Event.Collect ∷ [])) i;
        recorded = sym (recorded_append (aggregate_of s.demand) (kind_of answers s.demand) s.demand.limit s.machine s.recorded (observed_events feeds s.demand os) (Event.Collect ∷ [])) i;
      }

  -- the metric of a stream, with its scope
  abbrev scoped_with : ℕ → List model.Observed → Stream → ScopedMetric
  scoped_with now os q = (q.demand.identity.scope, metric answers now q.start q.reported q.demand (points_at answers feeds os q))

  -- records of all streams, and of each
  records_each : (os : List model.Observed) (fates : List Demand) (ss : List Stream)
      → records_sent os (record { answers = answers; fates = fates; streams = ss; feeds = feeds }) ≡ record { answers = answers; fates = fates; streams = map (λ s. fold sent_one s os) ss; feeds = feeds }
  records_each [] fates ss = ap (λ (zs : List Stream). record { answers = answers; fates = fates; streams = zs; feeds = feeds }) (sym (map-id ss))
  records_each (o ∷ os) fates ss =
      records_each os fates (map (λ s. sent_one s o) ss) ∙ ap (λ (zs : List Stream). record { answers = answers; fates = fates; streams = zs; feeds = feeds }) (map-map (λ s. fold sent_one s os) (λ s. sent_one s o) ss)

pub collected-sent : (r now : ℕ) (os : List model.Observed) (p : ReaderPart) → part_after_call 0 (model.Call.Collect r now []) (records_sent os p) ≡ part_after_call 0 (model.Call.Collect r now os) p
collected-sent r now os p =
    ap (part_after_call 0 (model.Call.Collect r now [])) (records_each p.answers p.feeds os p.fates p.streams)
    ∙ λ i. record { answers = p.answers; fates = p.fates; streams = (map-map (stream_after p.answers p.feeds 0 (model.Call.Collect r now [])) (λ s. fold (sent_one p.answers p.feeds) s os) p.streams ∙ λ j. map (λ s. collected_after p.answers p.feeds r now os s j) p.streams) i; feeds = p.feeds }

pub collected-from : (s : Shared) (now : ℕ) (os : List model.Observed) (p : ReaderPart) → collect_from s now [] (records_sent os p) ≡ collect_from s now os p
collected-from s now os p =
    ap (collect_from s now []) (records_each p.answers p.feeds os p.fates p.streams)
    ∙ ap (collection s.resource s.meters) (map-map (scoped_with p.answers p.feeds now []) (λ s. fold (sent_one p.answers p.feeds) s os) p.streams ∙ λ i. map (λ s. scoped_with p.answers p.feeds now [] (records_over p.answers p.feeds os s i)) p.streams)

-- ======== the code: observations taken in stream by stream ========
answered-observed : (os : List Observed) (p : Piped) → AreAnswered p.answers p.streams → AreAnswered p.answers (observed_all p.feeds os p.streams)
answered-observed os p all = answered-same p.answers (observed_all p.feeds os p.streams) p.streams (answers-observed p.feeds os p.streams) all

observed-sent : (os : List Observed) (p : Piped) → IsLawful p → AreTypedFor os (part_of p) → part_by p.answers (observed_all p.feeds os p.streams) p.feeds ≡ records_sent (map observed_of os) (part_of p)
observed-sent [] p lawful typed = refl
observed-sent (o ∷ os) p lawful typed =
    let next : Piped = record p { streams = observed_in p.feeds p.streams o } in
    let sent : part_of next ≡ part_after_call 0 (record_of (observed_of o)) (part_of p) = taken-sent o.instrument o.value o.attributes p lawful (typed 0 o (omega arith)) in
    observed-sent os next (lawful-same p next.streams (ap (λ (q : ReaderPart). q.fates) sent) lawful)
    (subst (AreTypedFor os) (sym sent) (All-tail (λ (q : Observed). FeedsType q.instrument (is_signed_value q.value) (part_of p)) o os typed))
    ∙ ap (records_sent (map observed_of os)) sent

-- a collection that took observations in has the scopes that are shown
pub observed-is : (resource : Resource) (meters : List InstrumentationScope) (now : ℕ) (os : List Observed) (p : Piped) (c : ResourceMetrics)
    → IsLawful p → AreTypedFor os (part_of p) → AreAnswered p.answers p.streams → c.resource ≡ resource → c.scope_metrics ≡ scopes_shown now (observed_all p.feeds os p.streams) meters → IsCollectedFrom resource meters now (map observed_of os) (part_of p) c
observed-is resource meters now os p c lawful typed all r e = λ s to_resource to_meters.
    collected-is resource meters now p.answers (observed_all p.feeds os p.streams) p.feeds c (answered-observed os p all) r e s to_resource to_meters
    ∙ (ap (collect_from s now []) (observed-sent os p lawful typed) ∙ collected-from s now (map observed_of os) (part_of p))

-- and it leaves what the model says
pub observed-finished : (r now : ℕ) (os : List Observed) (p : Piped) (new : List StreamContents) → IsLawful p → AreTypedFor os (part_of p) → AreAnswered p.answers p.streams
    → all_without_pending new ≡ all_without_pending (all_after_collection now (observed_all p.feeds os p.streams))
    → part_by p.answers new p.feeds ≡ part_after_call 0 (model.Call.Collect r now (map observed_of os)) (part_of p)
observed-finished r now os p new lawful typed all e =
    part-finished p.answers 0 r now (observed_all p.feeds os p.streams) new p.feeds (answered-observed os p all) e
    ∙ (ap (part_after_call 0 (model.Call.Collect r now [])) (observed-sent os p lawful typed) ∙ collected-sent r now (map observed_of os) (part_of p))
