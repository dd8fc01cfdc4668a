-- Whether a stream resets, and by which demand it was made, whatever is done to it.
use Rattle.std.proofs.Common.{◌≡◌, ℕ, Bool, true, false, cond, not, ◌&&◌, List, [], ◌∷◌, drop, map, Option, Some, None, is_none, refl, sym, ◌∙◌, ap, subst}
use Rattle.std.proofs.lemmas.Simd.{map-map}
use Rattle.otel_common.specs.declared.attributes.KeyValue.{KeyValue}
use Rattle.otel_data.specs.declared.numbers.NumberValue.{NumberValue}
use Rattle.otel_stream.specs.declared.observation.Observed.{Observed}
use Rattle.otel_model_stream.specs.Events.{Event, held_by}
use Rattle.otel_model_stream.specs.Sets.{AttributeSet, none_set}
use Rattle.otel_aggregate.specs.Any.{amount_of}
use Rattle.otel_aggregate.specs.value_map.Contents.{is_next_placed, next_of}
use Rattle.otel_model.specs.Calls.{is_observable}
use Rattle.otel_model.specs.Demands.{Demand, ReaderAnswers}
use Rattle.otel_model.specs.Sent.{set_for}
use Rattle.otel_model.specs.Streams.{is_delta, is_drained}
use Rattle.opentelemetry_sdk.specs.pipeline.Observations.{observed_all, observed_in, observing_numbers}
use Rattle.opentelemetry_sdk.specs.pipeline.Pipelines.{AreAnswered, all_without_pending}
use Rattle.opentelemetry_sdk.specs.declared.pipeline.change.Change.{Change}
use Rattle.opentelemetry_sdk.specs.declared.pipeline.change.Change.TheVariants as change
use Rattle.opentelemetry_sdk.specs.pipeline.Streams.{StreamContents, bound_by, committed_by, contents_after, contents_after_commit, contents_after_record, contents_with_next, takes, with_event, with_record, without_pending}
use Rattle.opentelemetry_sdk.proofs.pipeline.Writes.{unseen-each}

abbrev pub answer_of : StreamContents → Bool × Demand
answer_of k = (k.resets, k.stream.demand)

-- a change of streams that leaves both
abbrev pub KeepsAnswer : (StreamContents → StreamContents) → Type 0
KeepsAnswer f = (k : StreamContents) → answer_of (f k) ≡ answer_of k

-- ======== what is done to one stream ========
kept-if : (b : Bool) (m n k : StreamContents) → answer_of m ≡ answer_of k → answer_of n ≡ answer_of k → answer_of (cond b m n) ≡ answer_of k
kept-if true m n k p q = p
kept-if false m n k p q = q

commits : (value : NumberValue) → KeepsAnswer (contents_after_commit value)
commits value k = kept-if (takes value k) (committed_by (next_of k.pending) (amount_of value) k) k k (by (next_of k.pending)) refl
  where
    by : (o : Option AttributeSet) → answer_of (committed_by o (amount_of value) k) ≡ answer_of k
    by None = refl
    by (Some s) = refl

nexts : (values : List NumberValue) → KeepsAnswer (contents_with_next values)
nexts [] k = refl
nexts (v ∷ vs) k = nexts vs (record (contents_after_commit v k) { pending = k.pending }) ∙ commits v k

pub changes : (c : Change) → KeepsAnswer (contents_after c)
changes (change.Prepared value) k = commits value k
changes (change.Each values) k = kept-if (is_next_placed k.pending k.stream.machine.table.entries) (record (contents_with_next values.now k) { pending = drop 1 k.pending }) k k (nexts values.now k) refl
changes (change.Empty value) k = kept-if (takes value k) (with_record none_set (amount_of value) k) k k refl refl
changes (change.Held h place value) k = kept-if (not (is_drained k.stream.demand) && takes value k) (with_event (Event.RecordBound h (amount_of value)) k) k k refl refl
changes (change.Bind h) k = kept-if (not (is_observable k.stream.demand.identity.kind) && (k.room && is_none (held_by h k.stream.machine.live))) (bound_by (next_of k.pending) h k) k k (by (next_of k.pending)) refl
  where
    by : (o : Option AttributeSet) → answer_of (bound_by o h k) ≡ answer_of k
    by None = refl
    by (Some s) = refl
changes (change.Unbind h) k = kept-if (is_drained k.stream.demand) k (with_event (Event.Unbind h) k) k refl refl

pub records : (value : NumberValue) (l : List KeyValue) → KeepsAnswer (contents_after_record value l)
records value l k = kept-if (takes value k) (with_record (set_for k.stream.demand l) (amount_of value) k) k k refl refl

-- ======== what is done to streams ========
pub answers-settled : (a b : List StreamContents) → all_without_pending a ≡ all_without_pending b → map answer_of a ≡ map answer_of b
answers-settled a b e = sym (map-map answer_of without_pending a) ∙ (ap (map answer_of) e ∙ map-map answer_of without_pending b)

pub answers-observed : (feeds : List (List ℕ)) (os : List Observed) (ks : List StreamContents) → map answer_of (observed_all feeds os ks) ≡ map answer_of ks
answers-observed feeds [] ks = refl
answers-observed feeds (o ∷ os) ks = answers-observed feeds os (observed_in feeds ks o) ∙ unseen-each answer_of (contents_after_record o.value o.attributes) (records o.value o.attributes) (observing_numbers feeds o) ks

-- the streams reset as the reader's answers say
pub answered-same : (answers : ReaderAnswers) (new old : List StreamContents) → map answer_of new ≡ map answer_of old → AreAnswered answers old → AreAnswered answers new
answered-same answers [] old e all = tt
answered-same answers (a ∷ new) [] e all = absurd (cc)
answered-same answers (a ∷ new) (b ∷ old) e all =
    let parts : (answer_of b ≡ answer_of a) × (map answer_of new ≡ map answer_of old) = (cc, cc) in
    (subst (λ (x : Bool × Demand). x.0 ≡ is_delta answers x.1) parts.0 all.0, answered-same answers new old parts.1 all.1)
