-- A call with its attributes in another order does the same.
use Rattle.std.proofs.Common.{◌≡◌, ⊎_elim, ℕ, zero, suc, ◌+◌, Bool, true, false, List, [], ◌∷◌, ◌++◌, length, map, refl, arith, sym, ◌∙◌, ap, Option, Some, None, cond}
use Rattle.std.specs.Prelude.{slice_get, nat_lt}
use Rattle.std.specs.List.{list_any}
use Rattle.std.specs.Ordering.{eq_by_cmp}
use Rattle.std.specs.Cmp.{Equal-is}
use Rattle.std.proofs.lemmas.Bool.{cases_Bool}
use Rattle.std.proofs.lemmas.List.Sorted.{length_permutation}
use Rattle.otel_common.specs.Canonical.{canon, key_cmp}
use Rattle.otel_common.specs.Equality.{bytes_eq}
use Rattle.otel_common.specs.declared.attributes.KeyValue.{KeyValue}
use Rattle.otel_common.proofs.CanonLaws.{value_at, value_at-canon, canon-same, key_cmp-IsAntisymmetric}
use Rattle.otel_common.proofs.Permuting.{canon-permutation}
use Rattle.otel_model_stream.specs.Sets.{AllowList, allowed_part, set_of}
use Rattle.otel_model_stream.specs.Events.{Event}
use Rattle.otel_model.specs.Calls.{Number, Observed, Call, Record, Bind, Collect, OutOfMemory, UnknownMeter, UnknownInstrument, UnknownHandle, UnknownReader, WrongNumber, WrongKind, AlreadyShutdown, ReaderShutDown, ReadersFailed, Exhausted, LedgerFull, UseWorker, WorkersMissing, Reply}
use Rattle.otel_model.specs.Demands.{Identity, Demand, ReaderAnswers, Views}
use Rattle.otel_model.specs.State.{InstrumentState, Shared, Stream, ReaderPart, State}
use Rattle.otel_model.specs.Refusals.{refusal, observation_refusal, observations_refusal, first_fault}
use Rattle.otel_model.specs.Sent.{is_fed, set_for, observed_events, sent_events}
use Rattle.otel_model.specs.Machine.{machine_after, start_after, points_at, reported_after, recorded_after, exported_after, stream_after, part_after_call, changed_at, accepted_after, shared_after}
use Rattle.otel_model.specs.Steps.{collect_from, collect_reply, answer_of, reply_by, after_by, reply_of, after, takes_memory, asks_readers, Step, Run}
use Rattle.otel_model.specs.Orders.{IsReordered, RecordsInAnyOrder, BindsInAnyOrder, ObservationsInAnyOrder}

-- ======== sets ========
abbrev is_kept : List (List ℕ) → List ℕ → Bool
is_kept allow key = list_any (bytes_eq key) allow

-- what is kept answers at the keys that are kept
value_at-kept : (allow : List (List ℕ)) (l : List KeyValue) (q : List ℕ) → value_at q (allowed_part (Some allow) l) ≡ cond (is_kept allow q) (value_at q l) None
value_at-kept allow [] q = sym (same (is_kept allow q))
  where
    same : (b : Bool) → cond b (value_at q []) None ≡ None
    same true = refl
    same false = refl
value_at-kept allow (p ∷ l) q = ⊎_elim (here (value_at-kept allow l q)) (elsewhere (value_at-kept allow l q)) (cases_Bool (eq_by_cmp key_cmp q p.key))
  where
    found : (b : Bool) → eq_by_cmp key_cmp q p.key ≡ true → value_at q (allowed_part (Some allow) l) ≡ cond b (value_at q l) None
        → value_at q (cond b (p ∷ allowed_part (Some allow) l) (allowed_part (Some allow) l)) ≡ cond b (Some p.value) None
    found true e ih = λ i. cond (e i) (Some p.value) (value_at q (allowed_part (Some allow) l))
    found false e ih = ih

    passed : (b : Bool) → eq_by_cmp key_cmp q p.key ≡ false → value_at q (cond b (p ∷ allowed_part (Some allow) l) (allowed_part (Some allow) l)) ≡ value_at q (allowed_part (Some allow) l)
    passed true e = λ i. cond (e i) (Some p.value) (value_at q (allowed_part (Some allow) l))
    passed false e = refl

    same_key : eq_by_cmp key_cmp q p.key ≡ true → is_kept allow p.key ≡ is_kept allow q
    same_key e = ap (is_kept allow) (sym (key_cmp-IsAntisymmetric q p.key ((Equal-is (key_cmp q p.key)).0 e)))

    here : value_at q (allowed_part (Some allow) l) ≡ cond (is_kept allow q) (value_at q l) None → eq_by_cmp key_cmp q p.key ≡ true → value_at q (allowed_part (Some allow) (p ∷ l)) ≡ cond (is_kept allow q) (value_at q (p ∷ l)) None
    here ih e =
        found (is_kept allow p.key) e (ih ∙ ap (λ b. cond b (value_at q l) None) (sym (same_key e)))
        ∙ (ap (λ b. cond b (Some p.value) None) (same_key e) ∙ sym (λ i. cond (is_kept allow q) (cond (e i) (Some p.value) (value_at q l)) None))

    elsewhere : value_at q (allowed_part (Some allow) l) ≡ cond (is_kept allow q) (value_at q l) None → eq_by_cmp key_cmp q p.key ≡ false → value_at q (allowed_part (Some allow) (p ∷ l)) ≡ cond (is_kept allow q) (value_at q (p ∷ l)) None
    elsewhere ih e = passed (is_kept allow p.key) e ∙ (ih ∙ sym (λ i. cond (is_kept allow q) (cond (e i) (Some p.value) (value_at q l)) None))

-- lists with one canonical form give one set, whatever is kept of them
set-same : (allow : AllowList) (l m : List KeyValue) → canon l ≡ canon m → set_of allow l ≡ set_of allow m
set-same None l m e = e
set-same (Some allow) l m e = canon-same (allowed_part (Some allow) l) (allowed_part (Some allow) m)
    (λ q. value_at-kept allow l q ∙ (ap (λ o. cond (is_kept allow q) o None) (sym (value_at-canon l q) ∙ (ap (value_at q) e ∙ value_at-canon m q)) ∙ sym (value_at-kept allow m q)))

pub set-reordered : (l m : List KeyValue) → IsReordered l m → (d : Demand) → set_for d l ≡ set_for d m
set-reordered l m h d = set-same d.allow l m (sym (canon-permutation l m h.0 h.1))

-- ======== calls that do the same ========
record IsAlike (c e : Call) : Type 0 where
  refused : (s : Shared) (readers : ℕ) → refusal s readers c ≡ refusal s readers e
  answered : (st : State) → answer_of st c ≡ answer_of st e
  left : (views : Views) (st : State) → accepted_after views st c ≡ accepted_after views st e
  memory : takes_memory c ≡ takes_memory e
  asks : asks_readers c ≡ asks_readers e

alike_reply : (c e : Call) → IsAlike c e → (st : State) → reply_of st c ≡ reply_of st e
alike_reply c e h st = λ i. reply_by (h.refused st.shared (length st.readers) i) (h.answered st i)

alike_after : (c e : Call) → IsAlike c e → (views : Views) (st : State) → after views st c ≡ after views st e
alike_after c e h views st = λ i. after_by (h.refused st.shared (length st.readers) i) st (h.left views st i)

alike_step : (c e : Call) → IsAlike c e → (views : Views) (old new : State) (reply : Reply) → Step views old c reply new → Step views old e reply new
alike_step c e h views old new (Reply.Meter n) s = (s.0 ∙ alike_reply c e h old, s.1 ∙ alike_after c e h views old)
alike_step c e h views old new (Reply.Instrument n) s = (s.0 ∙ alike_reply c e h old, s.1 ∙ alike_after c e h views old)
alike_step c e h views old new (Reply.Handle n) s = (s.0 ∙ alike_reply c e h old, s.1 ∙ alike_after c e h views old)
alike_step c e h views old new Reply.Done s = (s.0 ∙ alike_reply c e h old, s.1 ∙ alike_after c e h views old)
alike_step c e h views old new (Reply.Collected x) s = (s.0 ∙ alike_reply c e h old, s.1 ∙ alike_after c e h views old)
alike_step c e h views old new (Reply.Refused OutOfMemory) s = (sym h.memory ∙ s.0, sym (h.refused old.shared (length old.readers)) ∙ s.1, s.2)
alike_step c e h views old new (Reply.Refused UnknownMeter) s = (s.0 ∙ alike_reply c e h old, s.1 ∙ alike_after c e h views old)
alike_step c e h views old new (Reply.Refused UnknownInstrument) s = (s.0 ∙ alike_reply c e h old, s.1 ∙ alike_after c e h views old)
alike_step c e h views old new (Reply.Refused UnknownHandle) s = (s.0 ∙ alike_reply c e h old, s.1 ∙ alike_after c e h views old)
alike_step c e h views old new (Reply.Refused UnknownReader) s = (s.0 ∙ alike_reply c e h old, s.1 ∙ alike_after c e h views old)
alike_step c e h views old new (Reply.Refused WrongNumber) s = (s.0 ∙ alike_reply c e h old, s.1 ∙ alike_after c e h views old)
alike_step c e h views old new (Reply.Refused WrongKind) s = (s.0 ∙ alike_reply c e h old, s.1 ∙ alike_after c e h views old)
alike_step c e h views old new (Reply.Refused AlreadyShutdown) s = (s.0 ∙ alike_reply c e h old, s.1 ∙ alike_after c e h views old)
alike_step c e h views old new (Reply.Refused ReaderShutDown) s = (s.0 ∙ alike_reply c e h old, s.1 ∙ alike_after c e h views old)
alike_step c e h views old new (Reply.Refused (ReadersFailed failed first)) s = (sym h.asks ∙ s.0, sym (h.refused old.shared (length old.readers)) ∙ s.1, s.2 ∙ alike_after c e h views old)
alike_step c e h views old new (Reply.Refused Exhausted) s = (s.0 ∙ alike_reply c e h old, s.1 ∙ alike_after c e h views old)
alike_step c e h views old new (Reply.Refused LedgerFull) s = (s.0 ∙ alike_reply c e h old, s.1 ∙ alike_after c e h views old)
alike_step c e h views old new (Reply.Refused UseWorker) s = (s.0 ∙ alike_reply c e h old, s.1 ∙ alike_after c e h views old)
alike_step c e h views old new (Reply.Refused WorkersMissing) s = (s.0 ∙ alike_reply c e h old, s.1 ∙ alike_after c e h views old)

alike_run : (c e : Call) → IsAlike c e → (views : Views) (old new : State) (before later : List Call) (replies : List Reply)
    → Run views old (before ++ c ∷ later) replies new → Run views old (before ++ e ∷ later) replies new
alike_run c e h views old new [] later [] run = absurd run
alike_run c e h views old new [] later (reply ∷ replies) run = (run.0, alike_step c e h views old run.0 reply run.1, run.2)
alike_run c e h views old new (b ∷ before) later [] run = absurd run
alike_run c e h views old new (b ∷ before) later (reply ∷ replies) run = (run.0, run.1, alike_run c e h views run.0 new before later replies run.2)

-- ======== records and binds ========
-- a stream that is sent the same
stream_alike : (answers : ReaderAnswers) (feeds : List (List Identity)) (next : ℕ) (c e : Call) (s : Stream)
    → sent_events feeds next s.demand c ≡ sent_events feeds next s.demand e → start_after answers s.demand c s.start ≡ start_after answers s.demand e s.start
    → reported_after answers feeds c s ≡ reported_after answers feeds e s → exported_after answers feeds c s ≡ exported_after answers feeds e s
    → stream_after answers feeds next c s ≡ stream_after answers feeds next e s
stream_alike answers feeds next c e s k m p q = λ i. record {
  demand = s.demand;
  machine = machine_after answers s.demand (k i) s.machine;
  start = m i;
  reported = p i;
  recorded = recorded_after answers (k i) s;
  exported = q i;
}

pub map_alike : {A B : Type 0} (f g : A → B) (xs : List A) → ((x : A) → f x ≡ g x) → map f xs ≡ map g xs
map_alike f g [] e = refl
map_alike f g (x ∷ xs) e = λ i. e x i ∷ map_alike f g xs e i

part_alike : (next : ℕ) (c e : Call) → ((answers : ReaderAnswers) (feeds : List (List Identity)) (s : Stream) → stream_after answers feeds next c s ≡ stream_after answers feeds next e s) → (p : ReaderPart) → part_after_call next c p ≡ part_after_call next e p
part_alike next c e h p = λ i. record p { streams = map_alike (stream_after p.answers p.feeds next c) (stream_after p.answers p.feeds next e) p.streams (h p.answers p.feeds) i }

no_length : (l m : List KeyValue) → IsReordered l m → length m ≡ length l
no_length l m h = length_permutation l m h.1

record_memory : (n : ℕ) (v : Number) (l m : List KeyValue) → length m ≡ length l → takes_memory (Record n v l) ≡ takes_memory (Record n v m)
record_memory n v [] [] e = refl
record_memory n v [] (b ∷ m) e = absurd (omega arith)
record_memory n v (a ∷ l) [] e = absurd (omega arith)
record_memory n v (a ∷ l) (b ∷ m) e = refl

record_alike : (n : ℕ) (v : Number) (l m : List KeyValue) → IsReordered l m → IsAlike (Record n v l) (Record n v m)
record_alike n v l m h = record {
  refused = λ s readers. refl;
  answered = λ st. refl;
  left = λ views st. λ i. record {
    shared = shared_after st.shared (Record n v l);
    readers = map_alike (part_after_call st.shared.next (Record n v l)) (part_after_call st.shared.next (Record n v m)) st.readers (part_alike st.shared.next (Record n v l) (Record n v m) (λ answers feeds s. stream_alike answers feeds st.shared.next (Record n v l) (Record n v m) s
        (λ i. cond (is_fed feeds n s.demand.identity) (Event.Record (set-reordered l m h s.demand i) v.amount ∷ []) []) refl refl refl)) i;
  };
  memory = record_memory n v l m (no_length l m h);
  asks = refl;
}

bind_alike : (n : ℕ) (l m : List KeyValue) → IsReordered l m → IsAlike (Bind n l) (Bind n m)
bind_alike n l m h = record {
  refused = λ s readers. refl;
  answered = λ st. refl;
  left = λ views st. λ i. record {
    shared = shared_after st.shared (Bind n l);
    readers = map_alike (part_after_call st.shared.next (Bind n l)) (part_after_call st.shared.next (Bind n m)) st.readers (part_alike st.shared.next (Bind n l) (Bind n m) (λ answers feeds s. stream_alike answers feeds st.shared.next (Bind n l) (Bind n m) s
        (λ i. cond (is_fed feeds n s.demand.identity) (Event.Bind st.shared.next (set-reordered l m h s.demand i) ∷ []) []) refl refl refl)) i;
  };
  memory = refl;
  asks = refl;
}

-- ======== observations ========
module _ (os ps : List Observed) (o : Observed) (m : List KeyValue) (h : IsReordered o.attributes m) where
  abbrev these : List Observed
  these = os ++ o ∷ ps

  abbrev those : List Observed
  those = os ++ record o { attributes = m } ∷ ps

  observed_alike : (feeds : List (List Identity)) (d : Demand) (os : List Observed) → observed_events feeds d (os ++ o ∷ ps) ≡ observed_events feeds d (os ++ record o { attributes = m } ∷ ps)
  observed_alike feeds d [] = λ i. cond (is_fed feeds o.instrument d.identity) (Event.Record (set-reordered o.attributes m h d i) o.value.amount ∷ observed_events feeds d ps) (observed_events feeds d ps)
  observed_alike feeds d (q ∷ qs) = λ i. cond (is_fed feeds q.instrument d.identity) (Event.Record (set_for d q.attributes) q.value.amount ∷ observed_alike feeds d qs i) (observed_alike feeds d qs i)

  refused_alike : (is : List InstrumentState) (os : List Observed) → observations_refusal is (os ++ o ∷ ps) ≡ observations_refusal is (os ++ record o { attributes = m } ∷ ps)
  refused_alike is [] = refl
  refused_alike is (q ∷ qs) = ap (first_fault (observation_refusal (slice_get is q.instrument) q.value.signed)) (refused_alike is qs)

  points_alike : (answers : ReaderAnswers) (feeds : List (List Identity)) (s : Stream) → points_at answers feeds these s ≡ points_at answers feeds those s
  points_alike answers feeds s = λ i. Rattle.otel_model_stream.specs.Machine.points (Rattle.otel_model.specs.Streams.kind_of answers s.demand) (machine_after answers s.demand (observed_alike feeds s.demand os i) s.machine)

  collect_alike : (r now : ℕ) → IsAlike (Collect r now these) (Collect r now those)
  collect_alike r now = record {
    refused = λ s readers. λ i. cond (nat_lt r readers) (cond s.shut (Some ReaderShutDown) (refused_alike s.instruments os i)) (Some UnknownReader);
    answered = λ st. same_reply st.shared (slice_get st.readers r);
    left = λ views st. λ i. record {
      shared = st.shared;
      readers = same_change r st.readers (part_alike st.shared.next (Collect r now these) (Collect r now those) (λ answers feeds s. stream_alike answers feeds st.shared.next (Collect r now these) (Collect r now those) s
          (λ i. observed_alike feeds s.demand os i ++ Event.Collect ∷ []) refl
          (λ i. cond (Rattle.otel_model.specs.Collections.shows_differences answers s.demand) (points_alike answers feeds s i) s.reported)
          (λ i. cond (Rattle.otel_model.specs.Streams.is_delta answers s.demand) (Rattle.otel_model_stream.specs.Folds.wrap (s.exported + Rattle.otel_model_stream.specs.Totals.points_total (points_alike answers feeds s i))) s.exported))) i;
    };
    memory = refl;
    asks = refl;
  }
    where
      same_change : {X : Type 0} {f g : X → X} (n : ℕ) (xs : List X) → ((x : X) → f x ≡ g x) → changed_at n f xs ≡ changed_at n g xs
      same_change n [] e = refl
      same_change zero (x ∷ xs) e = λ i. e x i ∷ xs
      same_change (suc n) (x ∷ xs) e = λ i. x ∷ same_change n xs e i

      same_collection : (s : Shared) (p : ReaderPart) → collect_from s now these p ≡ collect_from s now those p
      same_collection s p = λ i. Rattle.otel_model.specs.Collections.collection s.resource s.meters
          (map_alike _ _ p.streams (λ (q : Stream). ap (λ ps. let m : Rattle.otel_model.specs.Collections.ScopedMetric = (q.demand.identity.scope, Rattle.otel_model.specs.Collections.metric p.answers now q.start q.reported q.demand ps) in m) (points_alike p.answers p.feeds q)) i)

      same_reply : (s : Shared) (o : Option ReaderPart) → collect_reply s now these o ≡ collect_reply s now those o
      same_reply s None = refl
      same_reply s (Some p) = ap (λ c. Reply.Collected c) (same_collection s p)

-- ======== the laws ========
pub records_law : RecordsInAnyOrder
records_law views old new before later n v l m replies h run = alike_run (Record n v l) (Record n v m) (record_alike n v l m h) views old new before later replies run

pub binds_law : BindsInAnyOrder
binds_law views old new before later n l m replies h run = alike_run (Bind n l) (Bind n m) (bind_alike n l m h) views old new before later replies run

pub observations_law : ObservationsInAnyOrder
observations_law views old new before later r now os ps o m replies h run =
    alike_run (Collect r now (os ++ o ∷ ps)) (Collect r now (os ++ record o { attributes = m } ∷ ps)) (collect_alike os ps o m h r now) views old new before later replies run
