-- Whole runs: state and replies are what is read off the calls made.
use Rattle.std.proofs.Common.{◌≡◌, ◌⊎◌, inl, inr, ⊎_elim, ℕ, zero, suc, ◌+◌, ◌<◌, Bool, true, false, List, [], ◌∷◌, ◌++◌, length, map, refl, arith, sym, ◌∙◌, ap, Option, Some, None, subst, cond, ◌||◌, append_assoc}
use Rattle.std.specs.Prelude.{◌==◌, filter, not, slice_get, nat_lt, ◌&&◌}
use Rattle.std.proofs.lemmas.Bool.{eqb-true, ltb-true, cases_Bool, true≢false, false≢true}
use Rattle.std.proofs.lemmas.List.{append-nil}
use Rattle.std.proofs.lemmas.List.Elements.{filter-append}
use Rattle.std.proofs.lemmas.List.Folds.{list_any-append}
use Rattle.otel_common.specs.Scopes.{scope_eq, scope_eq-Decides}
use Rattle.otel_common.specs.declared.attributes.KeyValue.{KeyValue}
use Rattle.otel_common.specs.declared.scopes.InstrumentationScope.{InstrumentationScope}
use Rattle.otel_model_stream.specs.Entries.{Entry}
use Rattle.otel_model_stream.specs.Events.{Point}
use Rattle.otel_model_stream.specs.Machine.{run}
use Rattle.otel_model_stream.specs.Windows.{places_of, sets_that_count, uncounted_of}
use Rattle.otel_model.specs.Resources.{Resource}
use Rattle.otel_data.specs.declared.collections.Metric.{Metric}
use Rattle.otel_model.specs.Calls.{Observed, Call, Meter, Build, Record, Bind, RecordBound, Unbind, Collect, Flush, Shutdown, Fault, OutOfMemory, UnknownMeter, UnknownInstrument, UnknownHandle, UnknownReader, WrongNumber, WrongKind, AlreadyShutdown, ReaderShutDown, ReadersFailed, Exhausted, LedgerFull, UseWorker, WorkersMissing, Reply}
use Rattle.otel_model.specs.Demands.{Demand, Views, ReaderAnswers}
use Rattle.otel_model.specs.Streams.{kind_of, aggregate_of}
use Rattle.otel_model.specs.Collections.{shows_differences, difference, content_of, metric, ScopedMetric, collection}
use Rattle.otel_model.specs.State.{Shared, Stream, ReaderPart, State}
use Rattle.otel_model.specs.Refusals.{refusal, observations_refusal}
use Rattle.otel_model.specs.Sent.{has_scope, scope_of, observed_events}
use Rattle.otel_model.specs.Machine.{with_meter, part_after_build, part_after_call, shared_after, points_at, accepted_after, new_part, new_state}
use Rattle.otel_model.specs.Steps.{collect_reply, collect_from, answer_of, reply_by, after_by, reply_of, after, asks_readers, Step, Run}
use Rattle.otel_model.specs.Only.{is_others}
use Rattle.otel_model.specs.History.{is_shutdown, is_failed, counts, made_calls, gather, is_bind, is_shut, binds_in, scope_asked, new_scope, meters_in, builds_in, streams_of, feeds_of, history, window_of, window_points, start_of, reported_of, collection_of, made_by, shown_in, collected_by, given_collections}
use Rattle.otel_model.specs.Laws.{IsRun, AreStreamsOfBuilds, AreFeedsOfBuilds, ArePlacesOfHistories, AreCountedOfHistories, AreCollectionsOfHistories}
use Rattle.otel_model.proofs.StreamFacts.{places_are, counted_are}
use Rattle.otel_model.proofs.Single.{some_is, get_map, part_after, concerned, unconcerned}
use Rattle.otel_model.proofs.Gather.{gather_push, map_both, cond_same}
use Rattle.otel_model.proofs.Follow.{stream_in, part_of, part_sends, part_rests, part_unseen, part_builds, points_now, kept_of}

-- ======== what is shared ========
has_append : (s : InstrumentationScope) (xs ys : List InstrumentationScope) → has_scope s (xs ++ ys) ≡ (has_scope s xs || has_scope s ys)
has_append s xs ys = list_any-append (λ m. scope_eq m s) xs ys

-- keeping each scope once keeps the same scopes
once_has : (before ss : List InstrumentationScope) (x : InstrumentationScope) → has_scope x before ≡ false → has_scope x (gather new_scope before ss) ≡ has_scope x ss
once_has before [] x e = refl
once_has before (s ∷ ss) x e = ⊎_elim
    (λ t. ap (λ b. has_scope x (cond b [] (s ∷ []) ++ gather new_scope (before ++ s ∷ []) ss)) (ap (λ y. has_scope y before) ((scope_eq-Decides s x).0 t) ∙ e)
    ∙ (λ i. t i || has_scope x (gather new_scope (before ++ s ∷ []) ss)) ∙ sym (λ i. t i || has_scope x ss))
    (λ t. skip (has_scope s before) t ∙ (once_has (before ++ s ∷ []) ss x (has_append x before (s ∷ []) ∙ (λ i. e i || (t i || false))) ∙ sym (λ i. t i || has_scope x ss)))
    (cases_Bool (scope_eq s x))
  where
    skip : (b : Bool) → scope_eq s x ≡ false → has_scope x (cond b [] (s ∷ []) ++ gather new_scope (before ++ s ∷ []) ss) ≡ has_scope x (gather new_scope (before ++ s ∷ []) ss)
    skip true t = refl
    skip false t = λ i. t i || has_scope x (gather new_scope (before ++ s ∷ []) ss)

asked : List Call → List InstrumentationScope
asked calls = gather scope_asked [] calls

meters_push : (past : List Call) (scope : InstrumentationScope) → meters_in (past ++ Meter scope ∷ []) ≡ cond (is_shut past) (meters_in past) (with_meter scope (meters_in past))
meters_push past scope = ap (gather new_scope []) (gather_push scope_asked [] past (Meter scope)) ∙ go (is_shut past)
  where
    new : (b : Bool) → meters_in past ++ cond b [] (scope ∷ []) ≡ cond b (meters_in past) (meters_in past ++ scope ∷ [])
    new true = append-nil (meters_in past)
    new false = refl

    go : (b : Bool) → gather new_scope [] (gather scope_asked [] past ++ cond b [] (scope ∷ [])) ≡ cond b (meters_in past) (with_meter scope (meters_in past))
    go true = ap (gather new_scope []) (append-nil (gather scope_asked [] past))
    go false = gather_push new_scope [] (gather scope_asked [] past) scope
        ∙ (new (has_scope scope (gather scope_asked [] past)) ∙ ap (λ b. cond b (meters_in past) (meters_in past ++ scope ∷ [])) (sym (once_has [] (gather scope_asked [] past) scope refl)))

-- other calls ask for no meter
meters_still : (past : List Call) (c : Call) → scope_asked past c ≡ [] → meters_in (past ++ c ∷ []) ≡ meters_in past
meters_still past c e = ap (gather new_scope []) (gather_push scope_asked [] past c ∙ (ap (λ l. gather scope_asked [] past ++ l) e ∙ append-nil (gather scope_asked [] past)))

or_false : (b : Bool) → (b || false) ≡ b
or_false true = refl
or_false false = refl

or_true : (b : Bool) → (b || true) ≡ true
or_true true = refl
or_true false = refl

shut_push : (past : List Call) (c : Call) → is_shut (past ++ c ∷ []) ≡ (is_shut past || (is_shutdown c || false))
shut_push past c = list_any-append is_shutdown past (c ∷ [])

shut_still : (past : List Call) (c : Call) → is_shutdown c ≡ false → is_shut (past ++ c ∷ []) ≡ is_shut past
shut_still past c e = shut_push past c ∙ (ap (λ b. is_shut past || (b || false)) e ∙ or_false (is_shut past))

length_push : {X : Type 0} (xs : List X) (x : X) → length (xs ++ x ∷ []) ≡ length xs + 1
length_push [] x = omega arith
length_push (y ∷ ys) x = let ih : length (ys ++ x ∷ []) ≡ length ys + 1 = length_push ys x in omega arith

binds_push : (past : List Call) (n : ℕ) (l : List KeyValue) → binds_in (past ++ Bind n l ∷ []) ≡ binds_in past + 1
binds_push past n l = ap (λ (xs : List Call). length xs) (filter-append is_bind past (Bind n l ∷ [])) ∙ length_push (filter is_bind past) (Bind n l)

binds_still : (past : List Call) (c : Call) → is_bind c ≡ false → binds_in (past ++ c ∷ []) ≡ binds_in past
binds_still past c e = ap (λ (xs : List Call). length xs) (filter-append is_bind past (c ∷ []) ∙ (ap (λ b. filter is_bind past ++ cond b (c ∷ []) []) e ∙ append-nil (filter is_bind past)))

pub record SharedAgrees (past : List Call) (s : Shared) : Type 0 where
  pub meters : s.meters ≡ meters_in past
  pub next : s.next ≡ binds_in past
  pub shut : s.shut ≡ is_shut past

shared_agrees : (past : List Call) (s : Shared) (c : Call) → SharedAgrees past s → SharedAgrees (past ++ c ∷ []) (shared_after s c)
shared_agrees past s (Meter scope) a = record {
  meters = (λ i. cond (a.shut i) (a.meters i) (with_meter scope (a.meters i))) ∙ sym (meters_push past scope);
  next = a.next ∙ sym (binds_still past (Meter scope) refl);
  shut = a.shut ∙ sym (shut_still past (Meter scope) refl);
}
shared_agrees past s (Build meter about now) a = record { meters = a.meters ∙ sym (meters_still past (Build meter about now) refl); next = a.next ∙ sym (binds_still past (Build meter about now) refl); shut = a.shut ∙ sym (shut_still past (Build meter about now) refl) }
shared_agrees past s (Record n v l) a = record { meters = a.meters ∙ sym (meters_still past (Record n v l) refl); next = a.next ∙ sym (binds_still past (Record n v l) refl); shut = a.shut ∙ sym (shut_still past (Record n v l) refl) }
shared_agrees past s (Bind n l) a = record { meters = a.meters ∙ sym (meters_still past (Bind n l) refl); next = ap (λ k. k + 1) a.next ∙ sym (binds_push past n l); shut = a.shut ∙ sym (shut_still past (Bind n l) refl) }
shared_agrees past s (RecordBound h v) a = record { meters = a.meters ∙ sym (meters_still past (RecordBound h v) refl); next = a.next ∙ sym (binds_still past (RecordBound h v) refl); shut = a.shut ∙ sym (shut_still past (RecordBound h v) refl) }
shared_agrees past s (Unbind h) a = record { meters = a.meters ∙ sym (meters_still past (Unbind h) refl); next = a.next ∙ sym (binds_still past (Unbind h) refl); shut = a.shut ∙ sym (shut_still past (Unbind h) refl) }
shared_agrees past s (Collect r now os) a = record { meters = a.meters ∙ sym (meters_still past (Collect r now os) refl); next = a.next ∙ sym (binds_still past (Collect r now os) refl); shut = a.shut ∙ sym (shut_still past (Collect r now os) refl) }
shared_agrees past s Flush a = record { meters = a.meters ∙ sym (meters_still past Flush refl); next = a.next ∙ sym (binds_still past Flush refl); shut = a.shut ∙ sym (shut_still past Flush refl) }
shared_agrees past s Shutdown a = record { meters = a.meters ∙ sym (meters_still past Shutdown refl); next = a.next ∙ sym (binds_still past Shutdown refl); shut = sym (shut_push past Shutdown ∙ or_true (is_shut past)) }

-- ======== a reader's part ========
not_true : (b : Bool) → not b ≡ true → b ≡ false
not_true true e = absurd (false≢true e)
not_true false e = refl

not_false : (b : Bool) → not b ≡ false → b ≡ true
not_false true e = refl
not_false false e = absurd (true≢false e)

part_follows : (views : Views) (answers : ReaderAnswers) (r : ℕ) (past : List Call) (s : Shared) (c : Call) → SharedAgrees past s → is_others r c ≡ false
    → part_after views s c (part_of views answers r past) ≡ part_of views answers r (past ++ c ∷ [])
part_follows views answers r past s (Meter scope) a m = part_rests views answers r past (Meter scope) refl (λ d. cond_same _ []) (λ d. refl) (λ d. cond_same _ [])
part_follows views answers r past s (Build meter about now) a m = ap (λ ms. part_after_build views (scope_of ms meter) about now (part_of views answers r past)) a.meters ∙ part_builds views answers r past meter about now
part_follows views answers r past s (Record n v l) a m = ap (λ k. part_after_call k (Record n v l) (part_of views answers r past)) a.next ∙ part_sends views answers r past (Record n v l) refl refl
part_follows views answers r past s (Bind n l) a m = ap (λ k. part_after_call k (Bind n l) (part_of views answers r past)) a.next ∙ part_sends views answers r past (Bind n l) refl refl
part_follows views answers r past s (RecordBound h v) a m = ap (λ k. part_after_call k (RecordBound h v) (part_of views answers r past)) a.next ∙ part_sends views answers r past (RecordBound h v) refl refl
part_follows views answers r past s (Unbind h) a m = ap (λ k. part_after_call k (Unbind h) (part_of views answers r past)) a.next ∙ part_sends views answers r past (Unbind h) refl refl
part_follows views answers r past s (Collect q now os) a m = ap (λ k. part_after_call k (Collect q now os) (part_of views answers r past)) a.next ∙ part_sends views answers r past (Collect q now os) refl (not_false (q == r) m)
part_follows views answers r past s Flush a m = part_rests views answers r past Flush refl (λ d. cond_same _ []) (λ d. refl) (λ d. cond_same _ [])
part_follows views answers r past s Shutdown a m = part_rests views answers r past Shutdown refl (λ d. cond_same _ []) (λ d. refl) (λ d. cond_same _ [])

part_waits : (views : Views) (answers : ReaderAnswers) (r : ℕ) (past : List Call) (c : Call) → is_others r c ≡ true → part_of views answers r past ≡ part_of views answers r (past ++ c ∷ [])
part_waits views answers r past (Meter scope) m = absurd (false≢true m)
part_waits views answers r past (Build meter about now) m = absurd (false≢true m)
part_waits views answers r past (Record n v l) m = absurd (false≢true m)
part_waits views answers r past (Bind n l) m = absurd (false≢true m)
part_waits views answers r past (RecordBound h v) m = absurd (false≢true m)
part_waits views answers r past (Unbind h) m = absurd (false≢true m)
part_waits views answers r past (Collect q now os) m = part_unseen views answers r past q now os (not_true (q == r) m)
part_waits views answers r past Flush m = absurd (false≢true m)
part_waits views answers r past Shutdown m = absurd (false≢true m)

-- ======== states ========
-- the state is what is read off the calls made
pub record Agrees (views : Views) (resource : Resource) (readers : List ReaderAnswers) (past : List Call) (st : State) : Type 0 where
  pub told : st.shared.resource ≡ resource
  pub shared : SharedAgrees past st.shared
  pub parts : (r : ℕ) (answers : ReaderAnswers) → slice_get readers r ≡ Some answers → slice_get st.readers r ≡ Some (part_of views answers r past)

same_resource : (s : Shared) (c : Call) → (shared_after s c).resource ≡ s.resource
same_resource s (Meter scope) = refl
same_resource s (Build meter about now) = refl
same_resource s (Record n v l) = refl
same_resource s (Bind n l) = refl
same_resource s (RecordBound h v) = refl
same_resource s (Unbind h) = refl
same_resource s (Collect r now os) = refl
same_resource s Flush = refl
same_resource s Shutdown = refl

agrees_after : (views : Views) (resource : Resource) (readers : List ReaderAnswers) (past : List Call) (st : State) (c : Call) → Agrees views resource readers past st → Agrees views resource readers (past ++ c ∷ []) (accepted_after views st c)
agrees_after views resource readers past st c a = record {
  told = same_resource st.shared c ∙ a.told;
  shared = shared_agrees past st.shared c a.shared;
  parts = λ r answers h. ⊎_elim
      (λ m. (unconcerned views st.shared c st.readers r m).0 ∙ (a.parts r answers h ∙ ap (λ (p : ReaderPart). Some p) (part_waits views answers r past c m)))
      (λ m. concerned views st.shared c st.readers r (part_of views answers r past) (a.parts r answers h) m ∙ ap (λ (p : ReaderPart). Some p) (part_follows views answers r past st.shared c a.shared m))
      (cases_Bool (is_others r c));
}

pub agrees_new : (views : Views) (resource : Resource) (identity : ℕ) (readers : List ReaderAnswers) → Agrees views resource readers [] (new_state resource identity readers)
agrees_new views resource identity readers = record {
  told = refl;
  shared = record { meters = refl; next = refl; shut = refl };
  parts = λ r answers h. get_map new_part readers r answers h;
}

-- ======== steps ========
refused_uncounted : (s : Shared) (n : ℕ) (c : Call) (f : Fault) → refusal s n c ≡ Some f → (is_shutdown c && is_failed f) ≡ false
refused_uncounted s n (Meter scope) f e = refl
refused_uncounted s n (Build meter about now) f e = refl
refused_uncounted s n (Record k v l) f e = refl
refused_uncounted s n (Bind k l) f e = refl
refused_uncounted s n (RecordBound h v) f e = refl
refused_uncounted s n (Unbind h) f e = refl
refused_uncounted s n (Collect r now os) f e = refl
refused_uncounted s n Flush f e = refl
refused_uncounted s n Shutdown f e = go s.shut e
  where
    go : (b : Bool) → cond b (Some AlreadyShutdown) None ≡ Some f → is_failed f ≡ false
    go true e = ap is_failed (sym (some_is AlreadyShutdown f e))
    go false e = absurd (cc)

get_some : {X : Type 0} (xs : List X) (n : ℕ) → n < length xs → (x : X) × (slice_get xs n ≡ Some x)
get_some [] n h = absurd (omega arith)
get_some (x ∷ xs) zero h = (x, refl)
get_some (x ∷ xs) (suc n) h = let h' : n < length xs = omega arith in get_some xs n h'

-- an accepted call has an answer that counts
collect_counts : (s : Shared) (r now : ℕ) (os : List Observed) (ps : List ReaderPart) → refusal s (length ps) (Collect r now os) ≡ None → counts (Collect r now os) (collect_reply s now os (slice_get ps r)) ≡ true
collect_counts s r now os ps e = ⊎_elim
    (λ w. let g = get_some ps r (ltb-true r (length ps) w) in ap (λ o. counts (Collect r now os) (collect_reply s now os o)) g.1)
    (λ w. none_some (sym (ap (λ b. cond b (cond s.shut (Some ReaderShutDown) (observations_refusal s.instruments os)) (Some UnknownReader)) w) ∙ e))
    (cases_Bool (nat_lt r (length ps)))
  where
    none_some : Some UnknownReader ≡ None → counts (Collect r now os) (collect_reply s now os (slice_get ps r)) ≡ true
    none_some e = absurd (cc)

answer_counts : (st : State) (c : Call) → refusal st.shared (length st.readers) c ≡ None → counts c (answer_of st c) ≡ true
answer_counts st (Meter scope) e = refl
answer_counts st (Build meter about now) e = refl
answer_counts st (Record n v l) e = refl
answer_counts st (Bind n l) e = refl
answer_counts st (RecordBound h v) e = refl
answer_counts st (Unbind h) e = refl
answer_counts st (Collect r now os) e = collect_counts st.shared r now os st.readers e
answer_counts st Flush e = refl
answer_counts st Shutdown e = refl

-- a call doesn't count and changes nothing, or counts and is the machine's
abbrev Counted : Views → State → Call → Reply → State → Type 0
Counted views old c reply new = ((counts c reply ≡ false) × (new ≡ old)) ⊎ ((counts c reply ≡ true) × (new ≡ accepted_after views old c) × ((asks_readers c ≡ true) ⊎ (reply ≡ answer_of old c)))

by_reply : (views : Views) (old new : State) (c : Call) (reply : Reply) → (reply ≡ reply_of old c) × (new ≡ after views old c) → Counted views old c reply new
by_reply views old new c reply s = go (refusal old.shared (length old.readers) c) refl s
  where
    go : (f : Option Fault) → refusal old.shared (length old.readers) c ≡ f → (reply ≡ reply_by f (answer_of old c)) × (new ≡ after_by f old (accepted_after views old c)) → Counted views old c reply new
    go None e s = inr (ap (counts c) s.0 ∙ answer_counts old c e, s.1, inr s.0)
    go (Some f) e s = inl (ap (counts c) s.0 ∙ refused_uncounted old.shared (length old.readers) c f e, s.1)

and_false : (b : Bool) → (b && false) ≡ false
and_false true = refl
and_false false = refl

by_readers : (views : Views) (old new : State) (c : Call) (failed first : ℕ) → asks_readers c ≡ true → refusal old.shared (length old.readers) c ≡ None → new ≡ after views old c → Counted views old c (Reply.Refused (ReadersFailed failed first)) new
by_readers views old new (Meter scope) failed first a n e = absurd (false≢true a)
by_readers views old new (Build meter about now) failed first a n e = absurd (false≢true a)
by_readers views old new (Record k v l) failed first a n e = absurd (false≢true a)
by_readers views old new (Bind k l) failed first a n e = absurd (false≢true a)
by_readers views old new (RecordBound h v) failed first a n e = absurd (false≢true a)
by_readers views old new (Unbind h) failed first a n e = absurd (false≢true a)
by_readers views old new (Collect r now os) failed first a n e = absurd (false≢true a)
by_readers views old new Flush failed first a n e = inl (refl, e ∙ ap (λ f. after_by f old (accepted_after views old Flush)) n)
by_readers views old new Shutdown failed first a n e = inr (refl, e ∙ ap (λ f. after_by f old (accepted_after views old Shutdown)) n, inl refl)

step_counted : (views : Views) (old new : State) (c : Call) (reply : Reply) → Step views old c reply new → Counted views old c reply new
step_counted views old new c (Reply.Meter n) s = by_reply views old new c (Reply.Meter n) s
step_counted views old new c (Reply.Instrument n) s = by_reply views old new c (Reply.Instrument n) s
step_counted views old new c (Reply.Handle n) s = by_reply views old new c (Reply.Handle n) s
step_counted views old new c Reply.Done s = by_reply views old new c Reply.Done s
step_counted views old new c (Reply.Collected x) s = by_reply views old new c (Reply.Collected x) s
step_counted views old new c (Reply.Refused OutOfMemory) s = inl (and_false (is_shutdown c), s.2)
step_counted views old new c (Reply.Refused UnknownMeter) s = by_reply views old new c (Reply.Refused UnknownMeter) s
step_counted views old new c (Reply.Refused UnknownInstrument) s = by_reply views old new c (Reply.Refused UnknownInstrument) s
step_counted views old new c (Reply.Refused UnknownHandle) s = by_reply views old new c (Reply.Refused UnknownHandle) s
step_counted views old new c (Reply.Refused UnknownReader) s = by_reply views old new c (Reply.Refused UnknownReader) s
step_counted views old new c (Reply.Refused WrongNumber) s = by_reply views old new c (Reply.Refused WrongNumber) s
step_counted views old new c (Reply.Refused WrongKind) s = by_reply views old new c (Reply.Refused WrongKind) s
step_counted views old new c (Reply.Refused AlreadyShutdown) s = by_reply views old new c (Reply.Refused AlreadyShutdown) s
step_counted views old new c (Reply.Refused ReaderShutDown) s = by_reply views old new c (Reply.Refused ReaderShutDown) s
step_counted views old new c (Reply.Refused (ReadersFailed failed first)) s = by_readers views old new c failed first s.0 s.1 s.2
step_counted views old new c (Reply.Refused Exhausted) s = by_reply views old new c (Reply.Refused Exhausted) s
step_counted views old new c (Reply.Refused LedgerFull) s = by_reply views old new c (Reply.Refused LedgerFull) s
step_counted views old new c (Reply.Refused UseWorker) s = by_reply views old new c (Reply.Refused UseWorker) s
step_counted views old new c (Reply.Refused WorkersMissing) s = by_reply views old new c (Reply.Refused WorkersMissing) s

-- ======== a collection ========
-- what isn't shown as differences doesn't look at what was shown before
metric_kept : (answers : ReaderAnswers) (now start : ℕ) (before : List Point) (d : Demand) (ps : List Point) → metric answers now start (kept_of answers d before) d ps ≡ metric answers now start before d ps
metric_kept answers now start before d ps = λ i. record {
  name = d.spelling;
  description = d.identity.description;
  unit = d.identity.unit;
  content = content_of answers d start now (same (shows_differences answers d) i);
}
  where
    same : (b : Bool) → cond b (map (difference (cond b before [])) ps) ps ≡ cond b (map (difference before) ps) ps
    same true = refl
    same false = refl

abbrev scoped : Demand → Metric → ScopedMetric
scoped d m = (d.identity.scope, m)

pub collect_is : (views : Views) (resource : Resource) (readers : List ReaderAnswers) (past : List Call) (st : State) (r : ℕ) (answers : ReaderAnswers) (now : ℕ) (os : List Observed) → Agrees views resource readers past st
    → collect_from st.shared now os (part_of views answers r past) ≡ collection_of views resource answers r past now os
collect_is views resource readers past st r answers now os a =
    (λ i. collection (a.told i) (a.shared.meters i) (map_both (λ (q : Stream). scoped q.demand (metric answers now q.start q.reported q.demand (points_at answers (feeds_of views answers [] (builds_in past)) os q))) (stream_in views answers r past)
    (λ (d : Demand). scoped d (metric answers now (start_of views answers r d past) (reported_of views answers r d past) d (window_points answers d (history views answers r d past ++ observed_events (feeds_of views answers [] (builds_in past)) d os)))) (streams_of views answers (builds_in past)) (λ d. ap (scoped d) (same_metric d)) i))
  where
    same_metric : (d : Demand) → metric answers now (start_of views answers r d past) (kept_of answers d (reported_of views answers r d past)) d (points_at answers (feeds_of views answers [] (builds_in past)) os (stream_in views answers r past d))
        ≡ metric answers now (start_of views answers r d past) (reported_of views answers r d past) d (window_points answers d (history views answers r d past ++ observed_events (feeds_of views answers [] (builds_in past)) d os))
    same_metric d = metric_kept answers now (start_of views answers r d past) (reported_of views answers r d past) d (points_at answers (feeds_of views answers [] (builds_in past)) os (stream_in views answers r past d))
        ∙ ap (metric answers now (start_of views answers r d past) (reported_of views answers r d past) d) (points_now views answers r past os d)

-- what a call that counts gives the reader
given_now : (views : Views) (resource : Resource) (readers : List ReaderAnswers) (past : List Call) (st : State) (r : ℕ) (answers : ReaderAnswers) (c : Call) (reply : Reply) → Agrees views resource readers past st → slice_get readers r ≡ Some answers
    → (asks_readers c ≡ true) ⊎ (reply ≡ answer_of st c) → collected_by r c reply ≡ made_by views resource answers r past c
given_now views resource readers past st r answers (Meter scope) reply a h w = refl
given_now views resource readers past st r answers (Build meter about now) reply a h w = refl
given_now views resource readers past st r answers (Record n v l) reply a h w = refl
given_now views resource readers past st r answers (Bind n l) reply a h w = refl
given_now views resource readers past st r answers (RecordBound k v) reply a h w = refl
given_now views resource readers past st r answers (Unbind k) reply a h w = refl
given_now views resource readers past st r answers (Collect q now os) reply a h w = ⊎_elim (λ m. mine m w) (λ m. ap (λ b. cond b (shown_in reply) []) m ∙ sym (ap (λ b. cond b (collection_of views resource answers r past now os ∷ []) []) m)) (cases_Bool (q == r))
  where
    answered : q ≡ r → reply ≡ answer_of st (Collect q now os) → shown_in reply ≡ collection_of views resource answers r past now os ∷ []
    answered e t =
        ap shown_in (t ∙ ap (collect_reply st.shared now os) (ap (slice_get st.readers) e ∙ a.parts r answers h))
        ∙ ap (λ c. c ∷ []) (collect_is views resource readers past st r answers now os a)

    mine : (q == r) ≡ true → (asks_readers (Collect q now os) ≡ true) ⊎ (reply ≡ answer_of st (Collect q now os)) → cond (q == r) (shown_in reply) [] ≡ cond (q == r) (collection_of views resource answers r past now os ∷ []) []
    mine m (inl e) = absurd (false≢true e)
    mine m (inr t) = ap (λ b. cond b (shown_in reply) []) m ∙ (answered (eqb-true q r m) t ∙ sym (ap (λ b. cond b (collection_of views resource answers r past now os ∷ []) []) m))
given_now views resource readers past st r answers Flush reply a h w = refl
given_now views resource readers past st r answers Shutdown reply a h w = refl

-- a call that doesn't count gives the reader nothing
shown_none : (c : Call) (reply : Reply) → counts c reply ≡ false → shown_in reply ≡ []
shown_none c (Reply.Meter n) e = refl
shown_none c (Reply.Instrument n) e = refl
shown_none c (Reply.Handle n) e = refl
shown_none c Reply.Done e = refl
shown_none c (Reply.Collected x) e = absurd (true≢false e)
shown_none c (Reply.Refused f) e = refl

given_none : (r : ℕ) (c : Call) (reply : Reply) → counts c reply ≡ false → collected_by r c reply ≡ []
given_none r (Meter scope) reply e = refl
given_none r (Build meter about now) reply e = refl
given_none r (Record n v l) reply e = refl
given_none r (Bind n l) reply e = refl
given_none r (RecordBound k v) reply e = refl
given_none r (Unbind k) reply e = refl
given_none r (Collect q now os) reply e = ap (λ l. cond (q == r) l []) (shown_none (Collect q now os) reply e) ∙ cond_same (q == r) []
given_none r Flush reply e = refl
given_none r Shutdown reply e = refl

-- ======== runs ========
abbrev Claim : Views → Resource → List ReaderAnswers → List Call → List Call → List Reply → State → Type 0
Claim views resource readers past calls replies new =
    Agrees views resource readers (past ++ made_calls calls replies) new
    × ((r : ℕ) (answers : ReaderAnswers) → slice_get readers r ≡ Some answers → given_collections r calls replies ≡ gather (made_by views resource answers r) past (made_calls calls replies))

run_join : (views : Views) (resource : Resource) (readers : List ReaderAnswers) (past : List Call) (old mid new : State) (c : Call) (reply : Reply) (calls : List Call) (replies : List Reply)
    → Counted views old c reply mid → Agrees views resource readers past old
    → ((past : List Call) → Agrees views resource readers past mid → Claim views resource readers past calls replies new)
    → Claim views resource readers past (c ∷ calls) (reply ∷ replies) new
run_join views resource readers past old mid new c reply calls replies s a ih = ⊎_elim idle if_counted s
  where
    -- the claim once it is known whether the call counts
    Known : Bool → Type 0
    Known b = Agrees views resource readers (past ++ cond b (c ∷ made_calls calls replies) (made_calls calls replies)) new
        × ((r : ℕ) (answers : ReaderAnswers) → slice_get readers r ≡ Some answers → collected_by r c reply ++ given_collections r calls replies ≡ gather (made_by views resource answers r) past (cond b (c ∷ made_calls calls replies) (made_calls calls replies)))

    A : State → Type 0
    A st = Agrees views resource readers past st

    B : State → Type 0
    B st = Agrees views resource readers (past ++ c ∷ []) st

    C : List Call → Type 0
    C l = Agrees views resource readers l new

    idle : (counts c reply ≡ false) × (mid ≡ old) → Known (counts c reply)
    idle e =
        let q = ih past (subst A (sym e.1) a) in
        subst Known (sym e.0) (q.0, λ r answers h. ap (λ l. l ++ given_collections r calls replies) (given_none r c reply e.0) ∙ q.1 r answers h)

    if_counted : (counts c reply ≡ true) × (mid ≡ accepted_after views old c) × ((asks_readers c ≡ true) ⊎ (reply ≡ answer_of old c)) → Known (counts c reply)
    if_counted e =
        let q = ih (past ++ c ∷ []) (subst B (sym e.1) (agrees_after views resource readers past old c a)) in
        subst Known (sym e.0) (subst C (append_assoc past (c ∷ []) (made_calls calls replies)) q.0, λ r answers h. (λ i. given_now views resource readers past old r answers c reply a h e.2 i ++ q.1 r answers h i))

pub run_agrees : (views : Views) (resource : Resource) (readers : List ReaderAnswers) (past : List Call) (old new : State) (calls : List Call) (replies : List Reply) → Run views old calls replies new → Agrees views resource readers past old
    → Claim views resource readers past calls replies new
run_agrees views resource readers past old new [] [] run a =
    let P : State → Type 0 = λ st. Agrees views resource readers past st in
    let Q : List Call → Type 0 = λ l. Agrees views resource readers l new in
    (subst Q (sym (append-nil past)) (subst P (sym run) a), λ r answers h. refl)
run_agrees views resource readers past old new [] (reply ∷ replies) run a = absurd run
run_agrees views resource readers past old new (c ∷ calls) [] run a = absurd run
run_agrees views resource readers past old new (c ∷ calls) (reply ∷ replies) run a =
    run_join views resource readers past old run.0 new c reply calls replies (step_counted views old run.0 c reply run.1) a (λ p b. run_agrees views resource readers p run.0 new calls replies run.2 b)

-- ======== the laws ========
pub part_is : (views : Views) (resource : Resource) (identity : ℕ) (readers : List ReaderAnswers) (calls : List Call) (replies : List Reply) (new : State) → IsRun views resource identity readers calls replies new
    → (r : ℕ) (answers : ReaderAnswers) (part : ReaderPart) → slice_get readers r ≡ Some answers → slice_get new.readers r ≡ Some part → part ≡ part_of views answers r (made_calls calls replies)
part_is views resource identity readers calls replies new run r answers part h g =
    some_is part (part_of views answers r (made_calls calls replies)) (sym g ∙ (run_agrees views resource readers [] (new_state resource identity readers) new calls replies run (agrees_new views resource identity readers)).0.parts r answers h)

map_same : {X : Type 0} (xs : List X) → map (λ x. x) xs ≡ xs
map_same [] = refl
map_same (x ∷ xs) = ap (λ l. x ∷ l) (map_same xs)

pub streams_law : AreStreamsOfBuilds
streams_law views resource identity readers calls replies new run r answers part h g =
    ap (λ (p : ReaderPart). map (λ (s : Stream). s.demand) p.streams) (part_is views resource identity readers calls replies new run r answers part h g)
    ∙ (map_both (λ (s : Stream). s.demand) (stream_in views answers r (made_calls calls replies)) (λ d. d) (streams_of views answers (builds_in (made_calls calls replies))) (λ d. refl)
    ∙ map_same (streams_of views answers (builds_in (made_calls calls replies))))

pub feeds_law : AreFeedsOfBuilds
feeds_law views resource identity readers calls replies new run r answers part h g =
    ap (λ (p : ReaderPart). p.feeds) (part_is views resource identity readers calls replies new run r answers part h g)

pub places_law : ArePlacesOfHistories
places_law views resource identity readers calls replies new run r answers part h g =
    ap (λ (p : ReaderPart). map (λ (s : Stream). map (λ (e : Entry). e.set) s.machine.table.entries) p.streams) (part_is views resource identity readers calls replies new run r answers part h g)
    ∙ map_both (λ (s : Stream). map (λ (e : Entry). e.set) s.machine.table.entries) (stream_in views answers r (made_calls calls replies))
    (λ (d : Demand). places_of d.limit (window_of answers d (history views answers r d (made_calls calls replies)))) (streams_of views answers (builds_in (made_calls calls replies)))
    (λ d. places_are (aggregate_of d) (kind_of answers d) d.limit (history views answers r d (made_calls calls replies)))

pub counted_law : AreCountedOfHistories
counted_law views resource identity readers calls replies new run r answers part h g =
    ap (λ (p : ReaderPart). map (λ (s : Stream). map (λ (e : Entry). e.set) (filter (λ (e : Entry). e.counted) s.machine.table.entries)) p.streams) (part_is views resource identity readers calls replies new run r answers part h g)
    ∙ map_both (λ (s : Stream). map (λ (e : Entry). e.set) (filter (λ (e : Entry). e.counted) s.machine.table.entries)) (stream_in views answers r (made_calls calls replies))
    (λ (d : Demand). sets_that_count (uncounted_of d.limit (window_of answers d (history views answers r d (made_calls calls replies)))) (places_of d.limit (window_of answers d (history views answers r d (made_calls calls replies))))) (streams_of views answers (builds_in (made_calls calls replies)))
    (λ d. counted_are (aggregate_of d) (kind_of answers d) d.limit (history views answers r d (made_calls calls replies)))

pub collections_law : AreCollectionsOfHistories
collections_law views resource identity readers calls replies new run r answers h =
    (run_agrees views resource readers [] (new_state resource identity readers) new calls replies run (agrees_new views resource identity readers)).1 r answers h
