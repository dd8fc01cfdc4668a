-- What a synchronous stream recorded is what the instruments that feed it accepted.
use Rattle.std.proofs.Common.{◌≡◌, map, ⊎_elim, ℕ, zero, suc, ◌+◌, ◌<◌, Bool, true, false, List, [], ◌∷◌, ◌++◌, length, refl, arith, sym, ◌∙◌, ap, Option, Some, None, subst, cond}
use Rattle.std.specs.Prelude.{◌^◌, ◌&&◌, fold, slice_get, is_some, nat_lt}
use Rattle.std.proofs.lemmas.Bool.{cases_Bool, true≢false, false≢true}
use Rattle.std.proofs.lemmas.List.{append-nil, length_push, map-append}
use Rattle.std.proofs.Math.Nat.{mod-add-mod}
use Rattle.otel_model_stream.specs.Sets.{AttributeSet}
use Rattle.otel_model_stream.specs.Folds.{Aggregate, Amount, wrap, sample_of}
use Rattle.otel_model_stream.specs.Events.{Event, held_by}
use Rattle.otel_model_stream.specs.Machine.{Machine, run, through}
use Rattle.otel_model_stream.specs.Totals.{size, has_number, without_number}
use Rattle.otel_model.specs.Calls.{InstrumentKind, Counter, UpDownCounter, Histogram, ObservableCounter, ObservableUpDownCounter, Gauge, ObservableGauge, is_observable, About, Observed, Call, Meter, Build, Record, Bind, RecordBound, Unbind, Collect, Flush, Shutdown, Fault, UnknownReader, ReaderShutDown, WrongKind, Exhausted}
use Rattle.otel_model.specs.Demands.{Identity, Demand, Views, ReaderAnswers, is_dropped, fed_identities}
use Rattle.otel_model.specs.Streams.{is_sum, observes_sums, is_drained, is_delta, kind_of, aggregate_of}
use Rattle.otel_model.specs.State.{InstrumentState, LiveHandle, Shared, Stream, ReaderPart}
use Rattle.otel_model.specs.Refusals.{refusal, record_refusal, bind_refusal, instrument_held, handle_refusal, held_refusal, number_refusal, observation_refusal, observations_refusal, first_fault}
use Rattle.otel_model.specs.Sent.{scope_of, is_fed, set_for, observed_events}
use Rattle.otel_model.specs.Machine.{new_instrument, instrument_after_record, changed_at, accepted_by, without_handle, shared_after, if_held, recorded_with, recorded_over, stream_after, new_stream, part_after_demand, build_demands, with_feeds, part_after_build, part_after_call, readers_after, accepted_after, new_part, new_state}
use Rattle.otel_model.specs.Steps.{after_by}
use Rattle.otel_model.specs.Accepted.{accepted_for}
use Rattle.otel_model.specs.Laws.{IsAccepted}
use Rattle.otel_model.proofs.Single.{get_map, step_cases, part_after}
use Rattle.otel_model.proofs.Recorded.{held_is, by_unbind, collect_keeps, keeps_when}
use Rattle.otel_model.specs.Lawful.{EachOf, HandlesAreSound, TakesRecords, numbers, IsAccounted, IsOfEvents, PartIsLawful, IsLawful, IsBalanced, IsPaidFor, IsLawfulAtFirst, EachCallKeepsLawful, EachRunKeepsLawful, LawfulBalances}
use Rattle.otel_model.proofs.OfEvents.{events_after, events_at_first, balanced_events}
use Rattle.otel_model.proofs.Amounts.{each_weaker, each_push, each_map, each_at, each_without, not_fed, when_fed, new_adds_nothing, nothing_accepted, kinds_of, same_kinds, same_number, AreDistinct, distinct_push, distinct_without, held_for, held_push, held_when_fed, held_without}
use Rattle.otel_model.proofs.Feeding.{fed_or_new, known_feed, held_before, none_held, fed_demanded, demands_kind, known_kind, known_after, demanded_known, same_answers, same_feeds, streams_after}
use Rattle.otel_model.proofs.Unheld.{record_keeps, unsent_keeps, bound_keeps, unheld_unbind, unheld_collect}

-- ======== what is shared ========
get_lt : {X : Type 0} (xs : List X) (n : ℕ) (x : X) → slice_get xs n ≡ Some x → n < length xs
get_lt [] n x e = absurd (cc)
get_lt (y ∷ ys) zero x e = omega arith
get_lt (y ∷ ys) (suc n) x e = let ih : n < length ys = get_lt ys n x e in omega arith

-- the instrument of a record or bind that is not refused is there
pub recorded_there : (o : Option InstrumentState) (given : Bool) → record_refusal o given ≡ None → (i : InstrumentState) × (o ≡ Some i)
recorded_there None given e = absurd (cc)
recorded_there (Some i) given e = (i, refl)

bound_there : (next : ℕ) (o : Option InstrumentState) → bind_refusal next o ≡ None → (i : InstrumentState) × (o ≡ Some i) × (is_observable i.kind ≡ false)
bound_there next None e = absurd (cc)
bound_there next (Some i) e = (i, refl, right_kind (is_observable i.kind) (cond (nat_lt (next + 1) (2 ^ 64)) None (Some Exhausted)) e)
  where
    right_kind : (b : Bool) (f : Option Fault) → cond b (Some WrongKind) f ≡ None → b ≡ false
    right_kind true f e = absurd (cc)
    right_kind false f e = refl

held_there : (o : Option InstrumentState) (given : Bool) → held_refusal o given ≡ None → (i : InstrumentState) × (o ≡ Some i)
held_there None given e = absurd (cc)
held_there (Some i) given e = (i, refl)

pub handle_there : (o : Option ℕ) (is : List InstrumentState) (given : Bool) → handle_refusal o is given ≡ None → (n : ℕ) × (i : InstrumentState) × (o ≡ Some n) × (slice_get is n ≡ Some i)
handle_there None is given e = absurd (cc)
handle_there (Some n) is given e = let q = held_there (slice_get is n) given e in (n, q.0, refl, q.1)

accepted_number : (o : Option ℕ) (v : Amount) (is : List InstrumentState) → length (accepted_by o v is) ≡ length is
accepted_number None v is = refl
accepted_number (Some n) v is = same_number n (instrument_after_record v) is

less_weaker : (a b c : ℕ) → a < b → c ≡ b + 1 → a < c
less_weaker a b c h e = omega arith

same_bound : (a b c : ℕ) → c ≡ b → a < b → a < c
same_bound a b c e h = omega arith

next_above : (n : ℕ) → n < n + 1
next_above n = omega arith

grown : (a b : ℕ) → a < b → a < b + 1
grown a b h = omega arith

some_instrument : (a b : InstrumentState) → Some a ≡ Some b → a ≡ b
some_instrument a b e = cc

get_pushed : (is : List InstrumentState) (new : InstrumentState) (n : ℕ) (i : InstrumentState) → slice_get is n ≡ Some i → slice_get (is ++ new ∷ []) n ≡ Some i
get_pushed [] new n i e = absurd (cc)
get_pushed (j ∷ is) new zero i e = e
get_pushed (j ∷ is) new (suc n) i e = get_pushed is new n i e

-- what accepts a record takes in records as before
takes_accepted : (v : Amount) (m : ℕ) (is : List InstrumentState) (n : ℕ) → TakesRecords is n → TakesRecords (changed_at m (instrument_after_record v) is) n
takes_accepted v m [] n t = t
takes_accepted v zero (j ∷ is) zero t = let is_it : j ≡ t.0 = some_instrument j t.0 t.1 in (instrument_after_record v j, refl, ap (λ (i : InstrumentState). is_observable i.kind) is_it ∙ t.2)
takes_accepted v zero (j ∷ is) (suc n) t = t
takes_accepted v (suc m) (j ∷ is) zero t = t
takes_accepted v (suc m) (j ∷ is) (suc n) t = takes_accepted v m is n t

takes_accepted_by : (o : Option ℕ) (v : Amount) (is : List InstrumentState) (n : ℕ) → TakesRecords is n → TakesRecords (accepted_by o v is) n
takes_accepted_by None v is n t = t
takes_accepted_by (Some m) v is n t = takes_accepted v m is n t

shared_sound : (s : Shared) (readers : ℕ) (c : Call) → refusal s readers c ≡ None → HandlesAreSound s → HandlesAreSound (shared_after s c)
shared_sound s readers (Meter scope) e a = record { bound = a.bound; below = a.below; distinct = a.distinct; synchronous = a.synchronous }
shared_sound s readers (Build meter about now) e a = record {
  bound = each_weaker (λ (p : LiveHandle). p.1 < length s.instruments) (λ (p : LiveHandle). p.1 < length (s.instruments ++ new_instrument about ∷ [])) s.live
      (λ p h. less_weaker p.1 (length s.instruments) (length (s.instruments ++ new_instrument about ∷ [])) h (length_push s.instruments (new_instrument about))) a.bound;
  below = a.below;
  distinct = a.distinct;
  synchronous = each_weaker (λ (p : LiveHandle). TakesRecords s.instruments p.1) (λ (p : LiveHandle). TakesRecords (s.instruments ++ new_instrument about ∷ []) p.1) s.live
      (λ p t. (t.0, get_pushed s.instruments (new_instrument about) p.1 t.0 t.1, t.2)) a.synchronous;
}
shared_sound s readers (Record n v l) e a = record {
  bound = each_weaker (λ (p : LiveHandle). p.1 < length s.instruments) (λ (p : LiveHandle). p.1 < length (changed_at n (instrument_after_record v.amount) s.instruments)) s.live
      (λ p h. same_bound p.1 (length s.instruments) (length (changed_at n (instrument_after_record v.amount) s.instruments)) (same_number n (instrument_after_record v.amount) s.instruments) h) a.bound;
  below = a.below;
  distinct = a.distinct;
  synchronous = each_weaker (λ (p : LiveHandle). TakesRecords s.instruments p.1) (λ (p : LiveHandle). TakesRecords (changed_at n (instrument_after_record v.amount) s.instruments) p.1) s.live
      (λ p t. takes_accepted v.amount n s.instruments p.1 t) a.synchronous;
}
shared_sound s readers (Bind n l) e a =
    let there = bound_there s.next (slice_get s.instruments n) e in
    record {
      bound = each_push (λ (p : LiveHandle). p.1 < length s.instruments) s.live (s.next, n) a.bound (get_lt s.instruments n there.0 there.1);
      below = each_push (λ (p : LiveHandle). p.0 < s.next + 1) s.live (s.next, n) (each_weaker (λ (p : LiveHandle). p.0 < s.next) (λ (p : LiveHandle). p.0 < s.next + 1) s.live (λ p h. grown p.0 s.next h) a.below) (next_above s.next);
      distinct = distinct_push s.next n s.live a.below a.distinct;
      synchronous = each_push (λ (p : LiveHandle). TakesRecords s.instruments p.1) s.live (s.next, n) a.synchronous there;
    }
shared_sound s readers (RecordBound h v) e a = record {
  bound = each_weaker (λ (p : LiveHandle). p.1 < length s.instruments) (λ (p : LiveHandle). p.1 < length (accepted_by (instrument_held h s.live) v.amount s.instruments)) s.live
      (λ p q. same_bound p.1 (length s.instruments) (length (accepted_by (instrument_held h s.live) v.amount s.instruments)) (accepted_number (instrument_held h s.live) v.amount s.instruments) q) a.bound;
  below = a.below;
  distinct = a.distinct;
  synchronous = each_weaker (λ (p : LiveHandle). TakesRecords s.instruments p.1) (λ (p : LiveHandle). TakesRecords (accepted_by (instrument_held h s.live) v.amount s.instruments) p.1) s.live
      (λ p t. takes_accepted_by (instrument_held h s.live) v.amount s.instruments p.1 t) a.synchronous;
}
shared_sound s readers (Unbind h) e a = record {
  bound = each_without (λ (p : LiveHandle). p.1 < length s.instruments) h s.live a.bound;
  below = each_without (λ (p : LiveHandle). p.0 < s.next) h s.live a.below;
  distinct = distinct_without h s.live a.distinct;
  synchronous = each_without (λ (p : LiveHandle). TakesRecords s.instruments p.1) h s.live a.synchronous;
}
shared_sound s readers (Collect r now os) e a = a
shared_sound s readers Flush e a = a
shared_sound s readers Shutdown e a = record { bound = a.bound; below = a.below; distinct = a.distinct; synchronous = a.synchronous }

-- ======== one stream ========
-- a synchronous stream isn't drained
synchronous_stays : (d : Demand) → is_observable d.identity.kind ≡ false → is_drained d ≡ false
synchronous_stays d e = go (is_sum d.aggregation) d.identity.kind e
  where
    go : (b : Bool) (k : InstrumentKind) → is_observable k ≡ false → (b && observes_sums k) ≡ false
    go false k e = refl
    go true Counter e = refl
    go true UpDownCounter e = refl
    go true Histogram e = refl
    go true ObservableCounter e = absurd (true≢false e)
    go true ObservableUpDownCounter e = absurd (true≢false e)
    go true Gauge e = refl
    go true ObservableGauge e = refl

module _ (answers : ReaderAnswers) (feeds : List (List Identity)) (live : List LiveHandle) (is : List InstrumentState) (q : Stream) where
  abbrev x : Identity
  x = q.demand.identity

  abbrev σ : Aggregate
  σ = aggregate_of q.demand

  abbrev over : List Event → ℕ
  over es = recorded_over (aggregate_of q.demand) (kind_of answers q.demand) q.demand.limit q.machine q.recorded es

  abbrev ran : List Event → Machine
  ran es = run (aggregate_of q.demand) (kind_of answers q.demand) q.demand.limit q.machine es

  record_stream : (n : ℕ) (v : Amount) (s : AttributeSet) (i : InstrumentState) → slice_get is n ≡ Some i
      → q.recorded ≡ wrap (accepted_for (aggregate_of q.demand) q.demand.identity feeds is)
      → (numbers (ran (cond (is_fed feeds n q.demand.identity) (Event.Record s v ∷ []) [])).live ≡ numbers q.machine.live)
      × (over (cond (is_fed feeds n q.demand.identity) (Event.Record s v ∷ []) []) ≡ wrap (accepted_for (aggregate_of q.demand) q.demand.identity feeds (changed_at n (instrument_after_record v) is)))
  record_stream n v s i e r = go (is_fed feeds n q.demand.identity) refl
    where
      go : (b : Bool) → is_fed feeds n q.demand.identity ≡ b
          → (numbers (ran (cond b (Event.Record s v ∷ []) [])).live ≡ numbers q.machine.live)
          × (over (cond b (Event.Record s v ∷ []) []) ≡ wrap (accepted_for (aggregate_of q.demand) q.demand.identity feeds (changed_at n (instrument_after_record v) is)))
      go true t = (
        refl,
        ap (λ k. wrap (k + size σ v)) r
            ∙ (mod-add-mod (accepted_for σ x feeds is) (2 ^ 64) (size σ v)
            ∙ sym (when_fed σ x v feeds is n i t e)),
      )
      go false t = (refl, r ∙ sym (ap wrap (not_fed σ x v feeds is n t)))

  bind_stream : (next n : ℕ) (s : AttributeSet) → numbers q.machine.live ≡ held_for feeds q.demand.identity live
      → (numbers (ran (cond (is_fed feeds n q.demand.identity) (Event.Bind next s ∷ []) [])).live ≡ held_for feeds q.demand.identity (live ++ (next, n) ∷ []))
      × (over (cond (is_fed feeds n q.demand.identity) (Event.Bind next s ∷ []) []) ≡ q.recorded)
  bind_stream next n s h =
      let g = go (is_fed feeds n q.demand.identity) in
      (g.0 ∙ (ap (λ l. l ++ cond (is_fed feeds n q.demand.identity) (next ∷ []) []) h ∙ sym (held_push feeds x live next n)), g.1)
    where
      go : (b : Bool) → (numbers (ran (cond b (Event.Bind next s ∷ []) [])).live ≡ numbers q.machine.live ++ cond b (next ∷ []) []) × (over (cond b (Event.Bind next s ∷ []) []) ≡ q.recorded)
      go true = (map-append (λ p. p.0) q.machine.live _, refl)
      go false = (sym (append-nil (numbers q.machine.live)), refl)

  bound_stream : (h n : ℕ) (v : Amount) (i : InstrumentState) → AreDistinct live → instrument_held h live ≡ Some n → slice_get is n ≡ Some i
      → numbers q.machine.live ≡ held_for feeds q.demand.identity live → q.recorded ≡ wrap (accepted_for (aggregate_of q.demand) q.demand.identity feeds is)
      → (numbers (ran (Event.RecordBound h v ∷ [])).live ≡ numbers q.machine.live)
      × (over (Event.RecordBound h v ∷ []) ≡ wrap (accepted_for (aggregate_of q.demand) q.demand.identity feeds (accepted_by (instrument_held h live) v is)))
  bound_stream h n v i d o e l r =
      let g = go (held_by h q.machine.live) (sym (held_is h q.machine.live) ∙ (ap (has_number h) l ∙ held_when_fed feeds x h n live d o)) in
      (g.0, g.1 ∙ sym (ap (λ k. wrap (accepted_for σ x feeds (accepted_by k v is))) o))
    where
      go : (k : Option AttributeSet) → is_some k ≡ is_fed feeds n q.demand.identity
          → (numbers (through k (sample_of σ v) q.machine).live ≡ numbers q.machine.live)
          × (if_held k (wrap (q.recorded + size σ v)) q.recorded ≡ wrap (accepted_for (aggregate_of q.demand) q.demand.identity feeds (changed_at n (instrument_after_record v) is)))
      go None t = (refl, r ∙ sym (ap wrap (not_fed σ x v feeds is n (sym t))))
      go (Some g) t = (
        refl,
        ap (λ k. wrap (k + size σ v)) r
            ∙ (mod-add-mod (accepted_for σ x feeds is) (2 ^ 64) (size σ v)
            ∙ sym (when_fed σ x v feeds is n i (sym t) e)),
      )

  unbind_stream : (h : ℕ) → AreDistinct live → numbers q.machine.live ≡ held_for feeds q.demand.identity live
      → numbers (ran (Event.Unbind h ∷ [])).live ≡ held_for feeds q.demand.identity (without_handle h live)
  unbind_stream h d l =
      by_unbind σ (kind_of answers q.demand) q.demand.limit q.machine h (held_by h q.machine.live) refl
      ∙ (ap (without_number h) l ∙ sym (held_without feeds x h live d))

  -- observations go to other streams
  unobserved : is_observable q.demand.identity.kind ≡ false
      → ((n : ℕ) (k : InstrumentKind) → is_fed feeds n q.demand.identity ≡ true → slice_get (kinds_of is) n ≡ Some k → is_observable k ≡ is_observable q.demand.identity.kind)
      → (os : List Observed) → observations_refusal is os ≡ None → observed_events feeds q.demand os ≡ []
  unobserved sync kinds [] e = refl
  unobserved sync kinds (o ∷ os) e =
      let parts = both_none (observation_refusal (slice_get is o.instrument) o.value.signed) (observations_refusal is os) e in
      go (is_fed feeds o.instrument q.demand.identity) refl (seen (slice_get is o.instrument) o.value.signed parts.0) (unobserved sync kinds os parts.1)
    where
      both_none : (f g : Option Fault) → first_fault f g ≡ None → (f ≡ None) × (g ≡ None)
      both_none None g e = (refl, e)
      both_none (Some f) g e = absurd (cc)

      seen_kind : (i : InstrumentState) (given : Bool) (b : Bool) → is_observable i.kind ≡ b → cond b (number_refusal i.signed given) (Some WrongKind) ≡ None → b ≡ true
      seen_kind i given true t e = refl
      seen_kind i given false t e = absurd (cc)

      seen : (k : Option InstrumentState) (given : Bool) → observation_refusal k given ≡ None → (i : InstrumentState) × (k ≡ Some i) × (is_observable i.kind ≡ true)
      seen None given e = absurd (cc)
      seen (Some i) given e = (i, refl, seen_kind i given (is_observable i.kind) refl e)

      go : (b : Bool) → is_fed feeds o.instrument q.demand.identity ≡ b → (i : InstrumentState) × (slice_get is o.instrument ≡ Some i) × (is_observable i.kind ≡ true) → observed_events feeds q.demand os ≡ []
          → cond b (Event.Record (set_for q.demand o.attributes) o.value.amount ∷ observed_events feeds q.demand os) (observed_events feeds q.demand os) ≡ []
      go true t s ih = absurd (true≢false (sym s.2 ∙ (kinds o.instrument s.0.kind t (get_map (λ (i : InstrumentState). i.kind) is o.instrument s.0 s.1) ∙ sync)))
      go false t s ih = ih

  collect_stream : is_observable q.demand.identity.kind ≡ false → (es : List Event) → es ≡ []
      → (numbers (ran (es ++ Event.Collect ∷ [])).live ≡ numbers q.machine.live) × (over (es ++ Event.Collect ∷ []) ≡ q.recorded)
  collect_stream sync es e =
      let P : List Event → Type 0 = λ l. (numbers (ran (l ++ Event.Collect ∷ [])).live ≡ numbers q.machine.live) × (over (l ++ Event.Collect ∷ []) ≡ q.recorded) in
      subst P (sym e)
      (ap numbers (collect_keeps σ (kind_of answers q.demand) q.demand.limit (kind_of answers q.demand) q.machine (keeps_when (is_drained q.demand) (is_delta answers q.demand) (synchronous_stays q.demand sync))), refl)

-- ======== a reader's part ========
-- a call that only sends to the streams
sent_sound : (live live' : List LiveHandle) (is is' : List InstrumentState) (p : ReaderPart) (next : ℕ) (c : Call) → PartIsLawful live is p → kinds_of is' ≡ kinds_of is → length is' ≡ length is
    → ((q : Stream) → IsAccounted p.feeds live is q → IsAccounted p.feeds live' is' (stream_after p.answers p.feeds next c q))
    → ((q : Stream) → is_observable q.demand.identity.kind ≡ true → q.machine.live ≡ [] → (stream_after p.answers p.feeds next c q).machine.live ≡ []) → PartIsLawful live' is' (part_after_call next c p)
sent_sound live live' is is' p next c a k l each none = record {
  known = a.known;
  kinds = λ n y j f g. a.kinds n y j f (sym (ap (λ ks. slice_get ks n) k) ∙ g);
  as_many = a.as_many ∙ sym l;
  streams = each_map (IsAccounted p.feeds live is) (IsAccounted p.feeds live' is') (stream_after p.answers p.feeds next c) p.streams each a.streams;
  of_events = each_map (IsOfEvents p.answers) (IsOfEvents p.answers) (stream_after p.answers p.feeds next c) p.streams (λ q h. events_after p.answers p.feeds next c q h) a.of_events;
  unheld = each_map (λ (q : Stream). is_observable q.demand.identity.kind ≡ true → q.machine.live ≡ []) (λ (q : Stream). is_observable q.demand.identity.kind ≡ true → q.machine.live ≡ []) (stream_after p.answers p.feeds next c) p.streams
      (λ q h o. none q o (h o)) a.unheld;
}

-- a build
with_sound : (live : List LiveHandle) (is : List InstrumentState) (p : ReaderPart) (ds : List Demand) (about : About) (now : ℕ) → PartIsLawful live is p → EachOf (λ (h : LiveHandle). h.1 < length is) live
    → EachOf (λ (d : Demand). d.identity.kind ≡ about.kind) ds → PartIsLawful live (is ++ new_instrument about ∷ []) (with_feeds ds (fold (part_after_demand now) p ds))
with_sound live is p ds about now a b k = record {
  known = λ n y f. ⊎_elim
      (λ t. known_after now ds p y (a.known n y t))
      (λ t. demanded_known now ds p y (fed_demanded (is_dropped after.fates) ds y t))
      (known_feed p.feeds new n y (feed n y f));
  kinds = λ n y j f g. ⊎_elim
      (λ t. a.kinds n y j t.0 t.1)
      (λ t. ap is_observable (t.1 ∙ sym (known_kind about.kind ds y k (fed_demanded (is_dropped after.fates) ds y t.0))))
      (fed_or_new p.feeds new (kinds_of is) about.kind n y j (a.as_many ∙ sym (length_kinds is)) (feed n y f) (sym (ap (λ ks. slice_get ks n) (map-append (λ (i : InstrumentState). i.kind) is (new_instrument about ∷ []))) ∙ g));
  as_many = ap (λ (l : List (List Identity)). length (l ++ new ∷ [])) (same_feeds now ds p) ∙ (length_push p.feeds new ∙ (ap (λ m. m + 1) a.as_many ∙ sym (length_push is (new_instrument about))));
  streams = subst (λ fs. EachOf (IsAccounted (fs ++ new ∷ []) live (is ++ new_instrument about ∷ [])) after.streams) (sym (same_feeds now ds p))
      (each_weaker (IsAccounted p.feeds live is) (IsAccounted (p.feeds ++ new ∷ []) live (is ++ new_instrument about ∷ [])) after.streams
      (λ q h sync. ((h sync).0 ∙ sym (held_before p.feeds new q.demand.identity live below), (h sync).1 ∙ sym (ap wrap (new_adds_nothing (aggregate_of q.demand) q.demand.identity p.feeds is new about a.as_many))))
      (streams_after now (IsAccounted p.feeds live is) (λ y. (n : ℕ) × (is_fed p.feeds n y ≡ true)) begun ds p (λ y h. a.known h.0 y h.1) a.streams));
  of_events = subst (λ answers. EachOf (IsOfEvents answers) after.streams) (sym (same_answers now ds p)) (streams_after now (IsOfEvents p.answers) (λ y. ⊥) (λ d h. events_at_first p.answers now d) ds p (λ y h. absurd h) a.of_events);
  unheld = streams_after now (λ (q : Stream). is_observable q.demand.identity.kind ≡ true → q.machine.live ≡ []) (λ y. ⊥) (λ d h o. refl) ds p (λ y h. absurd h) a.unheld;
}
  where
    after : ReaderPart
    after = fold (part_after_demand now) p ds

    new : List Identity
    new = fed_identities (is_dropped (fold (part_after_demand now) p ds).fates) ds

    feed : (n : ℕ) (y : Identity) → is_fed ((fold (part_after_demand now) p ds).feeds ++ new ∷ []) n y ≡ true → is_fed (p.feeds ++ new ∷ []) n y ≡ true
    feed n y f = sym (ap (λ (l : List (List Identity)). is_fed (l ++ new ∷ []) n y) (same_feeds now ds p)) ∙ f

    length_kinds : (is : List InstrumentState) → length (kinds_of is) ≡ length is
    length_kinds [] = refl
    length_kinds (i ∷ is) = let ih : length (kinds_of is) ≡ length is = length_kinds is in omega arith

    below : EachOf (λ (h : LiveHandle). h.1 < length p.feeds) live
    below = subst (λ m. EachOf (λ (h : LiveHandle). h.1 < m) live) (sym a.as_many) b

    unfed : (y : Identity) → ((n : ℕ) × (is_fed p.feeds n y ≡ true) → ⊥) → (n : ℕ) → is_fed p.feeds n y ≡ false
    unfed y h n = ⊎_elim (λ t. absurd (h (n, t))) (λ t. t) (cases_Bool (is_fed p.feeds n y))

    begun : (d : Demand) → ((n : ℕ) × (is_fed p.feeds n d.identity ≡ true) → ⊥) → IsAccounted p.feeds live is (new_stream now d)
    begun d h sync = (sym (none_held p.feeds d.identity live (unfed d.identity h)), sym (ap wrap (nothing_accepted (aggregate_of d) d.identity p.feeds is (unfed d.identity h))))

observed_fine : (s : Shared) (readers r now : ℕ) (os : List Observed) → refusal s readers (Collect r now os) ≡ None → observations_refusal s.instruments os ≡ None
observed_fine s readers r now os e = go (nat_lt r readers) s.shut e
  where
    go : (b c : Bool) → cond b (cond c (Some ReaderShutDown) (observations_refusal s.instruments os)) (Some UnknownReader) ≡ None → observations_refusal s.instruments os ≡ None
    go true true e = absurd (cc)
    go true false e = e
    go false c e = absurd (cc)

part_sound : (views : Views) (s : Shared) (readers : ℕ) (c : Call) (p : ReaderPart) → refusal s readers c ≡ None → HandlesAreSound s → PartIsLawful s.live s.instruments p
    → PartIsLawful (shared_after s c).live (shared_after s c).instruments (part_after views s c p)
part_sound views s readers (Meter scope) p e h a = a
part_sound views s readers (Build meter about now) p e h a =
    with_sound s.live s.instruments p (build_demands views p (scope_of s.meters meter) about) about now a h.bound (demands_kind (λ ds. is_dropped (fold Rattle.otel_model.specs.Machine.enter p.fates ds)) views p.answers (scope_of s.meters meter) about)
part_sound views s readers (Record n v l) p e h a =
    let there = recorded_there (slice_get s.instruments n) v.signed e in
    sent_sound s.live s.live s.instruments (changed_at n (instrument_after_record v.amount) s.instruments) p s.next (Record n v l) a (same_kinds n v.amount s.instruments) (same_number n (instrument_after_record v.amount) s.instruments)
    (λ q old sync.
    let g = record_stream p.answers p.feeds s.live s.instruments q n v.amount (set_for q.demand l) there.0 there.1 (old sync).1 in
    (g.0 ∙ (old sync).0, g.1))
    (λ q o none. record_keeps (aggregate_of q.demand) (kind_of p.answers q.demand) q.demand.limit q.machine (is_fed p.feeds n q.demand.identity) (set_for q.demand l) v.amount ∙ none)
part_sound views s readers (Bind n l) p e h a =
    let there = bound_there s.next (slice_get s.instruments n) e in
    sent_sound s.live (s.live ++ (s.next, n) ∷ []) s.instruments s.instruments p s.next (Bind n l) a refl refl
    (λ q old sync.
    let g = bind_stream p.answers p.feeds s.live s.instruments q s.next n (set_for q.demand l) (old sync).0 in
    (g.0, g.1 ∙ (old sync).1))
    (λ q o none. unsent_keeps (aggregate_of q.demand) (kind_of p.answers q.demand) q.demand.limit q.machine (is_fed p.feeds n q.demand.identity) s.next (set_for q.demand l)
    (unsent q.demand.identity there.0 there.1 there.2 o) ∙ none)
  where
    -- an observable stream is not sent the bind
    unsent : (x : Identity) (i : InstrumentState) → slice_get s.instruments n ≡ Some i → is_observable i.kind ≡ false → is_observable x.kind ≡ true → is_fed p.feeds n x ≡ false
    unsent x i g k o = ⊎_elim
        (λ t. absurd (true≢false (sym o ∙ (sym (a.kinds n x i.kind t (get_map (λ (i : InstrumentState). i.kind) s.instruments n i g)) ∙ k))))
        (λ t. t)
        (cases_Bool (is_fed p.feeds n x))
part_sound views s readers (RecordBound k v) p e h a =
    let there = handle_there (instrument_held k s.live) s.instruments v.signed e in
    sent_sound s.live s.live s.instruments (accepted_by (instrument_held k s.live) v.amount s.instruments) p s.next (RecordBound k v) a
    (ap (λ o. kinds_of (accepted_by o v.amount s.instruments)) there.2 ∙ same_kinds there.0 v.amount s.instruments)
    (accepted_number (instrument_held k s.live) v.amount s.instruments)
    (λ q old sync.
    let g = bound_stream p.answers p.feeds s.live s.instruments q k there.0 v.amount there.1 h.distinct there.2 there.3 (old sync).0 (old sync).1 in
    (g.0 ∙ (old sync).0, g.1))
    (λ q o none. bound_keeps (aggregate_of q.demand) (kind_of p.answers q.demand) q.demand.limit q.machine k v.amount ∙ none)
part_sound views s readers (Unbind k) p e h a =
    sent_sound s.live (without_handle k s.live) s.instruments s.instruments p s.next (Unbind k) a refl refl
    (λ q old sync. (unbind_stream p.answers p.feeds s.live s.instruments q k h.distinct (old sync).0, (old sync).1))
    (λ q o none. unheld_unbind (aggregate_of q.demand) (kind_of p.answers q.demand) q.demand.limit q.machine k none)
part_sound views s readers (Collect r now os) p e h a =
    sent_sound s.live s.live s.instruments s.instruments p s.next (Collect r now os) a refl refl
    (λ q old sync.
    let g = collect_stream p.answers p.feeds s.live s.instruments q sync (observed_events p.feeds q.demand os)
    (unobserved p.answers p.feeds s.live s.instruments q sync (λ n k f t. a.kinds n q.demand.identity k f t) os (observed_fine s readers r now os e)) in
    (g.0 ∙ (old sync).0, g.1 ∙ (old sync).1))
    (λ q o none. unheld_collect (aggregate_of q.demand) (kind_of p.answers q.demand) q.demand.limit p.feeds q.demand os q.machine none)
part_sound views s readers Flush p e h a = a
part_sound views s readers Shutdown p e h a = a

-- ======== providers ========
each_changed : {X : Type 0} (P Q : X → Type 0) (f : X → X) (n : ℕ) (xs : List X) → ((x : X) → P x → Q (f x)) → ((x : X) → P x → Q x) → EachOf P xs → EachOf Q (changed_at n f xs)
each_changed P Q f n [] g h a = tt
each_changed P Q f zero (x ∷ xs) g h a = (g x a.0, each_weaker P Q xs h a.1)
each_changed P Q f (suc n) (x ∷ xs) g h a = (h x a.0, each_changed P Q f n xs g h a.1)

-- each reader's part after a call
parts_lawful : (views : Views) (s : Shared) (readers : ℕ) (c : Call) (ps : List ReaderPart) → refusal s readers c ≡ None → HandlesAreSound s → EachOf (PartIsLawful s.live s.instruments) ps
    → EachOf (PartIsLawful (shared_after s c).live (shared_after s c).instruments) (readers_after views s c ps)
parts_lawful views s readers (Meter scope) ps e h a = a
parts_lawful views s readers (Build meter about now) ps e h a =
    each_map (PartIsLawful s.live s.instruments) (PartIsLawful s.live (s.instruments ++ new_instrument about ∷ [])) (part_after_build views (scope_of s.meters meter) about now) ps (λ p q. part_sound views s readers (Build meter about now) p e h q) a
parts_lawful views s readers (Record n v l) ps e h a =
    each_map (PartIsLawful s.live s.instruments) (PartIsLawful s.live (changed_at n (instrument_after_record v.amount) s.instruments)) (part_after_call s.next (Record n v l)) ps (λ p q. part_sound views s readers (Record n v l) p e h q) a
parts_lawful views s readers (Bind n l) ps e h a =
    each_map (PartIsLawful s.live s.instruments) (PartIsLawful (s.live ++ (s.next, n) ∷ []) s.instruments) (part_after_call s.next (Bind n l)) ps (λ p q. part_sound views s readers (Bind n l) p e h q) a
parts_lawful views s readers (RecordBound k v) ps e h a =
    each_map (PartIsLawful s.live s.instruments) (PartIsLawful s.live (accepted_by (instrument_held k s.live) v.amount s.instruments)) (part_after_call s.next (RecordBound k v)) ps (λ p q. part_sound views s readers (RecordBound k v) p e h q) a
parts_lawful views s readers (Unbind k) ps e h a =
    each_map (PartIsLawful s.live s.instruments) (PartIsLawful (without_handle k s.live) s.instruments) (part_after_call s.next (Unbind k)) ps (λ p q. part_sound views s readers (Unbind k) p e h q) a
parts_lawful views s readers (Collect r now os) ps e h a =
    each_changed (PartIsLawful s.live s.instruments) (PartIsLawful s.live s.instruments) (part_after_call s.next (Collect r now os)) r ps (λ p q. part_sound views s readers (Collect r now os) p e h q) (λ p q. q) a
parts_lawful views s readers Flush ps e h a = a
parts_lawful views s readers Shutdown ps e h a = a

pub after_lawful : EachCallKeepsLawful
after_lawful views st c a = go (refusal st.shared (length st.readers) c) refl
  where
    go : (f : Option Fault) → refusal st.shared (length st.readers) c ≡ f → IsLawful (after_by f st (accepted_after views st c))
    go None e = record { handles = shared_sound st.shared (length st.readers) c e a.handles; parts = parts_lawful views st.shared (length st.readers) c st.readers e a.handles a.parts }
    go (Some f) e = a

pub run_lawful : EachRunKeepsLawful
run_lawful views old new [] [] run a = subst IsLawful (sym run) a
run_lawful views old new [] (reply ∷ replies) run a = absurd run
run_lawful views old new (c ∷ calls) [] run a = absurd run
run_lawful views old new (c ∷ calls) (reply ∷ replies) run a =
    run_lawful views run.0 new calls replies run.2 (⊎_elim
    (λ s. subst IsLawful (sym s.1) a)
    (λ s. subst IsLawful (sym s.1) (after_lawful views old c a))
    (step_cases views old run.0 c reply run.1))

first_parts : (readers : List ReaderAnswers) → EachOf (PartIsLawful [] []) (map new_part readers)
first_parts [] = tt
first_parts (answers ∷ readers) = (record { known = λ n y f. absurd (false≢true f); kinds = λ n y k f g. absurd (false≢true f); as_many = refl; streams = tt; of_events = tt; unheld = tt }, first_parts readers)

pub first_lawful : IsLawfulAtFirst
first_lawful resource identity readers = record { handles = record { bound = tt; below = tt; distinct = tt; synchronous = tt }; parts = first_parts readers }

-- ======== balances ========
both_of : (p : ReaderPart) (feeds : List (List Identity)) (live : List LiveHandle) (is : List InstrumentState) (qs : List Stream) → EachOf (IsAccounted feeds live is) qs → EachOf (IsOfEvents p.answers) qs
    → EachOf (λ (q : Stream). IsBalanced p.answers q × IsPaidFor feeds is q) qs
both_of p feeds live is [] a b = tt
both_of p feeds live is (q ∷ qs) a b = ((balanced_events p.answers q b.0, λ sync. (a.0 sync).1), both_of p feeds live is qs a.1 b.1)

pub balances_law : LawfulBalances
balances_law st a = each_weaker (PartIsLawful st.shared.live st.shared.instruments) (λ (p : ReaderPart). EachOf (λ (q : Stream). IsBalanced p.answers q × IsPaidFor p.feeds st.shared.instruments q) p.streams) st.readers
    (λ p h. both_of p p.feeds st.shared.live st.shared.instruments p.streams h.streams h.of_events) a.parts

pub accepted_law : IsAccepted
accepted_law views resource identity readers calls replies new run r answers part h g j s e sync =
    let lawful = run_lawful views (new_state resource identity readers) new calls replies run (first_lawful resource identity readers) in
    let part_lawful = each_at (PartIsLawful new.shared.live new.shared.instruments) new.readers r part lawful.parts g in
    (each_at (IsAccounted part.feeds new.shared.live new.shared.instruments) part.streams j s part_lawful.streams e sync).1
