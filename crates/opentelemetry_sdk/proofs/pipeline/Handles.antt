-- What is done to handles stream by stream is the model's call.
use Rattle.std.proofs.Common.{◌≡◌, ℕ, zero, suc, ◌+◌, Bool, true, false, cond, not, ◌&&◌, List, [], ◌∷◌, map, filter, Some, None, is_none, IfSome, slice_get, refl, sym, ◌∙◌, ap, subst, true≢false, get_or}
use Rattle.std.specs.List.{AllByRecursion as EachOf}
use Rattle.std.proofs.lemmas.Bool.{cond_both}
use Rattle.otel_common.specs.declared.attributes.KeyValue.{KeyValue}
use Rattle.otel_data.specs.declared.numbers.NumberValue.{NumberValue}
use Rattle.otel_aggregate.specs.Any.{is_signed_value, amount_of}
use Rattle.otel_aggregate.specs.value_map.Contents.{next_of}
use Rattle.otel_aggregate.proofs.value_map.PlaceLemmas.{used-own, used-placed}
use Rattle.otel_stream.specs.declared.observation.Observed.{Observed}
use Rattle.otel_model_stream.specs.Events.{Event, held_by}
use Rattle.otel_model_stream.specs.Folds.{empty_of, sample_of, wrap}
use Rattle.otel_model_stream.specs.Machine.{hold, through, let_go}
use Rattle.otel_model_stream.specs.Maps.{MapState}
use Rattle.otel_model_stream.specs.Sets.{AttributeSet}
use Rattle.otel_model_stream.specs.Totals.{size}
use Rattle.otel_model.specs.Calls.{InstrumentKind, ObservableCounter, ObservableUpDownCounter, is_observable, Call, Bind, RecordBound, Unbind}
use Rattle.otel_model.specs.Demands as model
use Rattle.otel_model.specs.Machine.{part_after_call, if_held}
use Rattle.otel_model.specs.Sent.{is_fed, set_for}
use Rattle.otel_model.specs.State.{Stream}
use Rattle.otel_model.specs.Streams.{aggregate_of, is_drained, observes_sums}
use Rattle.otel_model.proofs.Single.{some_is}
use Rattle.opentelemetry_sdk.specs.declared.pipeline.change.Change.{Change}
use Rattle.opentelemetry_sdk.specs.declared.pipeline.change.Change.TheVariants as change
use Rattle.opentelemetry_sdk.specs.pipeline.Handles.{FeedsSynchronous, AreObservableFor, IsNewAt, IsHeldByFed, StandsFor}
use Rattle.opentelemetry_sdk.specs.pipeline.Observations.{AreObservableIn}
use Rattle.opentelemetry_sdk.specs.pipeline.Pipelines.{Piped, IsLawful, IsReady, IsReadyFor, FeedsType, identity_of, is_streamed, model_streams, named_identities, number_of, part_of, part_changed_by, fed_by}
use Rattle.opentelemetry_sdk.specs.pipeline.Streams.{StreamContents, used_for, with_event, bound_by, contents_after, takes}
use Rattle.opentelemetry_sdk.proofs.pipeline.Answered.{changes}
use Rattle.opentelemetry_sdk.proofs.pipeline.Once.{number-there}
use Rattle.opentelemetry_sdk.proofs.pipeline.Records.{each-sent, fed-at, none-sent, recorded-sent, there-at, typed-fits}

-- ======== kinds ========
drained-by : (kind : InstrumentKind) → is_observable kind ≡ false → observes_sums kind ≡ false
drained-by ObservableCounter e = absurd (true≢false e)
drained-by ObservableUpDownCounter e = absurd (true≢false e)
drained-by kind e = refl

-- a synchronous stream isn't drained
pub undrained : (d : model.Demand) → is_observable d.identity.kind ≡ false → is_drained d ≡ false
undrained d e = by _ (observes_sums d.identity.kind) (drained-by d.identity.kind e)
  where
    by : (a b : Bool) → b ≡ false → (a && b) ≡ false
    by true b e = e
    by false b e = refl

-- ======== what holds of a part's streams ========
-- holds of a stream, by its number
pub of-streamed : (P : Stream → Type 0) (ks : List StreamContents) → EachOf P (model_streams ks) → (i : ℕ) (k : StreamContents) → slice_get ks i ≡ Some k → is_streamed k ≡ true → P k.stream
of-streamed P [] all i k at s = absurd (cc)
of-streamed P (m ∷ ks) all zero k at s =
    let same : m ≡ k = some_is m k at in
    subst (λ (x : StreamContents). P x.stream) same (rw (ap is_streamed same ∙ s) at all).0
of-streamed P (m ∷ ks) all (suc i) k at s = of-streamed P ks (cond_both (is_streamed m) (m ∷ filter is_streamed ks) (filter is_streamed ks) (λ (hs : List StreamContents). EachOf P (map (λ (h : StreamContents). h.stream) hs) → EachOf P (model_streams ks)) (λ _ all. all.1) (λ _ all. all) all) i k at s

-- ======== observations ========
-- streams that take observations in are observable
pub observable-in : (os : List Observed) (p : Piped) → IsLawful p → AreObservableFor os (part_of p) → AreObservableIn p.feeds os p.streams
observable-in os p lawful all i d h j e g k at =
    let n = (get_or os i d).instrument in
    all i d h (identity_of k) (fed-at p lawful n (get_or (fed_by n p) j e) k at ∙ number-there (fed_by n p) j e g)

-- ======== binds ========
-- a prepared bind is one of the set itself
used-bind : (h : ℕ) (s : AttributeSet) (k : StreamContents) → (with_event (Event.Bind h (used_for s k)) k).stream ≡ (with_event (Event.Bind h s) k).stream
used-bind h s k =
    let q : Stream = k.stream in
    let m : MapState = record { limit = q.demand.limit; empty = empty_of (aggregate_of q.demand); table = q.machine.table } in
    λ i. record q { machine = hold h (used-own m s i) (record { table = (used-placed m s i).table; live = q.machine.live }) }

pub bound-sent : (h n : ℕ) (l : List KeyValue) (p : Piped) → IsLawful p → IsReadyFor true n l p → FeedsSynchronous n (part_of p) → IsNewAt h (part_of p) → part_changed_by (contents_after (change.Bind h)) n p ≡ part_after_call h (Bind n l) (part_of p)
bound-sent h n l p lawful ready sync new = each-sent p lawful h n (Bind n l) (contents_after (change.Bind h)) (changes (change.Bind h))
    (λ i k at s t fed.
    let is : IsReady true l k = there-at (λ o. IfSome o (IsReady true l)) p.streams (fed_by n p) ready i k at t in
    let kind : is_observable k.stream.demand.identity.kind ≡ false = sync (identity_of k) fed in
    let room : k.room ≡ true = is.room refl ∙ ap not (undrained k.stream.demand kind) in
    let away : held_by h k.stream.machine.live ≡ None = of-streamed (λ (q : Stream). held_by h q.machine.live ≡ None) p.streams new i k at s in
    rw fed
    (sym (used-bind h (set_for k.stream.demand l) k)
    ∙ ap (λ ss. (bound_by (next_of ss) h k).stream) (sym is.set)
    ∙ λ j. (cond (not (sym kind j) && (sym room j && is_none (sym away j))) (bound_by (next_of k.pending) h k) k).stream))
    (λ i k at s fed. rw fed refl)

-- ======== all streams that an instrument feeds ========
module _ (n h : ℕ) (p : Piped) (lawful : IsLawful p) (sync : FeedsSynchronous n (part_of p)) (held : IsHeldByFed n h (part_of p)) where
  -- a stream that is not fed has no such handle
  unfed-free : (i : ℕ) (k : StreamContents) → slice_get p.streams i ≡ Some k → is_streamed k ≡ true → is_fed (map (named_identities p.streams) p.feeds) n (identity_of k) ≡ false → held_by h k.stream.machine.live ≡ None
  unfed-free i k at s fed = of-streamed (λ (q : Stream). is_fed (map (named_identities p.streams) p.feeds) n q.demand.identity ≡ false → held_by h q.machine.live ≡ None) p.streams held i k at s fed

  -- records through handles
  update-sent : (next place : ℕ) (value : NumberValue) → FeedsType n (is_signed_value value) (part_of p) → part_changed_by (contents_after (change.Held h place value)) n p ≡ part_after_call next (RecordBound h (number_of value)) (part_of p)
  update-sent next place value typed = each-sent p lawful next n (RecordBound h (number_of value)) (contents_after (change.Held h place value)) (changes (change.Held h place value))
      (λ i k at s t fed.
      let free : is_drained k.stream.demand ≡ false = undrained k.stream.demand (sync (identity_of k) fed) in
      let fit : takes value k ≡ true = typed-fits n value (part_of p) k typed fed in
      λ j. (cond (not (sym free j) && sym fit j) (with_event (Event.RecordBound h (amount_of value)) k) k).stream)
      (λ i k at s fed.
      let q : Stream = k.stream in
      ap (λ o. record q { machine = through o (sample_of (aggregate_of q.demand) (amount_of value)) q.machine; recorded = if_held o (wrap (q.recorded + size (aggregate_of q.demand) (amount_of value))) q.recorded }) (unfed-free i k at s fed))

  -- the end of handles
  unbind-sent : (next : ℕ) → part_changed_by (contents_after (change.Unbind h)) n p ≡ part_after_call next (Unbind h) (part_of p)
  unbind-sent next = each-sent p lawful next n (Unbind h) (contents_after (change.Unbind h)) (changes (change.Unbind h))
      (λ i k at s t fed.
      let free : is_drained k.stream.demand ≡ false = undrained k.stream.demand (sync (identity_of k) fed) in
      λ j. (cond (sym free j) k (with_event (Event.Unbind h) k)).stream)
      (λ i k at s fed. ap (λ o. record k.stream { machine = let_go o h k.stream.machine }) (unfed-free i k at s fed))

-- ======== changes ========
-- a change is the call that it makes
pub change-sent : (n : ℕ) (c : Change) (next : ℕ) (call : Call) (p : Piped) → IsLawful p → StandsFor n c next call p → part_changed_by (contents_after c) n p ≡ part_after_call next call (part_of p)
change-sent n (change.Each values) next call p lawful makes = absurd makes
change-sent n (change.Prepared value) next call p lawful makes = recorded-sent next n value makes.0 p lawful makes.2 makes.3 ∙ ap (λ x. part_after_call next x (part_of p)) (sym makes.1)
change-sent n (change.Empty value) next call p lawful makes = none-sent next n value p lawful makes.1 ∙ ap (λ x. part_after_call next x (part_of p)) (sym makes.0)
change-sent n (change.Held h place value) next call p lawful makes = update-sent n h p lawful makes.2 makes.3 next place value makes.1 ∙ ap (λ x. part_after_call next x (part_of p)) (sym makes.0)
change-sent n (change.Bind h) next call p lawful makes = bound-sent h n makes.0 p lawful makes.3 makes.4 makes.5 ∙ λ i. part_after_call (makes.2 i) (sym makes.1 i) (part_of p)
change-sent n (change.Unbind h) next call p lawful makes = unbind-sent n h p lawful makes.1 makes.2 next ∙ ap (λ x. part_after_call next x (part_of p)) (sym makes.0)
