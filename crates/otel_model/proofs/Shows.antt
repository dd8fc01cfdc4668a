-- Streams that a program names by number.
use Rattle.std.proofs.Common.{◌≡◌, ℕ, ◌+◌, Bool, true, false, List, [], ◌∷◌, ◌++◌, map, refl, sym, ◌∙◌, ap, cond, subst}
use Rattle.std.specs.Prelude.{fold}
use Rattle.otel_common.specs.declared.attributes.KeyValue.{KeyValue}
use Rattle.otel_model_stream.specs.Folds.{wrap, sample_of}
use Rattle.otel_model_stream.specs.Events.{Event}
use Rattle.otel_model_stream.specs.Machine.{through, let_go}
use Rattle.otel_model_stream.specs.Totals.{size}
use Rattle.otel_model.specs.Calls.{Number, Record, Bind}
use Rattle.otel_model.specs.Demands.{Identity, ReaderAnswers}
use Rattle.otel_model.specs.Streams.{aggregate_of}
use Rattle.otel_model.specs.State.{Stream}
use Rattle.otel_model.specs.Sent.{is_fed, set_for}
use Rattle.otel_model.specs.Machine.{if_held, stream_after}
use Rattle.otel_model.proofs.Numbering.{at_all, fed_by_numbers}
use Rattle.otel_model.specs.Showing.{stream_with, stream_recorded, stream_bound, fed_by, RecordsByNumber, BindsByNumber, UnheldRests}
use Rattle.otel_model_stream.specs.Totals.{points_total}
use Rattle.otel_model.specs.Calls.{Observed, RecordBound, Unbind}
use Rattle.otel_model.specs.Demands.{Demand, has_identity}
use Rattle.otel_model.specs.Streams.{is_delta, kind_of}
use Rattle.otel_model.specs.Collections.{shows_differences}
use Rattle.otel_model.specs.Sent.{observed_events}
use Rattle.otel_model.specs.Machine.{points_at, changed_at}
use Rattle.otel_model.specs.Laws.{AreApart, AreNumbered, names}
use Rattle.otel_model.proofs.Follow.{run_append, recorded_append}
use Rattle.otel_model.proofs.Gather.{map_both}
use Rattle.otel_model.specs.Lawful.{EachOf}
use Rattle.otel_model.proofs.Reorder.{map_alike}
use Rattle.otel_model.specs.Showing.{IsHeldOnlyBy, HandlesByNumber, CollectsAfterObservations, ObservationsByNumber}

-- the events are sent where the stream is fed
where_fed : (answers : ReaderAnswers) (s : Stream) (e : Event) (b : Bool) → cond b (stream_with answers (e ∷ []) s) s ≡ stream_with answers (cond b (e ∷ []) []) s
where_fed answers s e true = refl
where_fed answers s e false = refl

record_is : (answers : ReaderAnswers) (feeds : List (List Identity)) (next n : ℕ) (v : Number) (l : List KeyValue) (s : Stream)
    → at_all (stream_recorded answers v l) (λ s. refl) (fed_by feeds n) s ≡ stream_after answers feeds next (Record n v l) s
record_is answers feeds next n v l s = where_fed answers s (Event.Record (set_for s.demand l) v.amount) (is_fed feeds n s.demand.identity)

bind_is : (answers : ReaderAnswers) (feeds : List (List Identity)) (next n : ℕ) (l : List KeyValue) (s : Stream)
    → at_all (stream_bound answers next l) (λ s. refl) (fed_by feeds n) s ≡ stream_after answers feeds next (Bind n l) s
bind_is answers feeds next n l s = where_fed answers s (Event.Bind next (set_for s.demand l)) (is_fed feeds n s.demand.identity)

pub records_by_number : RecordsByNumber
records_by_number answers feeds next n v l ss ks k a b =
    fed_by_numbers (stream_recorded answers v l) (λ s. refl) ks (fed_by feeds n) ss k a b
    ∙ map_alike (at_all (stream_recorded answers v l) (λ s. refl) (fed_by feeds n)) (stream_after answers feeds next (Record n v l)) ss (record_is answers feeds next n v l)

pub binds_by_number : BindsByNumber
binds_by_number answers feeds next n l ss ks k a b =
    fed_by_numbers (stream_bound answers next l) (λ s. refl) ks (fed_by feeds n) ss k a b
    ∙ map_alike (at_all (stream_bound answers next l) (λ s. refl) (fed_by feeds n)) (stream_after answers feeds next (Bind n l)) ss (bind_is answers feeds next n l)

pub unheld_rests : UnheldRests
unheld_rests answers feeds next h v s e = (
  λ i. record s { machine = through (e i) (sample_of (aggregate_of s.demand) v.amount) s.machine; recorded = if_held (e i) (wrap (s.recorded + size (aggregate_of s.demand) v.amount)) s.recorded },
  λ i. record s { machine = let_go (e i) h s.machine },
)

-- ======== handles ========
-- the same where each stream is the same
each_alike : {A B : Type 0} (P : A → Type 0) (f g : A → B) (xs : List A) → ((x : A) → P x → f x ≡ g x) → EachOf P xs → map f xs ≡ map g xs
each_alike P f g [] e a = refl
each_alike P f g (x ∷ xs) e a = λ i. e x a.0 i ∷ each_alike P f g xs e a.1 i

if_held_only : (f g : Stream → Stream) (b : Bool) (s : Stream) → f s ≡ g s → (b ≡ false → g s ≡ s) → cond b (f s) s ≡ g s
if_held_only f g true s e r = e
if_held_only f g false s e r = sym (r refl)

pub handles_by_number : HandlesByNumber
handles_by_number answers feeds next h v ss ks xs k a b only = (
  fed_by_numbers recorded (λ s. refl) ks xs ss k a b
      ∙ each_alike (IsHeldOnlyBy h xs) (at_all recorded (λ s. refl) xs) (stream_after answers feeds next (RecordBound h v)) ss
      (λ s o. if_held_only recorded (stream_after answers feeds next (RecordBound h v)) (has_identity xs s.demand.identity) s refl (λ e. (unheld_rests answers feeds next h v s (o e)).0)) only,
  fed_by_numbers ended (λ s. refl) ks xs ss k a b
      ∙ each_alike (IsHeldOnlyBy h xs) (at_all ended (λ s. refl) xs) (stream_after answers feeds next (Unbind h)) ss
      (λ s o. if_held_only ended (stream_after answers feeds next (Unbind h)) (has_identity xs s.demand.identity) s refl (λ e. (unheld_rests answers feeds next h v s (o e)).1)) only,
)
  where
    recorded : Stream → Stream
    recorded s = stream_with answers (Event.RecordBound h v.amount ∷ []) s

    ended : Stream → Stream
    ended s = stream_with answers (Event.Unbind h ∷ []) s

-- ======== collections ========
pub collects_after : CollectsAfterObservations
collects_after answers feeds next r now os s = λ i. record s {
  machine = run_append (aggregate_of s.demand) (kind_of answers s.demand) s.demand.limit s.machine (observed_events feeds s.demand os) (Event.Collect ∷ []) i;
  start = cond (is_delta answers s.demand) now s.start;
  reported = cond (shows_differences answers s.demand) (points_at answers feeds os s) s.reported;
  recorded = recorded_append (aggregate_of s.demand) (kind_of answers s.demand) s.demand.limit s.machine s.recorded (observed_events feeds s.demand os) (Event.Collect ∷ []) i;
  exported = cond (is_delta answers s.demand) (wrap (s.exported + points_total (points_at answers feeds os s))) s.exported;
}

-- events one after another
with_more : (answers : ReaderAnswers) (es fs : List Event) (s : Stream) → stream_with answers fs (stream_with answers es s) ≡ stream_with answers (es ++ fs) s
with_more answers es fs s = λ i. record s {
  machine = sym (run_append (aggregate_of s.demand) (kind_of answers s.demand) s.demand.limit s.machine es fs) i;
  recorded = sym (recorded_append (aggregate_of s.demand) (kind_of answers s.demand) s.demand.limit s.machine s.recorded es fs) i;
}

abbrev with_observed : ReaderAnswers → List (List Identity) → List Observed → Stream → Stream
with_observed answers feeds os s = stream_with answers (observed_events feeds s.demand os) s

observed_first : (feeds : List (List Identity)) (d : Demand) (o : Observed) (os : List Observed) → observed_events feeds d (o ∷ []) ++ observed_events feeds d os ≡ observed_events feeds d (o ∷ os)
observed_first feeds d o os = go (is_fed feeds o.instrument d.identity)
  where
    go : (b : Bool) → cond b (Event.Record (set_for d o.attributes) o.value.amount ∷ []) [] ++ observed_events feeds d os ≡ cond b (Event.Record (set_for d o.attributes) o.value.amount ∷ observed_events feeds d os) (observed_events feeds d os)
    go true = refl
    go false = refl

same_names : (answers : ReaderAnswers) (feeds : List (List Identity)) (os : List Observed) (ss : List Stream) → names (map (with_observed answers feeds os) ss) ≡ names ss
same_names answers feeds os [] = refl
same_names answers feeds os (s ∷ ss) = ap (λ l. s.demand.identity ∷ l) (same_names answers feeds os ss)

none_observed : (answers : ReaderAnswers) (feeds : List (List Identity)) (ss : List Stream) → map (with_observed answers feeds []) ss ≡ ss
none_observed answers feeds [] = refl
none_observed answers feeds (s ∷ ss) = ap (λ l. s ∷ l) (none_observed answers feeds ss)

one_observed : (answers : ReaderAnswers) (feeds : List (List Identity)) (ks : List ℕ) (o : Observed) (ss : List Stream) → AreNumbered (names ss) ks (fed_by feeds o.instrument) → AreApart (fed_by feeds o.instrument) → AreApart (names ss)
    → fold (λ (ss : List Stream) k. changed_at k (stream_recorded answers o.value o.attributes) ss) ss ks ≡ map (with_observed answers feeds (o ∷ [])) ss
one_observed answers feeds ks o ss k a b =
    fed_by_numbers (stream_recorded answers o.value o.attributes) (λ s. refl) ks (fed_by feeds o.instrument) ss k a b
    ∙ map_alike (at_all (stream_recorded answers o.value o.attributes) (λ s. refl) (fed_by feeds o.instrument)) (with_observed answers feeds (o ∷ [])) ss
    (λ s. where_fed answers s (Event.Record (set_for s.demand o.attributes) o.value.amount) (is_fed feeds o.instrument s.demand.identity))

pub observations_by_number : ObservationsByNumber
observations_by_number answers feeds numbers_of [] ss k a b = sym (none_observed answers feeds ss)
observations_by_number answers feeds numbers_of (o ∷ os) ss k a b =
    let one = one_observed answers feeds (numbers_of o.instrument) o ss (k o.instrument) (a o.instrument) b in
    let same = same_names answers feeds (o ∷ []) ss in
    ap (λ (l : List Stream). fold (λ (ss : List Stream) (o : Observed). fold (λ (ss : List Stream) k. changed_at k (stream_recorded answers o.value o.attributes) ss) ss (numbers_of o.instrument)) l os) one
    ∙ (observations_by_number answers feeds numbers_of os (map (with_observed answers feeds (o ∷ [])) ss)
    (λ n. subst (λ ns. AreNumbered ns (numbers_of n) (fed_by feeds n)) (sym same) (k n)) a (subst AreApart (sym same) b)
    ∙ map_both (with_observed answers feeds os) (with_observed answers feeds (o ∷ [])) (with_observed answers feeds (o ∷ os)) ss
    (λ s. with_more answers (observed_events feeds s.demand (o ∷ [])) (observed_events feeds s.demand os) s ∙ ap (λ es. stream_with answers es s) (observed_first feeds s.demand o os)))
