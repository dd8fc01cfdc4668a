-- A batch of records that have no fault does what they do one by one.
use Rattle.std.proofs.Common.{◌≡◌, ℕ, zero, suc, List, [], ◌∷◌, map, fold, length, Bool, true, false, cond, Option, Some, None, refl, sym, ap, ◌∙◌, subst}
use Rattle.std.specs.Prelude.{◌==◌, slice_get}
use Rattle.std.specs.List.{AllByRecursion as EachOf}
use Rattle.std.proofs.lemmas.Bool.{true≢false, or_left, or_right}
use Rattle.std.proofs.lemmas.List.{map-append}
use Rattle.otel_common.specs.Equality.{set_eq}
use Rattle.otel_model_stream.specs.Sets.{AttributeSet, none_set}
use Rattle.otel_model_stream.specs.Folds.{Aggregate, Amount}
use Rattle.otel_model_stream.specs.Events.{Kind, Handles, held_by}
use Rattle.otel_model_stream.specs.Entries.{has}
use Rattle.otel_model_stream.specs.Machine.{Machine}
use Rattle.otel_model_stream.specs.Windows.{Window, is_in, is_held, places_of, uncounted_of, live_of, records_of, opening, window}
use Rattle.otel_model_stream.proofs.Build.{has_built}
use Rattle.otel_model_stream.proofs.Conserved.{reached, tidy_opening}
use Rattle.otel_model_stream.proofs.Lists.{same_eq}
use Rattle.otel_model_stream.proofs.Steps.{summary, IsSound}
use Rattle.otel_model_stream.proofs.Whole.{run_is, sound_opening}
use Rattle.otel_model.specs.Calls.{Number, Fault, Reply}
use Rattle.otel_model.specs.Demands.{ReaderAnswers}
use Rattle.otel_model.specs.State.{InstrumentState, Stream, ReaderPart, State}
use Rattle.otel_model.specs.Streams.{aggregate_of, kind_of}
use Rattle.otel_model.specs.Refusals.{refusal, record_refusal, held_refusal, handle_refusal, instrument_held}
use Rattle.otel_model.specs.Steps.{reply_by, after_by, reply_of}
use Rattle.otel_model.specs.Machine.{changed_at, instrument_after_record, accepted_by, accepted_after}
use Rattle.otel_model.specs.Lawful.{IsLawful, IsOfEvents, PartIsLawful}
use Rattle.otel_model.specs.Batches.{firsts, firsts_of, values_each, calls_of, placed_each, written_all, written_each, batch_after, IsDone, AreDone, AreAccepted, BatchesGroup, RefusalsStay, FirstsOfBeginning}
use Rattle.otel_model.specs.Places.{Series, Listed, Held, call_at, instrument_at, placed_in, written_in, HasPlaces}
use Rattle.otel_model.proofs.Amounts.{each_map, each_weaker}
use Rattle.otel_model.proofs.Single.{some_is}
use Rattle.otel_model.proofs.batches.Grouping.{records, each_first, each_record, firsts-append}
use Rattle.otel_model.proofs.batches.Tables.{is_there}
use Rattle.otel_model.proofs.batches.Streams.{IsHeldThere}
use Rattle.otel_model.proofs.batches.Providers.{AreHeldThere, placing, writing, batch_law, accepted_is, rests}

-- ======== lawful streams ========
is_held_at : (h : ℕ) (g : AttributeSet) (hs : Handles) → held_by h hs ≡ Some g → is_held hs g ≡ true
is_held_at h g [] e = absurd (cc)
is_held_at h g (q ∷ hs) e = go (q.0 == h) e (is_held_at h g hs)
  where
    go : (b : Bool) → cond b (Some q.1) (held_by h hs) ≡ Some g → (held_by h hs ≡ Some g → is_held hs g ≡ true) → is_held (q ∷ hs) g ≡ true
    go true e ih = or_left (set_eq q.1 g) (is_held hs g) (same_eq q.1 g (some_is q.1 g e))
    go false e ih = or_right (set_eq q.1 g) (is_held hs g) (ih e)

-- in a window that is reached the entry of each live handle is there
summary_there : (σ : Aggregate) (limit : ℕ) (w : Window) → IsSound limit w
    → (h : ℕ) (g : AttributeSet) → held_by h (summary σ limit w).live ≡ Some g → is_there g (summary σ limit w).table.entries ≡ true
summary_there σ limit w sound h g e = go (set_eq g none_set) (is_in g (places_of limit w)) refl refl
  where
    go : (a b : Bool) → set_eq g none_set ≡ a → is_in g (places_of limit w) ≡ b → is_there g (summary σ limit w).table.entries ≡ true
    go true b ea eb = or_left (set_eq g none_set) (has g (summary σ limit w).table.entries) ea
    go false true ea eb = or_right (set_eq g none_set) (has g (summary σ limit w).table.entries) (has_built σ (uncounted_of limit w) (records_of limit w) (live_of limit w) g (places_of limit w) ∙ eb)
    go false false ea eb = absurd (true≢false (sym (is_held_at h g (live_of limit w) e) ∙ sound.helds g ea eb))

stream_there : (answers : ReaderAnswers) (q : Stream) → IsOfEvents answers q → IsHeldThere q
stream_there answers q h = subst IsThere (sym (h.machine ∙ run_is (aggregate_of q.demand) kind q.demand.limit h.events))
    (summary_there (aggregate_of q.demand) q.demand.limit (window kind q.demand.limit opening h.events) (reached kind q.demand.limit opening h.events (sound_opening q.demand.limit) (tidy_opening q.demand.limit)).0)
  where
    kind : Kind
    kind = kind_of answers q.demand

    IsThere : Machine → Type 0
    IsThere m = (k : ℕ) (g : AttributeSet) → held_by k m.live ≡ Some g → is_there g m.table.entries ≡ true

lawful_there : (st : State) → IsLawful st → AreHeldThere st
lawful_there st a = each_weaker (PartIsLawful st.shared.live st.shared.instruments) (λ (p : ReaderPart). EachOf IsHeldThere p.streams) st.readers
    (λ p b. each_weaker (IsOfEvents p.answers) IsHeldThere p.streams (stream_there p.answers) b.of_events) a.parts

-- ======== refusals ========
-- what doesn't depend on what an instrument accepted is the same after a measurement
same_at : {A : Type 0} (f : Option InstrumentState → A) (v : Amount) → ((i : InstrumentState) → f (Some (instrument_after_record v i)) ≡ f (Some i))
    → (o : Option ℕ) (is : List InstrumentState) (m : ℕ) → f (slice_get (accepted_by o v is) m) ≡ f (slice_get is m)
same_at f v e None is m = refl
same_at f v e (Some n) is m = go n is m
  where
    go : (n : ℕ) (is : List InstrumentState) (m : ℕ) → f (slice_get (changed_at n (instrument_after_record v) is) m) ≡ f (slice_get is m)
    go n [] m = refl
    go zero (i ∷ is) zero = e i
    go zero (i ∷ is) (suc m) = refl
    go (suc n) (i ∷ is) zero = refl
    go (suc n) (i ∷ is) (suc m) = go n is m

-- why a record of a series is refused
abbrev fault_of : Series → Number → State → Option Fault
fault_of t w st = refusal st.shared (length st.readers) (call_at t w)

fault_placed : (s t : Series) (w : Number) (st : State) → fault_of t w (placed_in s st) ≡ fault_of t w st
fault_placed s (Listed n l) w st = refl
fault_placed s (Held h) w st = refl

pub fault_written : (s : Series) (v : Number) (t : Series) (w : Number) (st : State) → fault_of t w (written_in s v st) ≡ fault_of t w st
fault_written s v (Listed n l) w st = same_at (λ o. record_refusal o w.signed) v.amount (λ i. refl) (instrument_at s st.shared.live) st.shared.instruments n
fault_written s v (Held h) w st = go (instrument_held h st.shared.live)
  where
    go : (o : Option ℕ) → handle_refusal o (accepted_by (instrument_at s st.shared.live) v.amount st.shared.instruments) w.signed ≡ handle_refusal o st.shared.instruments w.signed
    go None = refl
    go (Some m) = same_at (λ o. held_refusal o w.signed) v.amount (λ i. refl) (instrument_at s st.shared.live) st.shared.instruments m

fault_made : (s : Series) (v : Number) (t : Series) (w : Number) (st : State) → fault_of t w (written_in s v (placed_in s st)) ≡ fault_of t w st
fault_made s v t w st = fault_written s v t w (placed_in s st) ∙ fault_placed s t w st

-- changes of which each leaves what is read
left_by : {X A C : Type 0} (read : X → A) (step : X → C → X) → ((c : C) (x : X) → read (step x c) ≡ read x) → (cs : List C) (x : X) → read (fold step x cs) ≡ read x
left_by read step e [] x = refl
left_by read step e (c ∷ cs) x = left_by read step e cs (step x c) ∙ e c x

-- ======== records one by one ========
done_one : (s : Series) (v : Number) (st : State) → fault_of s v st ≡ None → IsDone st (call_at s v) (written_in s v (placed_in s st))
done_one s v st e views = (answered s e, sym (accepted_is views st s v) ∙ λ i. after_by (sym e i) st (accepted_after views st (call_at s v)))
  where
    answered : (s : Series) → fault_of s v st ≡ None → Reply.Done ≡ reply_of st (call_at s v)
    answered (Listed n l) e = λ i. reply_by (sym e i) Reply.Done
    answered (Held h) e = λ i. reply_by (sym e i) Reply.Done

-- a record that has no fault, of a series that has its places, is its value written
pub written_done : (s : Series) (v : Number) (st : State) → HasPlaces s st → refusal st.shared (length st.readers) (call_at s v) ≡ None → IsDone st (call_at s v) (written_in s v st)
written_done s v st placed e = subst (λ x. IsDone st (call_at s v) (written_in s v x)) (rests s st placed) (done_one s v st e)

module _ (series : ℕ → Series) where
  accepted_still : (s : Series) (v : Number) (st : State) (rs : List (ℕ × Number)) → AreAccepted st (calls_of series rs) → AreAccepted (written_in s v (placed_in s st)) (calls_of series rs)
  accepted_still s v st [] h = tt
  accepted_still s v st (r ∷ rs) h = (fault_made s v (series r.0) r.1 st ∙ h.0, accepted_still s v st rs h.1)

  done_all : (rs : List (ℕ × Number)) (st : State) → AreAccepted st (calls_of series rs) → AreDone st (calls_of series rs) (records (placing series) (writing series) rs st)
  done_all [] st h = refl
  done_all (r ∷ rs) st h =
      let mid : State = written_in (series r.0) r.1 (placed_in (series r.0) st) in
      (mid, done_one (series r.0) r.1 st h.0, done_all rs mid (accepted_still (series r.0) r.1 st rs h.1))

  -- ======== a batch ========
  batch_is : (rs : List (ℕ × Number)) (st : State) → IsLawful st → records (placing series) (writing series) rs st ≡ batch_after series rs st
  batch_is rs st lawful = batch_law series rs st (lawful_there st lawful)

-- ======== the laws ========
pub groups_law : BatchesGroup
groups_law series st rs lawful accepted = subst (AreDone st (calls_of series rs)) (batch_is series rs st lawful) (done_all series rs st accepted)

-- places of series that have theirs change nothing
placed-rests : (series : ℕ → Series) (ns : List ℕ) (st : State) → EachOf (λ n. HasPlaces (series n) st) ns → placed_each series ns st ≡ st
placed-rests series [] st all = refl
placed-rests series (n ∷ ns) st all = ap (placed_each series ns) (rests (series n) st all.0) ∙ placed-rests series ns st all.1

-- a batch of records that have no fault, of series that have their places, is the values of each series written, in order
-- of last records
pub placed_groups : (series : ℕ → Series) (st : State) (rs : List (ℕ × Number)) → IsLawful st
    → EachOf (λ (g : ℕ × List Number). EachOf (λ (v : Number). refusal st.shared (length st.readers) (call_at (series g.0) v) ≡ None) g.1 × HasPlaces (series g.0) st) (values_each rs)
    → AreDone st (calls_of series rs) (written_each series (values_each rs) st)
placed_groups series st rs lawful all = subst (λ x. AreDone st (calls_of series rs) (written_each series (values_each rs) x)) (placed-rests series (firsts_of rs) st placed) (groups_law series st rs lawful accepted)
  where
    IsFine : ℕ → Number → Type 0
    IsFine n v = fault_of (series n) v st ≡ None

    Placed : ℕ → Type 0
    Placed n = HasPlaces (series n) st

    each : EachOf (λ (r : ℕ × Number). IsFine r.0 r.1 × Placed r.0) rs
    each = each_record Placed IsFine rs all

    accepted : AreAccepted st (calls_of series rs)
    accepted = each_map (λ (r : ℕ × Number). IsFine r.0 r.1 × Placed r.0) (λ call. refusal st.shared (length st.readers) call ≡ None) (λ (r : ℕ × Number). call_at (series r.0) r.1) rs (λ r h. h.0) each

    placed : EachOf Placed (firsts_of rs)
    placed = each_first Placed [] (map (λ (r : ℕ × Number). r.0) rs) (each_map (λ (r : ℕ × Number). IsFine r.0 r.1 × Placed r.0) Placed (λ (r : ℕ × Number). r.0) rs (λ r h. h.1) each)

pub refusals_law : RefusalsStay
refusals_law series st rs t w =
    left_by fault (λ st g. written_all (series g.0) g.1 st) (λ g. left_by fault (λ st v. written_in (series g.0) v st) (λ v. fault_written (series g.0) v t w) g.1) (values_each rs) (placed_each series (firsts_of rs) st)
    ∙ left_by fault (λ st n. placed_in (series n) st) (λ n. fault_placed (series n) t w) (firsts_of rs) st
  where
    fault : State → Option Fault
    fault st = fault_of t w st

pub firsts_law : FirstsOfBeginning
firsts_law rs later =
    let more = firsts-append [] (map (λ (r : ℕ × Number). r.0) rs) (map (λ (r : ℕ × Number). r.0) later) in
    (more.0, ap (firsts []) (map-append (λ (r : ℕ × Number). r.0) rs later) ∙ more.1)
