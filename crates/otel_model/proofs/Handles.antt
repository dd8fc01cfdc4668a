-- Which handles the streams of a lawful provider have.
use Rattle.std.proofs.Common.{◌≡◌, ⊎_elim, ℕ, ◌<◌, ◌≤◌, true, false, List, [], ◌∷◌, refl, arith, sym, ◌∙◌, ap, Option, Some, None}
use Rattle.std.specs.Prelude.{slice_get, is_some}
use Rattle.std.proofs.lemmas.Bool.{cases_Bool, true≢false}
use Rattle.otel_model_stream.specs.Events.{held_by}
use Rattle.otel_model_stream.specs.Totals.{has_number}
use Rattle.otel_model.specs.Calls.{is_observable}
use Rattle.otel_model.specs.Demands.{Identity}
use Rattle.otel_model.specs.State.{InstrumentState, LiveHandle, Shared, Stream, ReaderPart}
use Rattle.otel_model.specs.Refusals.{instrument_held}
use Rattle.otel_model.specs.Sent.{is_fed}
use Rattle.otel_model.proofs.Single.{get_map}
use Rattle.otel_model.proofs.Recorded.{held_is}
use Rattle.otel_model.specs.Lawful.{EachOf, HandlesAreSound, held_for, IsAccounted, PartIsLawful, HandlesAreOfFeeds, NextIsUnheld, ObservableIsUnheld}
use Rattle.otel_model.proofs.Amounts.{each_weaker, absent_below, absent_held, held_when_fed}

-- ======== instruments ========
-- a stream is observable exactly if an instrument that feeds it is
pub fed-kind : (live : List LiveHandle) (is : List InstrumentState) (p : ReaderPart) (n : ℕ) (i : InstrumentState) (x : Identity) → PartIsLawful live is p → slice_get is n ≡ Some i
    → is_fed p.feeds n x ≡ true → is_observable x.kind ≡ is_observable i.kind
fed-kind live is p n i x a g f = sym (a.kinds n x i.kind f (get_map (λ (i : InstrumentState). i.kind) is n i g))

-- ======== streams ========
none_when : {X : Type 0} (o : Option X) → is_some o ≡ false → o ≡ None
none_when None e = refl
none_when (Some x) e = absurd (true≢false e)

-- where no handle of this number is of an instrument that feeds the stream, the stream has no such handle
unheld_each : (live : List LiveHandle) (is : List InstrumentState) (p : ReaderPart) (h : ℕ) (P : Stream → Type 0) → PartIsLawful live is p
    → ((q : Stream) → P q → has_number h (held_for p.feeds q.demand.identity live) ≡ false) → EachOf (λ (q : Stream). P q → held_by h q.machine.live ≡ None) p.streams
unheld_each live is p h P a absent = go p.streams a.streams a.unheld
  where
    one : (q : Stream) → IsAccounted p.feeds live is q → (is_observable q.demand.identity.kind ≡ true → q.machine.live ≡ []) → P q → held_by h q.machine.live ≡ None
    one q c u t = ⊎_elim
        (λ o. ap (held_by h) (u o))
        (λ o. none_when (held_by h q.machine.live) (sym (held_is h q.machine.live) ∙ (ap (has_number h) (c o).0 ∙ absent q t)))
        (cases_Bool (is_observable q.demand.identity.kind))

    go : (qs : List Stream) → EachOf (IsAccounted p.feeds live is) qs → EachOf (λ (q : Stream). is_observable q.demand.identity.kind ≡ true → q.machine.live ≡ []) qs
        → EachOf (λ (q : Stream). P q → held_by h q.machine.live ≡ None) qs
    go [] c u = tt
    go (q ∷ qs) c u = (one q c.0 u.0, go qs c.1 u.1)

-- a stream that a handle's instrument does not feed does not have the handle
pub unfed-unheld : (s : Shared) (p : ReaderPart) (h n : ℕ) → HandlesAreSound s → PartIsLawful s.live s.instruments p → instrument_held h s.live ≡ Some n
    → EachOf (λ (q : Stream). is_fed p.feeds n q.demand.identity ≡ false → held_by h q.machine.live ≡ None) p.streams
unfed-unheld s p h n sound a e =
    unheld_each s.live s.instruments p h (λ q. is_fed p.feeds n q.demand.identity ≡ false) a (λ q f. held_when_fed p.feeds q.demand.identity h n s.live sound.distinct e ∙ f)

-- no stream has a handle of a number that is none of the handles so far
pub later-unheld : (s : Shared) (p : ReaderPart) (h : ℕ) → s.next ≤ h → HandlesAreSound s → PartIsLawful s.live s.instruments p → EachOf (λ (q : Stream). held_by h q.machine.live ≡ None) p.streams
later-unheld s p h later sound a = each_weaker (λ (q : Stream). Unit {0} → held_by h q.machine.live ≡ None) (λ (q : Stream). held_by h q.machine.live ≡ None) p.streams (λ q f. f tt)
    (unheld_each s.live s.instruments p h (λ q. Unit {0}) a (λ q t. absent_held p.feeds q.demand.identity h s.live
    (absent_below h s.live (each_weaker (λ (x : LiveHandle). x.0 < s.next) (λ (x : LiveHandle). x.0 < h) s.live (λ x below. omega (arith, below, later)) sound.below))))

-- in particular of the next one
pub new-unheld : (s : Shared) (p : ReaderPart) → HandlesAreSound s → PartIsLawful s.live s.instruments p → EachOf (λ (q : Stream). held_by s.next q.machine.live ≡ None) p.streams
new-unheld s p sound a = later-unheld s p s.next (omega arith) sound a

-- a stream that an observable instrument feeds has no handles
pub observable-unheld : (live : List LiveHandle) (is : List InstrumentState) (p : ReaderPart) (n : ℕ) (i : InstrumentState) → PartIsLawful live is p → slice_get is n ≡ Some i → is_observable i.kind ≡ true
    → EachOf (λ (q : Stream). is_fed p.feeds n q.demand.identity ≡ true → q.machine.live ≡ []) p.streams
observable-unheld live is p n i a g o =
    each_weaker (λ (q : Stream). is_observable q.demand.identity.kind ≡ true → q.machine.live ≡ []) (λ (q : Stream). is_fed p.feeds n q.demand.identity ≡ true → q.machine.live ≡ []) p.streams
    (λ q u f. u (fed-kind live is p n i q.demand.identity a g f ∙ o)) a.unheld

-- ======== providers ========

pub feeds_law : HandlesAreOfFeeds
feeds_law st a = each_weaker (PartIsLawful st.shared.live st.shared.instruments)
    (λ (p : ReaderPart). (h n : ℕ) → instrument_held h st.shared.live ≡ Some n → EachOf (λ (q : Stream). is_fed p.feeds n q.demand.identity ≡ false → held_by h q.machine.live ≡ None) p.streams) st.readers
    (λ p b h n e. unfed-unheld st.shared p h n a.handles b e) a.parts

pub next_law : NextIsUnheld
next_law st a = each_weaker (PartIsLawful st.shared.live st.shared.instruments) (λ (p : ReaderPart). EachOf (λ (q : Stream). held_by st.shared.next q.machine.live ≡ None) p.streams) st.readers
    (λ p b. new-unheld st.shared p a.handles b) a.parts

pub observable_law : ObservableIsUnheld
observable_law st a = each_weaker (PartIsLawful st.shared.live st.shared.instruments)
    (λ (p : ReaderPart). (n : ℕ) (i : InstrumentState) → slice_get st.shared.instruments n ≡ Some i → is_observable i.kind ≡ true → EachOf (λ (q : Stream). is_fed p.feeds n q.demand.identity ≡ true → q.machine.live ≡ []) p.streams) st.readers
    (λ p b n i g o. observable-unheld st.shared.live st.shared.instruments p n i b g o) a.parts
