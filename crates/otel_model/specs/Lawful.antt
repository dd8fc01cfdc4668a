-- What each call to a provider preserves, whatever the views: the balances, and the facts that they rest on.
use Rattle.std.specs.Prelude.{◌≡◌, ℕ, ◌+◌, ◌<◌, true, false, cond, List, [], ◌∷◌, map, filter, length, Some, None, slice_get, sum_by}
pub use Rattle.std.specs.List.{AllByRecursion as EachOf}
use Rattle.otel_model_stream.specs.Events.{Event, Handles, held_by}
use Rattle.otel_model_stream.specs.Folds.{wrap}
use Rattle.otel_model_stream.specs.Machine.{begin, run, answers as points_given, points}
use Rattle.otel_model_stream.specs.Totals.{has_number, points_total}
use Rattle.otel_model.specs.Resources.{Resource}
use Rattle.otel_model.specs.Calls.{InstrumentKind, is_observable, Call, Reply}
use Rattle.otel_model.specs.Demands.{Identity, ReaderAnswers, Views, is_known}
use Rattle.otel_model.specs.Streams.{is_drained, is_delta, kind_of, aggregate_of}
use Rattle.otel_model.specs.State.{InstrumentState, LiveHandle, Shared, Stream, ReaderPart, State}
use Rattle.otel_model.specs.Refusals.{instrument_held}
use Rattle.otel_model.specs.Sent.{is_fed}
use Rattle.otel_model.specs.Machine.{recorded_over, new_state}
use Rattle.otel_model.specs.Steps.{after, Run}
use Rattle.otel_model.specs.Accepted.{accepted_for}

-- ======== balances ========
-- unless the stream is drained, what it recorded is what it exported plus what is pending, modulo 2^64
abbrev pub IsBalanced : ReaderAnswers → Stream → Type 0
IsBalanced answers q = is_drained q.demand ≡ false → q.recorded ≡ wrap (q.exported + points_total (points (kind_of answers q.demand) q.machine))

-- unless the stream is asynchronous, what it recorded is what the instruments that feed it accepted, modulo 2^64
abbrev pub IsPaidFor : List (List Identity) → List InstrumentState → Stream → Type 0
IsPaidFor feeds is q = is_observable q.demand.identity.kind ≡ false → q.recorded ≡ wrap (accepted_for (aggregate_of q.demand) q.demand.identity feeds is)

-- both hold of each stream of each reader
abbrev pub Balances : State → Type 0
Balances st = EachOf (λ (p : ReaderPart). EachOf (λ (q : Stream). IsBalanced p.answers q × IsPaidFor p.feeds st.shared.instruments q) p.streams) st.readers

-- ======== handles ========
-- the numbers of live handles
abbrev pub handles_of : List LiveHandle → List ℕ
handles_of live = map (λ (p : LiveHandle). p.0) live

-- no two of the handles have the same number
abbrev pub AreDistinct : List LiveHandle → Type 0
AreDistinct [] = Unit {0}
AreDistinct (p ∷ ps) = (has_number p.0 (handles_of ps) ≡ false) × AreDistinct ps

-- the instrument with this number exists, and it is synchronous
abbrev pub TakesRecords : List InstrumentState → ℕ → Type 0
TakesRecords is n = (i : InstrumentState) × (slice_get is n ≡ Some i) × (is_observable i.kind ≡ false)

-- the live handles belong to synchronous instruments that exist, and have distinct numbers, below the next one
pub record HandlesAreSound (s : Shared) : Type 0 where
  pub bound : EachOf (λ (p : LiveHandle). p.1 < length s.instruments) s.live
  pub below : EachOf (λ (p : LiveHandle). p.0 < s.next) s.live
  pub distinct : AreDistinct s.live
  pub synchronous : EachOf (λ (p : LiveHandle). TakesRecords s.instruments p.1) s.live

-- ======== streams ========
-- the numbers of a stream's live handles
abbrev pub numbers : Handles → List ℕ
numbers live = map (λ p. p.0) live

-- the numbers of the live handles that were bound at instruments that feed the stream of the identity x
abbrev pub held_for : List (List Identity) → Identity → List LiveHandle → List ℕ
held_for feeds x live = handles_of (filter (λ (p : LiveHandle). is_fed feeds p.1 x) live)

-- unless the stream is asynchronous, its live handles are those, and it recorded what the instruments that feed it
-- accepted, modulo 2^64
abbrev pub IsAccounted : List (List Identity) → List LiveHandle → List InstrumentState → Stream → Type 0
IsAccounted feeds live is q = is_observable q.demand.identity.kind ≡ false
    → (numbers q.machine.live ≡ held_for feeds q.demand.identity live) × (q.recorded ≡ wrap (accepted_for (aggregate_of q.demand) q.demand.identity feeds is))

-- some list of events made the stream's machine and its totals of what it recorded and exported
pub record IsOfEvents (answers : ReaderAnswers) (q : Stream) : Type 0 where
  pub events : List Event
  pub machine : q.machine ≡ run (aggregate_of q.demand) (kind_of answers q.demand) q.demand.limit (begin (aggregate_of q.demand)) events
  pub recorded : q.recorded ≡ recorded_over (aggregate_of q.demand) (kind_of answers q.demand) q.demand.limit (begin (aggregate_of q.demand)) 0 events
  pub exported : q.exported ≡ cond (is_delta answers q.demand) (wrap (sum_by points_total (points_given (aggregate_of q.demand) (kind_of answers q.demand) q.demand.limit (begin (aggregate_of q.demand)) events))) 0

-- ======== readers, providers ========
-- the kinds of the instruments
abbrev pub kinds_of : List InstrumentState → List InstrumentKind
kinds_of is = map (λ (i : InstrumentState). i.kind) is

-- what an instrument feeds was demanded, and is asynchronous exactly if the instrument is. Each instrument has one list
-- of what it feeds; each stream is accounted for and made by events. An asynchronous stream has no live handles, since
-- no handle can be bound at an asynchronous instrument
pub record PartIsLawful (live : List LiveHandle) (is : List InstrumentState) (p : ReaderPart) : Type 0 where
  pub known : (n : ℕ) (y : Identity) → is_fed p.feeds n y ≡ true → is_known p.fates y ≡ true
  pub kinds : (n : ℕ) (y : Identity) (k : InstrumentKind) → is_fed p.feeds n y ≡ true → slice_get (kinds_of is) n ≡ Some k → is_observable k ≡ is_observable y.kind
  pub as_many : length p.feeds ≡ length is
  pub streams : EachOf (IsAccounted p.feeds live is) p.streams
  pub of_events : EachOf (IsOfEvents p.answers) p.streams
  pub unheld : EachOf (λ (q : Stream). is_observable q.demand.identity.kind ≡ true → q.machine.live ≡ []) p.streams

-- a provider whose handles and readers are such
pub record IsLawful (st : State) : Type 0 where
  pub handles : HandlesAreSound st.shared
  pub parts : EachOf (PartIsLawful st.shared.live st.shared.instruments) st.readers

-- ======== laws ========
-- a new provider is lawful
abbrev pub IsLawfulAtFirst : Type 0
IsLawfulAtFirst = (resource : Resource) (identity : ℕ) (readers : List ReaderAnswers) → IsLawful (new_state resource identity readers)

-- each call keeps a provider lawful
abbrev pub EachCallKeepsLawful : Type 0
EachCallKeepsLawful = (views : Views) (st : State) (call : Call) → IsLawful st → IsLawful (after views st call)

-- and so does each run
abbrev pub EachRunKeepsLawful : Type 0
EachRunKeepsLawful = (views : Views) (old new : State) (calls : List Call) (replies : List Reply) → Run views old calls replies new → IsLawful old → IsLawful new

-- each stream of a lawful provider balances
abbrev pub LawfulBalances : Type 0
LawfulBalances = (st : State) → IsLawful st → Balances st

-- in a lawful provider no stream has a live handle that was bound at an instrument that does not feed it
abbrev pub HandlesAreOfFeeds : Type 0
HandlesAreOfFeeds = (st : State) → IsLawful st
    → EachOf (λ (p : ReaderPart). (h n : ℕ) → instrument_held h st.shared.live ≡ Some n → EachOf (λ (q : Stream). is_fed p.feeds n q.demand.identity ≡ false → held_by h q.machine.live ≡ None) p.streams) st.readers

-- nor a live handle with the number that the next bind will give
abbrev pub NextIsUnheld : Type 0
NextIsUnheld = (st : State) → IsLawful st → EachOf (λ (p : ReaderPart). EachOf (λ (q : Stream). held_by st.shared.next q.machine.live ≡ None) p.streams) st.readers

-- nor any live handle if an asynchronous instrument feeds it
abbrev pub ObservableIsUnheld : Type 0
ObservableIsUnheld = (st : State) → IsLawful st
    → EachOf (λ (p : ReaderPart). (n : ℕ) (i : InstrumentState) → slice_get st.shared.instruments n ≡ Some i → is_observable i.kind ≡ true → EachOf (λ (q : Stream). is_fed p.feeds n q.demand.identity ≡ true → q.machine.live ≡ []) p.streams) st.readers
