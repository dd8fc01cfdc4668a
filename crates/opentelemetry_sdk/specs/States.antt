-- The state of a provider in the words of the model, and what a call does to it.
use Rattle.std.specs.Prelude.{◌≡◌, ℕ, true, false, List, map, length, slice_get, Option, None, Some}
use Rattle.std.specs.List.{AllByRecursion as EachOf}
use Rattle.otel_stream.specs.declared.observation.Observed.{Observed}
use Rattle.otel_common.specs.declared.faults.Fault.{Fault}
use Rattle.otel_common.specs.declared.faults.Fault.TheVariants as fault
use Rattle.otel_common.specs.declared.faults.InternalFault.TheVariants as inner
use Rattle.otel_common.specs.declared.scopes.InstrumentationScope.{InstrumentationScope}
use Rattle.otel_model.specs.Calls as model
use Rattle.otel_model.specs.Demands.{Identity, StreamSpec, View, Views, instrument_of, is_good}
use Rattle.otel_model.specs.State.{InstrumentState, Shared, ReaderPart, State}
use Rattle.otel_model.specs.Refusals.{meter_refusal}
use Rattle.otel_model.specs.Sent.{is_fed, scope_of}
use Rattle.otel_model.specs.Lawful.{IsLawful}
use Rattle.opentelemetry_sdk.specs.pipeline.Pipelines.{FeedsType}
use Rattle.opentelemetry_sdk.specs.Correspondence.{observed_of}

-- the call may be refused with this fault before readers are asked: with the one that the model gives, or with out of
-- memory if it gives none
abbrev pub IsFault : Option model.Fault → Fault → Type 0
IsFault o fault.OutOfMemory = o ≡ None
IsFault o fault.UnknownMeter = o ≡ Some model.Fault.UnknownMeter
IsFault o fault.UnknownInstrument = o ≡ Some model.Fault.UnknownInstrument
IsFault o fault.UnknownHandle = o ≡ Some model.Fault.UnknownHandle
IsFault o fault.UnknownReader = o ≡ Some model.Fault.UnknownReader
IsFault o fault.WrongNumber = o ≡ Some model.Fault.WrongNumber
IsFault o fault.WrongKind = o ≡ Some model.Fault.WrongKind
IsFault o fault.AlreadyShutdown = o ≡ Some model.Fault.AlreadyShutdown
IsFault o fault.Exhausted = o ≡ Some model.Fault.Exhausted
IsFault o (fault.InternalFailure inner.ReaderShutDown) = o ≡ Some model.Fault.ReaderShutDown
IsFault o f = ⊥

-- a fault other than out of memory
abbrev pub IsNamed : Fault → Type 0
IsNamed fault.OutOfMemory = ⊥
IsNamed f = Unit {0}

-- ======== cores ========
-- the core of a provider: the provider's state, the seed from which builds have sets hashed, and that from which each
-- reader's part hashes them. No reply depends on these
pub record CoreContents : Type 0 where
  pub state : State
  pub hash_seed : ℕ
  pub reader_seeds : List ℕ

-- ======== builds ========
-- a build's meter is known, and this is its scope, if it has one
pub record IsScopeOf (meters : List InstrumentationScope) (meter : Option ℕ) (scope : Option InstrumentationScope) : Type 0 where
  pub is : scope ≡ scope_of meters meter
  pub known : (s : Shared) → s.meters ≡ meters → meter_refusal s meter ≡ None

-- there is no such meter, and the fault says so
pub record IsNoMeter (meters : List InstrumentationScope) (meter : Option ℕ) (f : Fault) : Type 0 where
  pub is : f ≡ fault.UnknownMeter
  pub unknown : (s : Shared) → s.meters ≡ meters → meter_refusal s meter ≡ Some model.Fault.UnknownMeter

-- with a scope, the instrument's name, unit and bounds are valid; without one it ignores its records, and anything goes
abbrev pub IsGoodIn : Option InstrumentationScope → model.About → Type 0
IsGoodIn None about = Unit {0}
IsGoodIn (Some scope) about = is_good about ≡ true

-- this is what the views answer for an instrument with this scope; without one they are not asked
abbrev pub AreAsked : Views → Option InstrumentationScope → model.About → List (Option StreamSpec) → Type 0
AreAsked views None about answered = Unit {0}
AreAsked views (Some scope) about answered = answered ≡ map (λ (view : View). view (instrument_of scope about)) views

-- ======== number types ========
-- a reader that knows all instruments: the streams that an instrument feeds have its number type and kind
pub record IsTyped (is : List InstrumentState) (p : ReaderPart) : Type 0 where
  pub as_many : length p.feeds ≡ length is
  pub types : (n : ℕ) (x : Identity) (i : InstrumentState) → is_fed p.feeds n x ≡ true → slice_get is n ≡ Some i → x.signed ≡ i.signed
  pub kinds : (n : ℕ) (x : Identity) (i : InstrumentState) → is_fed p.feeds n x ≡ true → slice_get is n ≡ Some i → x.kind ≡ i.kind

-- the same at each reader
abbrev pub AreTyped : List InstrumentState → List ReaderPart → Type 0
AreTyped is ps = EachOf (IsTyped is) ps

-- so it is at each reader of a provider, and its state is lawful
pub record IsSound (st : State) : Type 0 where
  pub typed : AreTyped st.shared.instruments st.readers
  pub lawful : IsLawful st

-- at each reader, the instrument with this number feeds only streams with the value's number type
abbrev pub FeedType : ℕ → model.Number → List ReaderPart → Type 0
FeedType n v ps = EachOf (FeedsType n v.signed) ps

-- the instrument with this number is there and takes values of this number type
pub record IsTakenBy (instruments : List InstrumentState) (n : ℕ) (v : model.Number) : Type 0 where
  pub instrument : InstrumentState
  pub there : slice_get instruments n ≡ Some instrument
  pub typed : v.signed ≡ instrument.signed

-- the instrument with this number is there and handles can be bound at it: it is synchronous
pub record IsBindable (instruments : List InstrumentState) (n : ℕ) : Type 0 where
  pub instrument : InstrumentState
  pub there : slice_get instruments n ≡ Some instrument
  pub synchronous : model.is_observable instrument.kind ≡ false

-- the observation is of an instrument that takes its value
abbrev pub IsTaken : List InstrumentState → Observed → Type 0
IsTaken instruments o = IsTakenBy instruments o.instrument (observed_of o).value
