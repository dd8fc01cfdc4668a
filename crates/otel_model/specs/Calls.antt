-- The calls to a provider and the replies, as plain data. The result of a collection is data of `otel_data` itself.
use Rattle.std.specs.Prelude.{ℕ, ◌+◌, ℤ, Bool, true, false, cond, List, map, Option, Some, None}
use Rattle.otel_common.specs.declared.attributes.KeyValue.{KeyValue}
use Rattle.otel_common.specs.declared.scopes.InstrumentationScope.{InstrumentationScope}
use Rattle.otel_data.specs.declared.collections.ResourceMetrics.{ResourceMetrics}
pub use Rattle.otel_stream.specs.declared.instrument.InstrumentKind.{InstrumentKind}
pub use Rattle.otel_stream.specs.declared.instrument.InstrumentKind.TheVariants.{Counter, UpDownCounter, Histogram, ObservableCounter, ObservableUpDownCounter, Gauge, ObservableGauge}
pub use Rattle.otel_stream.specs.Answers.{kind_number, kind_eq}
use Rattle.otel_model_stream.specs.Folds.{Amount}
use Rattle.otel_model.specs.Checks.{is_within}

-- the bytes of a text
abbrev pub Text : Type 0
Text = List ℕ

-- a text with its ASCII letters in lower case
abbrev pub ascii_lowercase : Text → Text
ascii_lowercase t = map (λ b. cond (is_within 65 90 b) (b + 32) b) t

-- the value that an option holds, or the given default
abbrev pub or_else : {X : Type 0} → Option X → X → X
or_else None d = d
or_else (Some x) d = x

-- ======== instruments ========
-- whether the instrument is asynchronous
abbrev pub is_observable : InstrumentKind → Bool
is_observable Counter = false
is_observable UpDownCounter = false
is_observable Histogram = false
is_observable ObservableCounter = true
is_observable ObservableUpDownCounter = true
is_observable Gauge = false
is_observable ObservableGauge = true

-- a value with its number type: `i64` if signed, otherwise `u64`
pub record Number : Type 0 where
  pub signed : Bool
  pub amount : Amount

-- what a build says about its instrument; the bounds are those of histogram buckets
pub record About : Type 0 where
  pub kind : InstrumentKind
  pub signed : Bool
  pub name : Text
  pub description : Option Text
  pub unit : Option Text
  pub bounds : Option (List ℤ)

-- an observation: the number of an instrument, a value and attributes
pub record Observed : Type 0 where
  pub instrument : ℕ
  pub value : Number
  pub attributes : List KeyValue

-- ======== calls ========
-- a call. Meters, instruments and readers are named by their numbers, handles by the number that their bind gave
pub data Call : Type 0 where
  Meter : (scope : InstrumentationScope) → Call
  Build : (meter : Option ℕ) (about : About) (now : ℕ) → Call
  Record : (instrument : ℕ) (value : Number) (attributes : List KeyValue) → Call
  Bind : (instrument : ℕ) (attributes : List KeyValue) → Call
  RecordBound : (handle : ℕ) (value : Number) → Call
  Unbind : (handle : ℕ) → Call
  Collect : (reader : ℕ) (now : ℕ) (observations : List Observed) → Call
  Flush : Call
  Shutdown : Call

-- ======== replies ========
-- why a call is refused or fails
pub data Fault : Type 0 where
  OutOfMemory : Fault
  UnknownMeter : Fault
  UnknownInstrument : Fault
  UnknownHandle : Fault
  UnknownReader : Fault
  WrongNumber : Fault
  WrongKind : Fault
  AlreadyShutdown : Fault
  ReaderShutDown : Fault
  ReadersFailed : (failed : ℕ) (first : ℕ) → Fault
  Exhausted : Fault
  LedgerFull : Fault
  UseWorker : Fault
  WorkersMissing : Fault

-- the reply to a call
pub data Reply : Type 0 where
  Meter : (number : Option ℕ) → Reply
  Instrument : (number : ℕ) → Reply
  Handle : (number : ℕ) → Reply
  Done : Reply
  Collected : (collection : ResourceMetrics) → Reply
  Refused : (fault : Fault) → Reply
