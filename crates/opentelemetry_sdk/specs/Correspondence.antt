-- What the code's own values are in the words of the model, by cases. These definitions are trusted: no contract says
-- that they are right. Tests in `otel_tests` send each kind of call, and look at each
-- kind of reply, each fault and each message.
use Rattle.std.specs.Prelude.{◌≡◌, ℕ, ℤ, Bool, false, true, List, map, Option, None, Some, Result, Ok, Err}
use Rattle.otel_aggregate.specs.Any.{is_signed_value, amount_of}
pub use Rattle.opentelemetry_sdk.specs.pipeline.Observations.{observed_of}
use Rattle.otel_common.specs.declared.faults.Fault.{Fault}
use Rattle.otel_common.specs.declared.faults.Fault.TheVariants as fault
use Rattle.otel_common.specs.declared.faults.InternalFault.TheVariants as inner
use Rattle.otel_common.specs.declared.metrics.MetricError.{MetricError}
use Rattle.otel_common.specs.declared.metrics.MetricError.TheVariants.{InvalidInstrumentConfiguration}
use Rattle.otel_data.specs.declared.numbers.NumberValue.{NumberValue}
use Rattle.otel_model.specs.Calls as model
use Rattle.otel_stream.specs.Requests.{Outcome}
use Rattle.opentelemetry_sdk.specs.declared.calls.Call.{Call}
use Rattle.opentelemetry_sdk.specs.declared.calls.Call.TheVariants.{Meter, Build, Record, Bind, RecordBound, Unbind, Collect, Flush, Shutdown}
use Rattle.opentelemetry_sdk.specs.declared.calls.Reply.{Reply}
use Rattle.opentelemetry_sdk.specs.declared.calls.Reply.TheVariants as reply
use Rattle.opentelemetry_sdk.specs.declared.values.sorts.InstrumentSort.{InstrumentSort}
use Rattle.opentelemetry_sdk.specs.declared.values.sorts.InstrumentSort.TheVariants.{U64Counter, U64ObservableCounter, I64UpDownCounter, I64ObservableUpDownCounter, U64Gauge, I64Gauge, U64ObservableGauge, I64ObservableGauge, U64Histogram}

-- ======== instruments ========
abbrev pub kind_of : InstrumentSort → model.InstrumentKind
kind_of U64Counter = model.Counter
kind_of U64ObservableCounter = model.ObservableCounter
kind_of I64UpDownCounter = model.UpDownCounter
kind_of I64ObservableUpDownCounter = model.ObservableUpDownCounter
kind_of U64Gauge = model.Gauge
kind_of I64Gauge = model.Gauge
kind_of U64ObservableGauge = model.ObservableGauge
kind_of I64ObservableGauge = model.ObservableGauge
kind_of U64Histogram = model.Histogram

abbrev pub is_signed : InstrumentSort → Bool
is_signed I64UpDownCounter = true
is_signed I64ObservableUpDownCounter = true
is_signed I64Gauge = true
is_signed I64ObservableGauge = true
is_signed sort = false

abbrev pub about : InstrumentSort → List ℕ → Option (List ℕ) → Option (List ℕ) → Option (List ℤ) → model.About
about sort name description unit bounds = record { kind = kind_of sort; signed = is_signed sort; name = name; description = description; unit = unit; bounds = bounds }

-- ======== calls ========
abbrev pub number_of : NumberValue → model.Number
number_of value = record { signed = is_signed_value value; amount = amount_of value }

abbrev pub call_of : Call → model.Call
call_of (Meter scope) = model.Call.Meter scope
call_of (Build meter sort name description unit boundaries now) = model.Call.Build meter (about sort name description unit boundaries) now
call_of (Record instrument value attributes) = model.Call.Record instrument (number_of value) attributes
call_of (Bind instrument attributes) = model.Call.Bind instrument attributes
call_of (RecordBound handle value) = model.Call.RecordBound handle (number_of value)
call_of (Unbind handle) = model.Call.Unbind handle
call_of (Collect reader now observations) = model.Call.Collect reader now (map observed_of observations)
call_of Flush = model.Call.Flush
call_of Shutdown = model.Call.Shutdown

-- ======== replies ========
abbrev pub fault_of : Fault → model.Fault
fault_of fault.OutOfMemory = model.Fault.OutOfMemory
fault_of fault.UnknownMeter = model.Fault.UnknownMeter
fault_of fault.UnknownInstrument = model.Fault.UnknownInstrument
fault_of fault.UnknownHandle = model.Fault.UnknownHandle
fault_of fault.UnknownReader = model.Fault.UnknownReader
fault_of fault.WrongNumber = model.Fault.WrongNumber
fault_of fault.WrongKind = model.Fault.WrongKind
fault_of fault.AlreadyShutdown = model.Fault.AlreadyShutdown
fault_of fault.Exhausted = model.Fault.Exhausted
fault_of fault.LedgerFull = model.Fault.LedgerFull
fault_of fault.UseWorker = model.Fault.UseWorker
fault_of fault.WorkersMissing = model.Fault.WorkersMissing
fault_of (fault.InternalFailure inner.ReaderShutDown) = model.Fault.ReaderShutDown
fault_of (fault.InternalFailure (inner.Readers failed first)) = model.Fault.ReadersFailed failed first

abbrev pub reply_of : Reply → model.Reply
reply_of (reply.Meter number) = model.Reply.Meter number
reply_of (reply.Instrument number) = model.Reply.Instrument number
reply_of (reply.Handle number) = model.Reply.Handle number
reply_of reply.Done = model.Reply.Done
reply_of (reply.Collected collection) = model.Reply.Collected collection
reply_of (reply.Refused f) = model.Reply.Refused (fault_of f)

-- the reply that says what a call gave, or with which fault it was refused
abbrev pub reply_from : {X : Type 0} → (X → model.Reply) → Result X Fault → model.Reply
reply_from f (Ok x) = f x
reply_from f (Err e) = model.Reply.Refused (fault_of e)

-- the reply to a call that answers nothing but this outcome, as a flush or a shutdown
abbrev pub reply_to : Outcome → model.Reply
reply_to outcome = reply_from (λ _. model.Reply.Done) outcome

-- ======== checks ========
-- the answer of a check: done if there is no text, and otherwise an invalid instrument configuration with this text
abbrev pub IsAnswer : Option (List ℕ) → Result (Unit {0}) MetricError → Type 0
IsAnswer None (Ok _) = Unit {0}
IsAnswer None (Err e) = ⊥
IsAnswer (Some text) (Ok _) = ⊥
IsAnswer (Some text) (Err e) = IsInvalid e text
  where
    IsInvalid : MetricError → List ℕ → Type 0
    IsInvalid (InvalidInstrumentConfiguration message) text = message.now ≡ text
    IsInvalid _ text = ⊥
