-- Why a call is refused, other than for want of memory: the first fault that applies, in a fixed order.
use Rattle.std.specs.Prelude.{ℕ, ◌+◌, ◌^◌, ◌==◌, nat_lt, Bool, cond, List, [], ◌∷◌, length, Option, Some, None, slice_get}
use Rattle.std.specs.Bool.{beq}
use Rattle.otel_model.specs.Calls.{is_observable, Observed, Call, Meter, Build, Record, Bind, RecordBound, Unbind, Collect, Flush, Shutdown, Fault, UnknownMeter, UnknownInstrument, UnknownHandle, UnknownReader, WrongNumber, WrongKind, AlreadyShutdown, ReaderShutDown, Exhausted}
use Rattle.otel_model.specs.State.{InstrumentState, LiveHandle, Shared}

-- for a build: the meter must exist. The meter `None`, whose instruments ignore measurements, always does
abbrev pub meter_refusal : Shared → Option ℕ → Option Fault
meter_refusal s None = None
meter_refusal s (Some m) = cond (nat_lt m (length s.meters)) None (Some UnknownMeter)

-- for a value: it must be of the instrument's number type
abbrev pub number_refusal : Bool → Bool → Option Fault
number_refusal signed given = cond (beq signed given) None (Some WrongNumber)

-- for a measurement: the instrument must exist, be synchronous and have the value's number type, in this order
abbrev pub record_refusal : Option InstrumentState → Bool → Option Fault
record_refusal None given = Some UnknownInstrument
record_refusal (Some i) given = cond (is_observable i.kind) (Some WrongKind) (number_refusal i.signed given)

-- for a bind: the instrument must exist and be synchronous. No more than 2^64 - 1 handles can be bound
abbrev pub bind_refusal : ℕ → Option InstrumentState → Option Fault
bind_refusal next None = Some UnknownInstrument
bind_refusal next (Some i) = cond (is_observable i.kind) (Some WrongKind) (cond (nat_lt (next + 1) (2 ^ 64)) None (Some Exhausted))

-- the instrument that the live handle with this number was bound at, if there is one
abbrev pub instrument_held : ℕ → List LiveHandle → Option ℕ
instrument_held h [] = None
instrument_held h (p ∷ ps) = cond (p.0 == h) (Some p.1) (instrument_held h ps)

-- for a measurement through a handle of this instrument: it must exist and have the value's number type
abbrev pub held_refusal : Option InstrumentState → Bool → Option Fault
held_refusal None given = Some UnknownHandle
held_refusal (Some i) given = number_refusal i.signed given

-- for a measurement through a handle: the handle must be live, and its instrument must have the value's number type
abbrev pub handle_refusal : Option ℕ → List InstrumentState → Bool → Option Fault
handle_refusal None is given = Some UnknownHandle
handle_refusal (Some n) is given = held_refusal (slice_get is n) given

-- for an unbind: the handle must be live
abbrev pub unbind_refusal : Option ℕ → Option Fault
unbind_refusal None = Some UnknownHandle
unbind_refusal (Some n) = None

-- for an observation: the instrument must exist, be asynchronous and have the value's number type, in this order
abbrev pub observation_refusal : Option InstrumentState → Bool → Option Fault
observation_refusal None given = Some UnknownInstrument
observation_refusal (Some i) given = cond (is_observable i.kind) (number_refusal i.signed given) (Some WrongKind)

-- the first of two faults, if the first is there, otherwise the second
abbrev pub first_fault : Option Fault → Option Fault → Option Fault
first_fault None later = later
first_fault (Some f) later = Some f

-- for a list of observations: the fault of the first that has one
abbrev pub observations_refusal : List InstrumentState → List Observed → Option Fault
observations_refusal is [] = None
observations_refusal is (o ∷ os) = first_fault (observation_refusal (slice_get is o.instrument) o.value.signed) (observations_refusal is os)

-- why a call is refused, other than for want of memory. Of the readers only their number matters
abbrev pub refusal : Shared → ℕ → Call → Option Fault
refusal s readers (Meter scope) = None
refusal s readers (Build meter about now) = meter_refusal s meter
refusal s readers (Record n v l) = record_refusal (slice_get s.instruments n) v.signed
refusal s readers (Bind n l) = bind_refusal s.next (slice_get s.instruments n)
refusal s readers (RecordBound h v) = handle_refusal (instrument_held h s.live) s.instruments v.signed
refusal s readers (Unbind h) = unbind_refusal (instrument_held h s.live)
refusal s readers (Collect r now os) = cond (nat_lt r readers) (cond s.shut (Some ReaderShutDown) (observations_refusal s.instruments os)) (Some UnknownReader)
refusal s readers Flush = cond s.shut (Some AlreadyShutdown) None
refusal s readers Shutdown = cond s.shut (Some AlreadyShutdown) None
