-- Meters, instruments and their builders as values. `K` marks a kind of instrument, `T` is the type of its values; `P`
-- is the bundle of a provider's parts, `V` the type of its views, `R` that of its readers, `U` and `I` those of its
-- callbacks.
use Rattle.std.specs.Prelude.{◌≡◌, ℕ, List, [], Option, None, Result, Ok, Err}
use Rattle.otel_stream.specs.declared.registered.Callback.{Callback}
use Rattle.otel_common.specs.declared.faults.Fault.{Fault}
use Rattle.otel_common.specs.declared.scopes.InstrumentationScope.{InstrumentationScope}
use Rattle.otel_data.specs.declared.collections.ResourceMetrics.{ResourceMetrics}
use Rattle.otel_model.specs.Calls as model
use Rattle.opentelemetry_sdk.specs.Correspondence.{about, fault_of, reply_from}
use Rattle.opentelemetry_sdk.specs.Providers.{identity_of}
use Rattle.opentelemetry_sdk.specs.declared.values.async_builders.AsyncInstrumentBuilder.{AsyncInstrumentBuilder}
use Rattle.opentelemetry_sdk.specs.declared.values.asynchronous.Asynchronous.{Asynchronous}
use Rattle.opentelemetry_sdk.specs.declared.values.bound.Bound.{Bound}
use Rattle.opentelemetry_sdk.specs.declared.values.bound.Kept.{Kept}
use Rattle.opentelemetry_sdk.specs.declared.values.builders.InstrumentBuilder.{InstrumentBuilder}
use Rattle.opentelemetry_sdk.specs.declared.values.meters.Meter.{Meter}
use Rattle.opentelemetry_sdk.specs.declared.provider.Provider.{Provider}
use Rattle.opentelemetry_sdk.specs.declared.values.synchronous.Synchronous.{Synchronous}

-- ======== meters ========
-- the number of a meter; none if the provider was shut down before it gave the meter
abbrev pub meter_number : Meter → Option ℕ
meter_number m = m.number

-- the meter has the provider's identity
abbrev pub IsMeterOf : {P V R U I : Type 0} → Meter → Provider P V R U I → Type 0
IsMeterOf m p = m.identity ≡ identity_of p

-- the scope with this name and nothing else
abbrev pub named_scope : List ℕ → InstrumentationScope
named_scope name = record { name = name; version = None; schema_url = None; attributes = [] }

-- ======== builders ========
-- the meter of a builder
abbrev pub meter_of : {K T : Type 0} → InstrumentBuilder K T → Meter
meter_of b = b.meter

-- what a builder says of its instrument
abbrev pub about_of : {K T : Type 0} → InstrumentBuilder K T → model.About
about_of b = about b.sort b.name b.description b.unit b.boundaries

-- the same for a builder of an observable instrument
abbrev pub meter_observed : {K T P V R U I : Type 0} → AsyncInstrumentBuilder K T P V R U I → Meter
meter_observed b = meter_of b.builder

abbrev pub about_observed : {K T P V R U I : Type 0} → AsyncInstrumentBuilder K T P V R U I → model.About
about_observed b = about_of b.builder

-- the callbacks that it was given
abbrev pub builder_callbacks : {K T P V R U I : Type 0} → AsyncInstrumentBuilder K T P V R U I → List (Callback U I)
builder_callbacks b = b.callbacks.items

-- ======== instruments ========
abbrev pub instrument_number : {K T : Type 0} → Synchronous K T → ℕ
instrument_number i = i.number

-- the identity of the provider that it belongs to
abbrev pub instrument_identity : {K T : Type 0} → Synchronous K T → ℕ
instrument_identity i = i.identity

-- the instrument has the provider's identity
abbrev pub IsInstrumentOf : {K T P V R U I : Type 0} → Synchronous K T → Provider P V R U I → Type 0
IsInstrumentOf i p = i.identity ≡ identity_of p

-- the same for an observable instrument
abbrev pub observable_number : {K T : Type 0} → Asynchronous K T → ℕ
observable_number i = i.number

abbrev pub IsObservableOf : {K T P V R U I : Type 0} → Asynchronous K T → Provider P V R U I → Type 0
IsObservableOf i p = i.identity ≡ identity_of p

-- ======== handles ========
abbrev pub handle_number : {T : Type 0} → Bound T → ℕ
handle_number b = b.kept.handle.number

-- the identity of the provider that it belongs to
abbrev pub handle_identity : {T : Type 0} → Bound T → ℕ
handle_identity b = b.kept.identity

-- the handle has the provider's identity
abbrev pub IsBoundOf : {T P V R U I : Type 0} → Bound T → Provider P V R U I → Type 0
IsBoundOf b p = b.kept.identity ≡ identity_of p

-- the same for a handle that is kept
abbrev pub kept_number : {T : Type 0} → Kept T → ℕ
kept_number k = k.handle.number

abbrev pub kept_identity : {T : Type 0} → Kept T → ℕ
kept_identity k = k.identity

abbrev pub IsKeptOf : {T P V R U I : Type 0} → Kept T → Provider P V R U I → Type 0
IsKeptOf k p = k.identity ≡ identity_of p

-- ======== replies ========
-- the replies to a call for a meter, to builds and to a record
abbrev pub meter_reply : Result Meter Fault → model.Reply
meter_reply r = reply_from (λ m. model.Reply.Meter m.number) r

abbrev pub build_reply : {K T : Type 0} → Result (Synchronous K T) Fault → model.Reply
build_reply r = reply_from (λ i. model.Reply.Instrument i.number) r

abbrev pub observed_reply : {K T : Type 0} → Result (Asynchronous K T) Fault → model.Reply
observed_reply r = reply_from (λ i. model.Reply.Instrument i.number) r

abbrev pub record_reply : Result (Unit {0}) Fault → model.Reply
record_reply r = reply_from (λ _. model.Reply.Done) r

-- the reply to a bind
abbrev pub bind_reply : {T : Type 0} → Result (Bound T) Fault → model.Reply
bind_reply r = reply_from (λ b. model.Reply.Handle b.kept.handle.number) r

-- the reply to the end of a handle, which is handed back if it is refused
abbrev pub unbind_reply : {T : Type 0} → Result (Unit {0}) (Bound T × Fault) → model.Reply
unbind_reply (Ok _) = model.Reply.Done
unbind_reply (Err e) = model.Reply.Refused (fault_of e.1)

-- the reply to a collection, which is returned
abbrev pub collected_reply : Result ResourceMetrics Fault → model.Reply
collected_reply r = reply_from model.Reply.Collected r

-- the reply to a collection, which is handed back in this value
abbrev pub collect_reply : Result (Unit {0}) Fault → ResourceMetrics → model.Reply
collect_reply r c = reply_from (λ _. model.Reply.Collected c) r
