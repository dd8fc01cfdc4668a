-- Worked rows on what calls, replies, faults and numbers of the code are in the words of the model.
use Rattle.std.specs.Prelude.{◌≡◌, pos, negsuc, true, false, List, [], ◌∷◌, map, Some, None, Ok, Err, codes}
use Rattle.std.proofs.Common.{refl}
use Rattle.otel_common.specs.declared.faults.Fault.{Fault}
use Rattle.otel_common.specs.declared.faults.Fault.TheVariants as fault
use Rattle.otel_common.specs.declared.faults.InternalFault.TheVariants as inner
use Rattle.otel_common.specs.declared.metrics.MetricError.{MetricError}
use Rattle.otel_common.specs.declared.metrics.MetricError.TheVariants.{Other, Config, InvalidInstrumentConfiguration}
use Rattle.otel_data.specs.declared.collections.ResourceMetrics.{ResourceMetrics}
use Rattle.otel_data.specs.declared.numbers.NumberValue.TheVariants.{U64, I64}
use Rattle.otel_model.specs.Calls as model
use Rattle.otel_model.specs.Calls.{Number}
use Rattle.otel_model.specs.Resources.{empty_resource}
use Rattle.otel_stream.specs.declared.observation.Observed.{Observed}
use Rattle.opentelemetry_sdk.specs.Correspondence.{kind_of, is_signed, about, number_of, observed_of, call_of, fault_of, reply_of, reply_from, reply_to, IsAnswer}
use Rattle.opentelemetry_sdk.specs.Typed.{named_scope, meter_reply, build_reply, observed_reply, record_reply, bind_reply, unbind_reply, collected_reply, collect_reply}
use Rattle.opentelemetry_sdk.specs.declared.values.bound.Bound.{Bound}
use Rattle.opentelemetry_sdk.specs.declared.calls.Call.{Call}
use Rattle.opentelemetry_sdk.specs.declared.calls.Call.TheVariants.{Meter, Build, Record, Bind, RecordBound, Unbind, Collect, Flush, Shutdown}
use Rattle.opentelemetry_sdk.specs.declared.calls.Reply.{Reply}
use Rattle.opentelemetry_sdk.specs.declared.calls.Reply.TheVariants as reply
use Rattle.opentelemetry_sdk.specs.declared.values.sorts.InstrumentSort.{InstrumentSort}
use Rattle.opentelemetry_sdk.specs.declared.values.sorts.InstrumentSort.TheVariants.{U64Counter, U64ObservableCounter, I64UpDownCounter, I64ObservableUpDownCounter, U64Gauge, I64Gauge, U64ObservableGauge, I64ObservableGauge, U64Histogram}
use Rattle.otel_sdk_rows.proofs.RowWords.{x1, m, u64}

-- ======== instruments ========
abbrev sorts : List InstrumentSort
sorts = U64Counter ∷ U64ObservableCounter ∷ I64UpDownCounter ∷ I64ObservableUpDownCounter ∷ U64Gauge ∷ I64Gauge ∷ U64ObservableGauge ∷ I64ObservableGauge ∷ U64Histogram ∷ []

pub kinds_of_sorts : map kind_of sorts ≡ model.Counter ∷ model.ObservableCounter ∷ model.UpDownCounter ∷ model.ObservableUpDownCounter ∷ model.Gauge ∷ model.Gauge ∷ model.ObservableGauge ∷ model.ObservableGauge ∷ model.Histogram ∷ []
kinds_of_sorts = refl

pub signed_sorts : map is_signed sorts ≡ false ∷ false ∷ true ∷ true ∷ false ∷ true ∷ false ∷ true ∷ false ∷ []
signed_sorts = refl

abbrev said : model.About
said = record { kind = model.Gauge; signed = true; name = 110 ∷ []; description = Some (100 ∷ []); unit = Some (117 ∷ []); bounds = Some (pos 5 ∷ []) }

pub said_of_instruments : about I64Gauge (110 ∷ []) (Some (100 ∷ [])) (Some (117 ∷ [])) (Some (pos 5 ∷ [])) ≡ said
said_of_instruments = refl

-- ======== values ========
-- minus one has all 64 bits
abbrev minus_one : Number
minus_one = record { signed = true; amount = record { bits = 18446744073709551615; wide = negsuc 0 } }

pub numbers_of_values : map number_of (U64 7 ∷ U64 18446744073709551615 ∷ I64 (negsuc 0) ∷ []) ≡ u64 7 ∷ u64 18446744073709551615 ∷ minus_one ∷ []
numbers_of_values = refl

abbrev observed : Observed
observed = record { instrument = 3; value = I64 (negsuc 0); attributes = x1 }

pub observations : observed_of observed ≡ record { instrument = 3; value = minus_one; attributes = x1 }
observations = refl

-- ======== calls ========
abbrev calls : List Call
calls = Meter m ∷ Build (Some 2) I64Gauge (110 ∷ []) (Some (100 ∷ [])) (Some (117 ∷ [])) (Some (pos 5 ∷ [])) 100 ∷ Record 3 (U64 7) x1 ∷ Bind 4 x1 ∷ RecordBound 5 (I64 (negsuc 0)) ∷ Unbind 6 ∷ Collect 1 200 (observed ∷ []) ∷ Flush ∷ Shutdown ∷ []

pub calls_of_each : map call_of calls
    ≡ model.Call.Meter m
    ∷ model.Call.Build (Some 2) said 100
    ∷ model.Call.Record 3 (u64 7) x1
    ∷ model.Call.Bind 4 x1
    ∷ model.Call.RecordBound 5 minus_one
    ∷ model.Call.Unbind 6
    ∷ model.Call.Collect 1 200 (record { instrument = 3; value = minus_one; attributes = x1 } ∷ [])
    ∷ model.Call.Flush
    ∷ model.Call.Shutdown
    ∷ []
calls_of_each = refl

-- ======== replies ========
abbrev faults : List Fault
faults = fault.OutOfMemory ∷ fault.UnknownMeter ∷ fault.UnknownInstrument ∷ fault.UnknownHandle ∷ fault.UnknownReader ∷ fault.WrongNumber ∷ fault.WrongKind ∷ fault.AlreadyShutdown ∷ fault.InternalFailure inner.ReaderShutDown ∷ fault.InternalFailure (inner.Readers 2 1) ∷ fault.Exhausted ∷ fault.LedgerFull ∷ fault.UseWorker ∷ fault.WorkersMissing ∷ []

pub faults_of_each : map fault_of faults
    ≡ model.Fault.OutOfMemory ∷ model.Fault.UnknownMeter ∷ model.Fault.UnknownInstrument ∷ model.Fault.UnknownHandle ∷ model.Fault.UnknownReader ∷ model.Fault.WrongNumber ∷ model.Fault.WrongKind ∷ model.Fault.AlreadyShutdown ∷ model.Fault.ReaderShutDown ∷ model.Fault.ReadersFailed 2 1 ∷ model.Fault.Exhausted ∷ model.Fault.LedgerFull ∷ model.Fault.UseWorker ∷ model.Fault.WorkersMissing ∷ []
faults_of_each = refl

abbrev nothing : ResourceMetrics
nothing = record { resource = empty_resource; scope_metrics = [] }

pub replies_of_each : map reply_of (reply.Meter None ∷ reply.Meter (Some 2) ∷ reply.Instrument 3 ∷ reply.Handle 4 ∷ reply.Done ∷ reply.Collected nothing ∷ reply.Refused fault.WrongKind ∷ [])
    ≡ model.Reply.Meter None ∷ model.Reply.Meter (Some 2) ∷ model.Reply.Instrument 3 ∷ model.Reply.Handle 4 ∷ model.Reply.Done ∷ model.Reply.Collected nothing ∷ model.Reply.Refused model.Fault.WrongKind ∷ []
replies_of_each = refl

pub replies_from_results : map (reply_from model.Reply.Handle) (Ok 4 ∷ Err fault.WrongKind ∷ []) ≡ model.Reply.Handle 4 ∷ model.Reply.Refused model.Fault.WrongKind ∷ []
replies_from_results = refl

pub replies_to_requests : map reply_to (Ok tt ∷ Err (fault.InternalFailure (inner.Readers 2 1)) ∷ []) ≡ model.Reply.Done ∷ model.Reply.Refused (model.Fault.ReadersFailed 2 1) ∷ []
replies_to_requests = refl

-- of typed calls
abbrev refused : model.Reply
refused = model.Reply.Refused model.Fault.WrongKind

pub typed_refusals : (meter_reply (Err fault.WrongKind) ≡ refused) × (record_reply (Err fault.WrongKind) ≡ refused) × (collected_reply (Err fault.WrongKind) ≡ refused) × (collect_reply (Err fault.WrongKind) nothing ≡ refused)
typed_refusals = (refl, refl, refl, refl)

pub generic_refusals : (K T : Type 0) → (build_reply {K = K} {T = T} (Err fault.WrongKind) ≡ refused) × (observed_reply {K = K} {T = T} (Err fault.WrongKind) ≡ refused) × (bind_reply {T = T} (Err fault.WrongKind) ≡ refused)
generic_refusals K T = (refl, refl, refl)

pub ends_refused : {T : Type 0} (b : Bound T) → unbind_reply {T = T} (Err (b, fault.WrongKind)) ≡ refused
ends_refused b = refl

pub ends : (T : Type 0) → unbind_reply {T = T} (Ok tt) ≡ model.Reply.Done
ends T = refl

pub recorded : record_reply (Ok tt) ≡ model.Reply.Done
recorded = refl

pub collections_replied : (collected_reply (Ok nothing) ≡ model.Reply.Collected nothing) × (collect_reply (Ok tt) nothing ≡ model.Reply.Collected nothing)
collections_replied = (refl, refl)

pub scope_named : named_scope (codes "shop") ≡ record { name = codes "shop"; version = None; schema_url = None; attributes = [] }
scope_named = refl

-- ======== checks ========
pub good_answer : IsAnswer None (Ok tt)
good_answer = tt

pub refused_without_text : (e : MetricError) → IsAnswer None (Err e) → ⊥
refused_without_text e h = h

pub done_with_text : IsAnswer (Some []) (Ok tt) → ⊥
done_with_text h = h

pub text_of_answer : (message : _) → IsAnswer (Some (codes "a")) (Err (InvalidInstrumentConfiguration message)) → message.now ≡ codes "a"
text_of_answer message h = h

pub other_error : (message : _) → IsAnswer (Some (codes "a")) (Err (Other message)) → ⊥
other_error message h = h

pub config_error : (message : _) → IsAnswer (Some (codes "a")) (Err (Config message)) → ⊥
config_error message h = h
