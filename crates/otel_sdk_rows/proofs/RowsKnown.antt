-- Worked rows on calls that are never refused for lack of memory, and on what an instrument feeds. Some deny a call.
use Rattle.std.specs.Prelude.{◌≡◌, ℕ, true, false, List, [], ◌∷◌, map, Some, None}
use Rattle.std.proofs.Common.{refl, sym, true≢false}
use Rattle.otel_common.specs.Canonical.{canon}
use Rattle.otel_common.specs.declared.attributes.KeyValue.{KeyValue}
use Rattle.otel_common.specs.declared.faults.Fault.TheVariants as fault
use Rattle.otel_common.specs.declared.faults.InternalFault.TheVariants as inner
use Rattle.otel_data.specs.declared.collections.ResourceMetrics.{ResourceMetrics}
use Rattle.otel_data.specs.declared.numbers.NumberValue.TheVariants as number
use Rattle.otel_model_stream.specs.Sets.{over_set}
use Rattle.otel_model.specs.Calls as model
use Rattle.otel_model.specs.Calls.{Meter, Build, Record, Bind, RecordBound, Unbind, Collect, Flush, Shutdown, Counter, ObservableCounter}
use Rattle.otel_model.specs.Demands.{Identity, own_demand}
use Rattle.otel_model.specs.State.{ReaderPart, State, Stream}
use Rattle.otel_model.specs.Steps.{after, state_of}
use Rattle.otel_stream.specs.Runs.{concat_lists}
use Rattle.opentelemetry_sdk.specs.Checks.{has_stream, collect_refusal}
use Rattle.opentelemetry_sdk.specs.Known.{is_known, IsKnown, HasMemory, EachKnownHasMemory}
use Rattle.opentelemetry_sdk.specs.Pending.{IsKnownFirst}
use Rattle.opentelemetry_sdk.specs.States.{IsNamed}
use Rattle.opentelemetry_sdk.specs.declared.calls.Call.{Call}
use Rattle.opentelemetry_sdk.specs.declared.calls.Call.TheVariants as call
use Rattle.opentelemetry_sdk.specs.declared.calls.Reply.TheVariants as reply
use Rattle.opentelemetry_sdk.specs.declared.metrics.shared.pending.PendingRecord.{PendingRecord}
use Rattle.opentelemetry_sdk.specs.declared.metrics.shared.pending.PendingRecord.TheVariants as pending
use Rattle.opentelemetry_sdk.specs.pipeline.Known.{is_known_to, is_known_by, is_known_at}
use Rattle.opentelemetry_sdk.specs.pipeline.Pipelines.{has_stream_at, some_stream}
use Rattle.otel_sdk_rows.proofs.RowWords.{x1, y1, z1, u64, m, about, cumulative, limited, begun_with, begun, ended, used}

-- ======== known attributes ========
-- the second reader's stream had room for the first set alone, so others go to its overflow entry
pub known_at_readers : map (is_known_at 0 y1) used.readers ≡ true ∷ true ∷ []
unfolding canon
known_at_readers = refl

-- the first reader's stream has room for another set
pub new_at_readers : map (is_known_at 0 z1) used.readers ≡ false ∷ true ∷ []
unfolding canon
new_at_readers = refl

-- the empty attributes are known, and those that make no entry at either reader
pub known : map (λ l. is_known 0 l used) ([] ∷ x1 ∷ y1 ∷ z1 ∷ []) ≡ true ∷ true ∷ true ∷ false ∷ []
unfolding canon
known = refl

-- a full stream whose overflow entry is still to be made knows no other set
pub unknown_where_nothing_overflowed : is_known 0 y1 (state_of [] (begun_with (limited ∷ [])) (Record 0 (u64 1) x1 ∷ [])) ≡ false
unfolding canon
unknown_where_nothing_overflowed = refl

-- nor does one with room, where a program recorded the overflow entry's own set
pub unknown_beside_the_overflow_set : map (λ l. is_known 0 l (after [] begun (Record 0 (u64 1) over_set))) (over_set ∷ y1 ∷ []) ≡ true ∷ false ∷ []
unfolding canon
unknown_beside_the_overflow_set = refl

-- an instrument that feeds nothing knows all
pub known_where_nothing_is_fed : is_known 2 y1 used ≡ true
known_where_nothing_is_fed = refl

-- the streams of the counter and of the observable one, at both readers
abbrev streams : List Stream
streams = concat_lists (map (λ (part : ReaderPart). part.streams) used.readers)

pub known_to_streams : map (is_known_to y1) streams ≡ true ∷ false ∷ true ∷ false ∷ []
unfolding canon
known_to_streams = refl

abbrev counter : Identity
counter = (own_demand cumulative m (about Counter)).identity

abbrev other : Identity
other = (own_demand cumulative m (about ObservableCounter)).identity

-- the stream that knows them is that of the identity
pub known_by_identity : map (is_known_by x1 streams) (counter ∷ other ∷ []) ≡ true ∷ false ∷ []
unfolding canon
known_by_identity = refl

-- ======== calls ========
pub record_known : IsKnown used (Record 0 (u64 2) x1)
unfolding canon
record_known = refl

pub record_without_attributes_known : IsKnown begun (Record 0 (u64 2) [])
unfolding canon
record_without_attributes_known = refl

pub record_unknown : IsKnown used (Record 0 (u64 2) z1) → ⊥
unfolding canon
record_unknown e = true≢false (sym e)

-- no other call
pub others_unknown : (IsKnown used (Meter m) → ⊥) × (IsKnown used (Build None (about Counter) 100) → ⊥) × (IsKnown used (Bind 0 x1) → ⊥) × (IsKnown used (RecordBound 0 (u64 1)) → ⊥) × (IsKnown used (Unbind 0) → ⊥) × (IsKnown used (Collect 0 200 []) → ⊥) × (IsKnown used Flush → ⊥) × (IsKnown used Shutdown → ⊥)
others_unknown = (λ h. h, λ h. h, λ h. h, λ h. h, λ h. h, λ h. h, λ h. h, λ h. h)

-- ======== runs ========
abbrev again : Call
again = call.Record 0 (number.U64 2) x1

-- a known call is refused, as the first of a list or behind another one
pub known_refused_first : EachKnownHasMemory [] used (again ∷ []) (reply.Refused fault.OutOfMemory ∷ []) → ⊥
unfolding canon
known_refused_first h = h [] [] again [] [] (reply.Refused fault.OutOfMemory) used refl refl refl refl

pub known_refused_later : EachKnownHasMemory [] used (again ∷ again ∷ []) (reply.Done ∷ reply.Refused fault.OutOfMemory ∷ []) → ⊥
unfolding canon
known_refused_later h =
    let mid : State = after [] used (Record 0 (u64 2) x1) in
    h (again ∷ []) [] again (reply.Done ∷ []) [] (reply.Refused fault.OutOfMemory) mid refl refl (mid, (refl, refl), refl) refl

-- ======== records that wait ========
abbrev waiting : List KeyValue → PendingRecord
waiting l = pending.Plain 0 (number.U64 2) l

pub first_known : IsKnownFirst used (waiting x1 ∷ waiting z1 ∷ [])
unfolding canon
first_known = refl

pub first_unknown : IsKnownFirst used (waiting z1 ∷ waiting x1 ∷ []) → ⊥
unfolding canon
first_unknown e = true≢false (sym e)

pub none_first : IsKnownFirst used [] → ⊥
none_first h = h

-- ======== memory ========
pub no_name_of_want : IsNamed fault.OutOfMemory → ⊥
no_name_of_want h = h

pub named_faults : IsNamed fault.UnknownMeter × IsNamed fault.UnknownInstrument × IsNamed fault.UnknownHandle × IsNamed fault.UnknownReader × IsNamed fault.WrongNumber × IsNamed fault.WrongKind × IsNamed fault.AlreadyShutdown × IsNamed fault.Exhausted × IsNamed fault.LedgerFull × IsNamed fault.UseWorker × IsNamed fault.WorkersMissing × IsNamed (fault.InternalFailure inner.ReaderShutDown) × IsNamed (fault.InternalFailure (inner.Readers 2 1))
named_faults = (tt, tt, tt, tt, tt, tt, tt, tt, tt, tt, tt, tt, tt)

pub refused_for_memory : HasMemory (reply.Refused fault.OutOfMemory) → ⊥
refused_for_memory h = h

pub refused_otherwise : HasMemory (reply.Refused fault.UnknownInstrument) × HasMemory (reply.Refused fault.WrongNumber) × HasMemory (reply.Refused fault.WrongKind)
refused_otherwise = (tt, tt, tt)

pub not_refused : (collection : ResourceMetrics) → HasMemory reply.Done × HasMemory (reply.Meter None) × HasMemory (reply.Instrument 0) × HasMemory (reply.Handle 0) × HasMemory (reply.Collected collection)
not_refused collection = (tt, tt, tt, tt, tt)

-- ======== streams of an instrument ========
pub any_stream : map (λ (l : List ℕ). some_stream l) ([] ∷ (1 ∷ []) ∷ (1 ∷ 2 ∷ []) ∷ []) ≡ false ∷ true ∷ true ∷ []
any_stream = refl

pub streams_at_reader : map (λ (part : ReaderPart). map (λ n. has_stream_at n part) (0 ∷ 2 ∷ 3 ∷ [])) begun.readers ≡ (true ∷ false ∷ false ∷ []) ∷ []
streams_at_reader = refl

pub streams_anywhere : map (λ n. has_stream n begun) (0 ∷ 1 ∷ 2 ∷ 3 ∷ []) ≡ true ∷ true ∷ false ∷ false ∷ []
streams_anywhere = refl

-- a stream of the last reader is enough
pub stream_of_last_reader : has_stream 0 (record begun { readers = record { answers = cumulative; fates = []; streams = []; feeds = [] } ∷ begun.readers }) ≡ true
stream_of_last_reader = refl

-- a collection is refused for an unknown reader, and after a shutdown
pub refused_collections : (map (collect_refusal begun) (0 ∷ 1 ∷ []) ≡ None ∷ Some model.Fault.UnknownReader ∷ []) × (collect_refusal ended 0 ≡ Some model.Fault.ReaderShutDown)
refused_collections = (refl, refl)
