-- One reader by itself: the calls and replies that are left for it.
use Rattle.std.specs.Prelude.{◌≡◌, ℕ, ◌==◌, Bool, true, false, cond, ◌||◌, not, List, [], ◌∷◌, Some, slice_get}
use Rattle.otel_model.specs.Calls.{Call, Meter, Build, Record, Bind, RecordBound, Unbind, Collect, Flush, Shutdown, OutOfMemory, UnknownMeter, UnknownInstrument, UnknownHandle, UnknownReader, WrongNumber, WrongKind, AlreadyShutdown, ReaderShutDown, ReadersFailed, Exhausted, LedgerFull, UseWorker, WorkersMissing, Reply}
use Rattle.otel_model.specs.Demands.{Views}
use Rattle.otel_model.specs.State.{ReaderPart, State}
use Rattle.otel_model.specs.Steps.{asks_readers, replies_of}

-- the provider with this reader alone
abbrev pub with_one_reader : ReaderPart → State → State
with_one_reader part st = record { shared = st.shared; readers = part ∷ [] }

-- whether the reply says that memory was refused
abbrev pub is_short : Reply → Bool
is_short (Reply.Meter n) = false
is_short (Reply.Instrument n) = false
is_short (Reply.Handle n) = false
is_short Reply.Done = false
is_short (Reply.Collected c) = false
is_short (Reply.Refused OutOfMemory) = true
is_short (Reply.Refused UnknownMeter) = false
is_short (Reply.Refused UnknownInstrument) = false
is_short (Reply.Refused UnknownHandle) = false
is_short (Reply.Refused UnknownReader) = false
is_short (Reply.Refused WrongNumber) = false
is_short (Reply.Refused WrongKind) = false
is_short (Reply.Refused AlreadyShutdown) = false
is_short (Reply.Refused ReaderShutDown) = false
is_short (Reply.Refused (ReadersFailed failed first)) = false
is_short (Reply.Refused Exhausted) = false
is_short (Reply.Refused LedgerFull) = false
is_short (Reply.Refused UseWorker) = false
is_short (Reply.Refused WorkersMissing) = false

-- whether the call is a collection of another reader than r
abbrev pub is_others : ℕ → Call → Bool
is_others r (Meter scope) = false
is_others r (Build meter about now) = false
is_others r (Record n v l) = false
is_others r (Bind n l) = false
is_others r (RecordBound h v) = false
is_others r (Unbind h) = false
is_others r (Collect q now os) = not (q == r)
is_others r Flush = false
is_others r Shutdown = false

-- the call, where a collection is of reader 0, the only one
abbrev pub renumbered_call : Call → Call
renumbered_call (Meter scope) = Meter scope
renumbered_call (Build meter about now) = Build meter about now
renumbered_call (Record n v l) = Record n v l
renumbered_call (Bind n l) = Bind n l
renumbered_call (RecordBound h v) = RecordBound h v
renumbered_call (Unbind h) = Unbind h
renumbered_call (Collect q now os) = Collect 0 now os
renumbered_call Flush = Flush
renumbered_call Shutdown = Shutdown

-- the calls that are left for reader r: all but those refused for want of memory and other readers' collections. The
-- reader's own collections are of reader 0 there
abbrev pub only : ℕ → List Call → List Reply → List Call
only r [] replies = []
only r (call ∷ calls) [] = []
only r (call ∷ calls) (reply ∷ replies) = cond (is_short reply || is_others r call) (only r calls replies) (renumbered_call call ∷ only r calls replies)

-- the replies to these calls, without those to flushes and shutdowns
abbrev pub replies_left : ℕ → List Call → List Reply → List Reply
replies_left r [] replies = []
replies_left r (call ∷ calls) [] = []
replies_left r (call ∷ calls) (reply ∷ replies) = cond (is_short reply || is_others r call) (replies_left r calls replies) (cond (asks_readers call) (replies_left r calls replies) (reply ∷ replies_left r calls replies))

-- the replies to these calls, without those to flushes and shutdowns
abbrev pub without_asking : List Call → List Reply → List Reply
without_asking [] replies = []
without_asking (call ∷ calls) [] = []
without_asking (call ∷ calls) (reply ∷ replies) = cond (asks_readers call) (without_asking calls replies) (reply ∷ without_asking calls replies)

-- apart from flushes and shutdowns, the replies to the calls that are left for each reader are those of a provider with
-- that reader alone to just these calls, if memory is never refused
abbrev pub EachAsAlone : Views → State → List Call → List Reply → Type 0
EachAsAlone views old calls replies = (r : ℕ) (part : ReaderPart) → slice_get old.readers r ≡ Some part →
    replies_left r calls replies ≡ without_asking (only r calls replies) (replies_of views (with_one_reader part old) (only r calls replies))
