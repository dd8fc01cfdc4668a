-- The reply to a call, and what lists of calls do (Metrics SDK, "Shutdown", "ForceFlush", "Collect").
use Rattle.std.specs.Prelude.{◌≡◌, ℕ, ◌+◌, Bool, true, false, cond, IsTrue, List, [], ◌∷◌, map, length, Option, Some, None, slice_get}
use Rattle.otel_common.specs.Scopes.{scope_eq}
use Rattle.otel_common.specs.declared.scopes.InstrumentationScope.{InstrumentationScope}
use Rattle.otel_data.specs.declared.collections.ResourceMetrics.{ResourceMetrics}
use Rattle.otel_model.specs.Calls.{Observed, Call, Meter, Build, Record, Bind, RecordBound, Unbind, Collect, Flush, Shutdown, Fault, OutOfMemory, UnknownReader, ReadersFailed, Reply}
use Rattle.otel_model.specs.Demands.{Views}
use Rattle.otel_model.specs.Collections.{metric, collection}
use Rattle.otel_model.specs.State.{Shared, Stream, ReaderPart, State}
use Rattle.otel_model.specs.Refusals.{refusal}
use Rattle.otel_model.specs.Machine.{with_meter, points_at, accepted_after}

-- ======== replies ========
-- the number of the first meter with this scope, if there is one, where meters are numbered from k on
abbrev pub number_from : ℕ → InstrumentationScope → List InstrumentationScope → Option ℕ
number_from k scope [] = None
number_from k scope (m ∷ ms) = cond (scope_eq m scope) (Some k) (number_from (k + 1) scope ms)

-- the collection of a reader
abbrev pub collect_from : Shared → ℕ → List Observed → ReaderPart → ResourceMetrics
collect_from s now os p = collection s.resource s.meters
    (map (λ (q : Stream). (q.demand.identity.scope, metric p.answers now q.start q.reported q.demand (points_at p.answers p.feeds os q))) p.streams)

-- the reply to a collection: the reader's collection, if the reader exists
abbrev pub collect_reply : Shared → ℕ → List Observed → Option ReaderPart → Reply
collect_reply s now os None = Reply.Refused UnknownReader
collect_reply s now os (Some p) = Reply.Collected (collect_from s now os p)

-- the reply to a call that isn't refused
abbrev pub answer_of : State → Call → Reply
answer_of st (Meter scope) = Reply.Meter (cond st.shared.shut None (number_from 0 scope (with_meter scope st.shared.meters)))
answer_of st (Build meter about now) = Reply.Instrument (length st.shared.instruments)
answer_of st (Record n v l) = Reply.Done
answer_of st (Bind n l) = Reply.Handle st.shared.next
answer_of st (RecordBound h v) = Reply.Done
answer_of st (Unbind h) = Reply.Done
answer_of st (Collect r now os) = collect_reply st.shared now os (slice_get st.readers r)
answer_of st Flush = Reply.Done
answer_of st Shutdown = Reply.Done

-- a refusal if there is a fault, otherwise the reply
abbrev pub reply_by : Option Fault → Reply → Reply
reply_by None reply = reply
reply_by (Some f) reply = Reply.Refused f

-- the old state if there is a fault, otherwise the new one
abbrev pub after_by : Option Fault → State → State → State
after_by None old new = new
after_by (Some f) old new = old

-- the reply to a call if memory suffices and no reader fails
abbrev pub reply_of : State → Call → Reply
reply_of st call = reply_by (refusal st.shared (length st.readers) call) (answer_of st call)

-- the state after a call if memory suffices; a refused call leaves it as it was
abbrev pub after : Views → State → Call → State
after views st call = after_by (refusal st.shared (length st.readers) call) st (accepted_after views st call)

-- ======== one call ========
-- whether a call may be refused for want of memory: not a measurement without attributes or through a handle, not an
-- unbind, not a flush or a shutdown
abbrev pub takes_memory : Call → Bool
takes_memory (Meter scope) = true
takes_memory (Build meter about now) = true
takes_memory (Record n v []) = false
takes_memory (Record n v (a ∷ l)) = true
takes_memory (Bind n l) = true
takes_memory (RecordBound h v) = false
takes_memory (Unbind h) = false
takes_memory (Collect r now os) = true
takes_memory Flush = false
takes_memory Shutdown = false

-- whether a call asks the readers, whose answers are left open: a flush or a shutdown
abbrev pub asks_readers : Call → Bool
asks_readers (Meter scope) = false
asks_readers (Build meter about now) = false
asks_readers (Record n v l) = false
asks_readers (Bind n l) = false
asks_readers (RecordBound h v) = false
asks_readers (Unbind h) = false
asks_readers (Collect r now os) = false
asks_readers Flush = true
asks_readers Shutdown = true

-- one call with its reply and the states before and after it. Either it may need memory, has no other fault, is refused
-- for want of memory and changes nothing; or it asks the readers, has no fault, readers failed, and the new state is
-- the machine's; or the reply and the new state are the machine's
abbrev pub Step : Views → State → Call → Reply → State → Type 0
Step views old call (Reply.Refused OutOfMemory) new = IsTrue (takes_memory call) × (refusal old.shared (length old.readers) call ≡ None) × (new ≡ old)
Step views old call (Reply.Refused (ReadersFailed failed first)) new = IsTrue (asks_readers call) × (refusal old.shared (length old.readers) call ≡ None) × (new ≡ after views old call)
Step views old call reply new = (reply ≡ reply_of old call) × (new ≡ after views old call)

-- ======== a list of calls ========
-- a list of calls with a reply to each, and the states before the first and after the last: each call is a step
abbrev pub Run : Views → State → List Call → List Reply → State → Type 0
Run views old [] [] new = new ≡ old
Run views old [] (reply ∷ replies) new = ⊥
Run views old (call ∷ calls) [] new = ⊥
Run views old (call ∷ calls) (reply ∷ replies) new = (mid : State) × Step views old call reply mid × Run views mid calls replies new

-- the replies to a list of calls if memory suffices and no reader fails
abbrev pub replies_of : Views → State → List Call → List Reply
replies_of views st [] = []
replies_of views st (call ∷ calls) = reply_of st call ∷ replies_of views (after views st call) calls

-- and the state after these calls, likewise
abbrev pub state_of : Views → State → List Call → State
state_of views st [] = st
state_of views st (call ∷ calls) = state_of views (after views st call) calls
