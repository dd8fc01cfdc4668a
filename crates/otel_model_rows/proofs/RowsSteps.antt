-- Worked rows on single steps and runs: when memory may be refused, when readers may fail, and what is left for a reader
-- by itself. Many of them deny a step.
use Rattle.std.specs.Prelude.{◌≡◌, ℕ, pos, Bool, true, false, List, [], ◌∷◌, map, length, Some, None}
use Rattle.std.proofs.Common.{refl, sym, ap, ◌∙◌, true≢false}
use Rattle.std.proofs.lemmas.Option.{none-some}
use Rattle.otel_common.specs.Canonical.{canon}
use Rattle.otel_model.specs.Calls.{Counter, ObservableCounter, Number, Call, Meter, Build, Record, Bind, RecordBound, Unbind, Collect, Flush, Shutdown, Fault, OutOfMemory, UnknownMeter, UnknownInstrument, UnknownHandle, UnknownReader, WrongNumber, WrongKind, AlreadyShutdown, ReaderShutDown, ReadersFailed, Exhausted, LedgerFull, UseWorker, WorkersMissing, Reply}
use Rattle.otel_model.specs.Demands.{Views}
use Rattle.otel_model.specs.History.{is_shutdown, is_failed, is_bind, counts, concerns, made_calls}
use Rattle.otel_model.specs.Machine.{new_state}
use Rattle.otel_model.specs.Only.{is_short, is_others, renumbered_call, only, replies_left, without_asking}
use Rattle.otel_model.specs.Refusals.{refusal}
use Rattle.otel_model.specs.Resources.{empty_resource}
use Rattle.otel_model.specs.State.{State}
use Rattle.otel_model.specs.Steps.{takes_memory, asks_readers, reply_of, after, Step, Run, replies_of, state_of}
use Rattle.otel_model_rows.specs.Rows.{a, m, about, u64, i64, x1, cumulative, observe}

-- ======== words on calls and replies ========
-- one call of each kind, and both kinds of records
abbrev each_call : List Call
each_call = Meter m ∷ Build (Some 0) (about Counter a) 100 ∷ Record 0 (u64 1) [] ∷ Record 0 (u64 1) x1 ∷ Bind 0 [] ∷ RecordBound 0 (u64 1) ∷ Unbind 0 ∷ Collect 2 200 [] ∷ Flush ∷ Shutdown ∷ []

pub memory_taken : map takes_memory each_call ≡ true ∷ true ∷ false ∷ true ∷ true ∷ false ∷ false ∷ true ∷ false ∷ false ∷ []
memory_taken = refl

pub readers_asked : map asks_readers each_call ≡ false ∷ false ∷ false ∷ false ∷ false ∷ false ∷ false ∷ false ∷ true ∷ true ∷ []
readers_asked = refl

pub shutdowns : map is_shutdown each_call ≡ false ∷ false ∷ false ∷ false ∷ false ∷ false ∷ false ∷ false ∷ false ∷ true ∷ []
shutdowns = refl

pub binds : map is_bind each_call ≡ false ∷ false ∷ false ∷ false ∷ true ∷ false ∷ false ∷ false ∷ false ∷ false ∷ []
binds = refl

-- a collection of reader 2 is another's for reader 1
pub others : map (is_others 1) each_call ≡ false ∷ false ∷ false ∷ false ∷ false ∷ false ∷ false ∷ true ∷ false ∷ false ∷ []
others = refl

pub own : map (is_others 2) each_call ≡ false ∷ false ∷ false ∷ false ∷ false ∷ false ∷ false ∷ false ∷ false ∷ false ∷ []
own = refl

pub concerning : map (concerns 1) each_call ≡ true ∷ true ∷ true ∷ true ∷ true ∷ true ∷ true ∷ false ∷ true ∷ true ∷ []
concerning = refl

pub concerning_own : map (concerns 2) each_call ≡ true ∷ true ∷ true ∷ true ∷ true ∷ true ∷ true ∷ true ∷ true ∷ true ∷ []
concerning_own = refl

-- only a collection gets another number
pub renumbered : map renumbered_call each_call ≡ Meter m ∷ Build (Some 0) (about Counter a) 100 ∷ Record 0 (u64 1) [] ∷ Record 0 (u64 1) x1 ∷ Bind 0 [] ∷ RecordBound 0 (u64 1) ∷ Unbind 0 ∷ Collect 0 200 [] ∷ Flush ∷ Shutdown ∷ []
renumbered = refl

abbrev each_fault : List Fault
each_fault = OutOfMemory ∷ UnknownMeter ∷ UnknownInstrument ∷ UnknownHandle ∷ UnknownReader ∷ WrongNumber ∷ WrongKind ∷ AlreadyShutdown ∷ ReaderShutDown ∷ ReadersFailed 1 0 ∷ Exhausted ∷ LedgerFull ∷ UseWorker ∷ WorkersMissing ∷ []

abbrev refused_each : List Reply
refused_each = map Reply.Refused each_fault

abbrev unrefused : List Reply
unrefused = Reply.Meter None ∷ Reply.Instrument 0 ∷ Reply.Handle 0 ∷ Reply.Done ∷ Reply.Collected (record { resource = empty_resource; scope_metrics = [] }) ∷ []

-- want of memory alone is the fault by which a call is left out
pub short : map is_short refused_each ≡ true ∷ false ∷ false ∷ false ∷ false ∷ false ∷ false ∷ false ∷ false ∷ false ∷ false ∷ false ∷ false ∷ false ∷ []
short = refl

pub not_short : map is_short unrefused ≡ false ∷ false ∷ false ∷ false ∷ false ∷ []
not_short = refl

pub failed : map is_failed each_fault ≡ false ∷ false ∷ false ∷ false ∷ false ∷ false ∷ false ∷ false ∷ false ∷ true ∷ false ∷ false ∷ false ∷ false ∷ []
failed = refl

-- a call that is not refused counts, and of the refused ones a shutdown in which readers failed
pub counted : map (counts (Bind 0 [])) unrefused ≡ true ∷ true ∷ true ∷ true ∷ true ∷ []
counted = refl

pub counted_shutdown : map (counts Shutdown) refused_each ≡ false ∷ false ∷ false ∷ false ∷ false ∷ false ∷ false ∷ false ∷ false ∷ true ∷ false ∷ false ∷ false ∷ false ∷ []
counted_shutdown = refl

pub counted_flush : map (counts Flush) refused_each ≡ false ∷ false ∷ false ∷ false ∷ false ∷ false ∷ false ∷ false ∷ false ∷ false ∷ false ∷ false ∷ false ∷ false ∷ []
counted_flush = refl

-- ======== calls that take no memory ========
-- none of them is refused for want of memory, whatever the provider
pub record_without_attributes : (views : Views) (old new : State) (n : ℕ) (v : Number) → Step views old (Record n v []) (Reply.Refused OutOfMemory) new → ⊥
record_without_attributes views old new n v s = true≢false (sym s.0)

pub record_through_handle : (views : Views) (old new : State) (h : ℕ) (v : Number) → Step views old (RecordBound h v) (Reply.Refused OutOfMemory) new → ⊥
record_through_handle views old new h v s = true≢false (sym s.0)

pub end_of_handle : (views : Views) (old new : State) (h : ℕ) → Step views old (Unbind h) (Reply.Refused OutOfMemory) new → ⊥
end_of_handle views old new h s = true≢false (sym s.0)

pub flush : (views : Views) (old new : State) → Step views old Flush (Reply.Refused OutOfMemory) new → ⊥
flush views old new s = true≢false (sym s.0)

pub shutdown : (views : Views) (old new : State) → Step views old Shutdown (Reply.Refused OutOfMemory) new → ⊥
shutdown views old new s = true≢false (sym s.0)

-- ======== memory comes last ========
-- a new provider, one with a counter and an observable counter, and that one after a shutdown
abbrev fresh : State
fresh = new_state empty_resource 0 (cumulative ∷ [])

abbrev begun : State
begun = state_of [] fresh (Meter m ∷ Build (Some 0) (about Counter a) 100 ∷ Build (Some 0) (about ObservableCounter a) 100 ∷ [])

abbrev ended : State
ended = after [] begun Shutdown

-- whatever other fault a call has, it is not refused for want of memory
pub other_fault_first : (views : Views) (old new : State) (call : Call) (f : Fault) → refusal old.shared (length old.readers) call ≡ Some f → Step views old call (Reply.Refused OutOfMemory) new → ⊥
other_fault_first views old new call f e s = none-some f (sym s.1 ∙ e)

pub unknown_meter_first : Step [] begun (Build (Some 1) (about Counter a) 100) (Reply.Refused OutOfMemory) begun → ⊥
unknown_meter_first s = none-some UnknownMeter (sym s.1)

pub unknown_instrument_first : Step [] fresh (Record 0 (u64 1) x1) (Reply.Refused OutOfMemory) fresh → ⊥
unknown_instrument_first s = none-some UnknownInstrument (sym s.1)

pub wrong_kind_first : Step [] begun (Bind 1 x1) (Reply.Refused OutOfMemory) begun → ⊥
wrong_kind_first s = none-some WrongKind (sym s.1)

pub wrong_number_first : Step [] begun (Record 0 (i64 1 (pos 1)) x1) (Reply.Refused OutOfMemory) begun → ⊥
wrong_number_first s = none-some WrongNumber (sym s.1)

abbrev used : State
used = record begun { shared = record begun.shared { next = 18446744073709551615 } }

pub exhausted_first : Step [] used (Bind 0 x1) (Reply.Refused OutOfMemory) used → ⊥
exhausted_first s = none-some Exhausted (sym s.1)

pub unknown_reader_first : Step [] begun (Collect 1 200 []) (Reply.Refused OutOfMemory) begun → ⊥
unknown_reader_first s = none-some UnknownReader (sym s.1)

pub reader_shut_down_first : Step [] ended (Collect 0 200 []) (Reply.Refused OutOfMemory) ended → ⊥
reader_shut_down_first s = none-some ReaderShutDown (sym s.1)

pub bad_observation_first : Step [] begun (Collect 0 200 (observe 0 1 [] ∷ [])) (Reply.Refused OutOfMemory) begun → ⊥
bad_observation_first s = none-some WrongKind (sym s.1)

-- each call that takes memory may be refused for want of it, and then changes nothing
pub short_meter : Step [] begun (Meter m) (Reply.Refused OutOfMemory) begun
short_meter = (refl, refl, refl)

pub short_build : Step [] begun (Build None (about Counter a) 100) (Reply.Refused OutOfMemory) begun
short_build = (refl, refl, refl)

pub short_record : Step [] begun (Record 0 (u64 1) x1) (Reply.Refused OutOfMemory) begun
short_record = (refl, refl, refl)

pub short_bind : Step [] begun (Bind 0 []) (Reply.Refused OutOfMemory) begun
short_bind = (refl, refl, refl)

pub short_collection : Step [] begun (Collect 0 200 (observe 1 1 [] ∷ [])) (Reply.Refused OutOfMemory) begun
short_collection = (refl, refl, refl)

pub short_changes_nothing : (views : Views) (old new : State) (call : Call) → Step views old call (Reply.Refused OutOfMemory) new → new ≡ old
short_changes_nothing views old new call s = s.2

pub short_meter_stays : Step [] fresh (Meter m) (Reply.Refused OutOfMemory) (after [] fresh (Meter m)) → ⊥
short_meter_stays s = true≢false (ap (λ st. is_there st.shared.meters) s.2)
  where
    is_there : {X : Type 0} → List X → Bool
    is_there [] = false
    is_there (x ∷ xs) = true

-- ======== readers that fail ========
pub failed_flush : Step [] begun Flush (Reply.Refused (ReadersFailed 1 0)) begun
failed_flush = (refl, refl, refl)

-- a shutdown in which readers failed has shut the provider down
pub failed_shutdown : Step [] begun Shutdown (Reply.Refused (ReadersFailed 1 0)) ended
failed_shutdown = (refl, refl, refl)

pub failed_shutdown_shuts : Step [] begun Shutdown (Reply.Refused (ReadersFailed 1 0)) begun → ⊥
failed_shutdown_shuts s = true≢false (sym (ap (λ (st : State). st.shared.shut) s.2))

-- no other call asks readers, and after a shutdown none are asked
pub readers_fail_nowhere_else : (views : Views) (old new : State) (call : Call) (n first : ℕ) → asks_readers call ≡ false → Step views old call (Reply.Refused (ReadersFailed n first)) new → ⊥
readers_fail_nowhere_else views old new call n first e s = true≢false (sym s.0 ∙ e)

pub no_readers_at_collection : Step [] begun (Collect 0 200 []) (Reply.Refused (ReadersFailed 1 0)) begun → ⊥
no_readers_at_collection s = true≢false (sym s.0)

pub shutdown_before_readers : Step [] ended Flush (Reply.Refused (ReadersFailed 1 0)) ended → ⊥
shutdown_before_readers s = none-some AlreadyShutdown (sym s.1)

pub second_shutdown_before_readers : Step [] ended Shutdown (Reply.Refused (ReadersFailed 1 0)) ended → ⊥
second_shutdown_before_readers s = none-some AlreadyShutdown (sym s.1)

-- ======== other replies ========
pub good_step : Step [] begun (Record 0 (u64 1) x1) Reply.Done (after [] begun (Record 0 (u64 1) x1))
unfolding canon
good_step = (refl, refl)

pub refused_step : Step [] begun (Record 2 (u64 1) x1) (Reply.Refused UnknownInstrument) begun
refused_step = (refl, refl)

-- a call has the machine's reply, and leaves what the machine leaves
pub wrong_reply : Step [] begun (Bind 0 []) Reply.Done (after [] begun (Bind 0 [])) → ⊥
wrong_reply s = cc

pub wrong_refusal : Step [] begun (Record 2 (u64 1) x1) (Reply.Refused WrongKind) begun → ⊥
wrong_refusal s = cc

pub invented_refusal : Step [] begun Flush (Reply.Refused AlreadyShutdown) begun → ⊥
invented_refusal s = cc

pub wrong_state : Step [] begun Shutdown Reply.Done begun → ⊥
wrong_state s = true≢false (sym (ap (λ (st : State). st.shared.shut) s.1))

-- ======== runs ========
pub no_calls : Run [] begun [] [] begun
no_calls = refl

pub no_calls_change_nothing : Run [] begun [] [] ended → ⊥
no_calls_change_nothing e = true≢false (ap (λ (st : State). st.shared.shut) e)

-- there are as many replies as calls
pub reply_too_many : (views : Views) (old new : State) (reply : Reply) → Run views old [] (reply ∷ []) new → ⊥
reply_too_many views old new reply r = r

pub reply_missing : (views : Views) (old new : State) (call : Call) → Run views old (call ∷ []) [] new → ⊥
reply_missing views old new call r = r

-- of three calls the second is refused for want of memory
pub run_short : Run [] begun (Flush ∷ Bind 0 [] ∷ Shutdown ∷ []) (Reply.Done ∷ Reply.Refused OutOfMemory ∷ Reply.Done ∷ []) ended
run_short = (begun, (refl, refl), (begun, (refl, refl, refl), (ended, (refl, refl), refl)))

-- each call sees the state that the one before it left, and the last one leaves the new state
pub wrong_run : Run [] begun (Bind 0 [] ∷ []) (Reply.Done ∷ []) (after [] begun (Bind 0 [])) → ⊥
wrong_run r = let e : (Reply.Done ≡ Reply.Handle 0) = r.1.0 in cc

pub unlinked_run : (new : State) → Run [] begun (Shutdown ∷ Flush ∷ []) (Reply.Done ∷ Reply.Done ∷ []) new → ⊥
unlinked_run new r = let e : (Reply.Done ≡ Reply.Refused AlreadyShutdown) = r.2.1.0 ∙ ap (λ st. reply_of st Flush) r.1.1 in cc

pub unfinished_run : Run [] begun (Shutdown ∷ []) (Reply.Done ∷ []) begun → ⊥
unfinished_run r = true≢false (sym (ap (λ (st : State). st.shared.shut) (r.2 ∙ r.1.1)))

abbrev three : List Call
three = Bind 0 [] ∷ Record 9 (u64 1) [] ∷ Bind 0 [] ∷ []

-- the replies and the state of the machine, where each call sees what the ones before it left
pub three_replies : replies_of [] begun three ≡ Reply.Handle 0 ∷ Reply.Refused UnknownInstrument ∷ Reply.Handle 1 ∷ []
unfolding canon
three_replies = refl

pub three_states : state_of [] begun three ≡ after [] (after [] begun (Bind 0 [])) (Bind 0 [])
unfolding canon
three_states = refl

pub no_replies : replies_of [] begun [] ≡ []
no_replies = refl

pub no_states : state_of [] begun [] ≡ begun
no_states = refl

-- ======== one reader by itself ========
abbrev some_calls : List Call
some_calls = Meter m ∷ Flush ∷ Record 9 (i64 1 (pos 1)) [] ∷ Collect 0 200 [] ∷ Bind 0 [] ∷ Collect 1 300 [] ∷ Shutdown ∷ Record 0 (u64 1) x1 ∷ Collect 1 400 [] ∷ []

abbrev some_replies : List Reply
some_replies = Reply.Meter (Some 0) ∷ Reply.Refused (ReadersFailed 1 1) ∷ Reply.Refused WrongNumber ∷ Reply.Refused OutOfMemory ∷ Reply.Handle 0 ∷ Reply.Refused OutOfMemory ∷ Reply.Done ∷ Reply.Refused OutOfMemory ∷ Reply.Refused ReaderShutDown ∷ []

-- calls that were refused for want of memory are left out, and others' collections; calls that were refused for another
-- cause stay
pub left_for_1 : only 1 some_calls some_replies ≡ Meter m ∷ Flush ∷ Record 9 (i64 1 (pos 1)) [] ∷ Bind 0 [] ∷ Shutdown ∷ Collect 0 400 [] ∷ []
left_for_1 = refl

pub left_for_0 : only 0 some_calls some_replies ≡ Meter m ∷ Flush ∷ Record 9 (i64 1 (pos 1)) [] ∷ Bind 0 [] ∷ Shutdown ∷ []
left_for_0 = refl

-- and their replies, but for those to flushes and shutdowns
pub replies_left_for_1 : replies_left 1 some_calls some_replies ≡ Reply.Meter (Some 0) ∷ Reply.Refused WrongNumber ∷ Reply.Handle 0 ∷ Reply.Refused ReaderShutDown ∷ []
replies_left_for_1 = refl

pub replies_left_for_0 : replies_left 0 some_calls some_replies ≡ Reply.Meter (Some 0) ∷ Reply.Refused WrongNumber ∷ Reply.Handle 0 ∷ []
replies_left_for_0 = refl

pub unasked : without_asking (Flush ∷ Meter m ∷ Shutdown ∷ Bind 0 [] ∷ []) (Reply.Done ∷ Reply.Meter None ∷ Reply.Done ∷ Reply.Refused WrongKind ∷ []) ≡ Reply.Meter None ∷ Reply.Refused WrongKind ∷ []
unasked = refl

-- where there are fewer replies than calls, the other calls are not looked at
pub fewer_replies : (only 0 some_calls (Reply.Meter (Some 0) ∷ []) ≡ Meter m ∷ []) × (replies_left 0 some_calls (Reply.Meter (Some 0) ∷ []) ≡ Reply.Meter (Some 0) ∷ []) × (without_asking some_calls (Reply.Meter (Some 0) ∷ []) ≡ Reply.Meter (Some 0) ∷ []) × (made_calls some_calls (Reply.Meter (Some 0) ∷ []) ≡ Meter m ∷ [])
fewer_replies = (refl, refl, refl, refl)

pub made_of_them : made_calls some_calls some_replies ≡ Meter m ∷ Bind 0 [] ∷ Shutdown ∷ []
made_of_them = refl
