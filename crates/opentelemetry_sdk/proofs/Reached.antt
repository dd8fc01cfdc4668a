-- What calls make of readers, one call after another.
use Rattle.std.proofs.Common.{◌≡◌, ℕ, Bool, true, false, cond, List, [], ◌∷◌, length, Option, Some, None, Result, Ok, Err, refl, sym, ◌∙◌, ap, true≢false, IsTrue, IfOk, OnErr}
use Rattle.std.specs.List.{list_any}
use Rattle.std.proofs.lemmas.Bool.{or_parts}
use Rattle.otel_common.specs.declared.faults.Fault.{Fault}
use Rattle.otel_model.specs.Calls as model
use Rattle.otel_model.specs.Demands.{Views}
use Rattle.otel_model.specs.Machine.{accepted_after}
use Rattle.otel_model.specs.Refusals.{refusal}
use Rattle.otel_model.specs.State.{State}
use Rattle.otel_model.specs.Steps.{Step, after, after_by, asks_readers}
use Rattle.otel_model.specs.Steps as steps
use Rattle.otel_stream.specs.Requests.{Outcome}
use Rattle.opentelemetry_sdk.specs.Readers.{StepReaches, RunReaches, shut_after}

-- ======== whether a provider is shut down ========
abbrev fault_by : Bool → Option model.Fault
fault_by shut = cond shut (Some model.Fault.AlreadyShutdown) None

after-shut : (o : Option model.Fault) (old new : State) → new.shared.shut ≡ old.shared.shut → (after_by o old new).shared.shut ≡ old.shared.shut
after-shut None old new same = same
after-shut (Some f) old new same = refl

shut-after : (views : Views) (st : State) (call : model.Call) → (after views st call).shared.shut ≡ shut_after st.shared.shut call
shut-after views st (model.Call.Meter scope) = refl
shut-after views st model.Call.Shutdown = by st.shared.shut refl
  where
    by : (b : Bool) → st.shared.shut ≡ b → (after_by (fault_by st.shared.shut) st (accepted_after views st model.Call.Shutdown)).shared.shut ≡ true
    by true e = ap (λ b. (after_by (fault_by b) st (accepted_after views st model.Call.Shutdown)).shared.shut) e ∙ e
    by false e = ap (λ b. (after_by (fault_by b) st (accepted_after views st model.Call.Shutdown)).shared.shut) e
shut-after views st call = after-shut (refusal st.shared (length st.readers) call) st (accepted_after views st call) refl

-- a call that takes memory shuts nothing down
memory-shut : (call : model.Call) (shut : Bool) → IsTrue (steps.takes_memory call) → shut_after shut call ≡ shut
memory-shut model.Call.Shutdown shut takes = absurd (true≢false (sym takes))
memory-shut call shut takes = refl

pub shut-step : (views : Views) (old new : State) (call : model.Call) (reply : model.Reply) → Step views old call reply new → new.shared.shut ≡ shut_after old.shared.shut call
shut-step views old new call (model.Reply.Refused model.Fault.OutOfMemory) step = ap (λ (st : State). st.shared.shut) step.2 ∙ sym (memory-shut call old.shared.shut step.0)
shut-step views old new call (model.Reply.Refused (model.Fault.ReadersFailed failed first)) step = ap (λ (st : State). st.shared.shut) step.2 ∙ shut-after views old call
shut-step views old new call reply step = ap (λ (st : State). st.shared.shut) step.1 ∙ shut-after views old call

-- ======== calls that ask no readers ========
step-unasked : {R : Type 0} (flushes : R → R → Outcome → Type 0) (shuts : R → ℕ → R → Outcome → Type 0) (shut : Bool) (call : model.Call) (before after : List R) (reply : model.Reply)
    → asks_readers call ≡ false → StepReaches flushes shuts shut call before reply after → after ≡ before
step-unasked flushes shuts shut model.Call.Flush before after reply e reached = absurd (true≢false e)
step-unasked flushes shuts shut model.Call.Shutdown before after reply e reached = absurd (true≢false e)
step-unasked flushes shuts shut call before after reply e same = same

pub run-unasked : {R : Type 0} (flushes : R → R → Outcome → Type 0) (shuts : R → ℕ → R → Outcome → Type 0) (shut : Bool) (calls : List model.Call) (replies : List model.Reply) (before after : List R)
    → list_any asks_readers calls ≡ false → RunReaches flushes shuts shut calls before replies after → after ≡ before
run-unasked flushes shuts shut [] [] before after none same = same
run-unasked flushes shuts shut (c ∷ calls) (r ∷ replies) before after none reaches =
    let both = or_parts (asks_readers c) (list_any asks_readers calls) none in
    run-unasked flushes shuts (shut_after shut c) calls replies reaches.0 after both.1 reaches.2
    ∙ step-unasked flushes shuts shut c before reaches.0 r both.0 reaches.1
run-unasked flushes shuts shut calls replies before after none reaches = absurd reaches

-- whether a list of calls was made or not
pub unasked : {R T : Type 0} (flushes : R → R → Outcome → Type 0) (shuts : R → ℕ → R → Outcome → Type 0) (shut : Bool) (r : Result T Fault) (calls : List model.Call) (replies : T → List model.Reply) (before after : List R)
    → IfOk r (λ t. RunReaches flushes shuts shut calls before (replies t) after) → OnErr r (after ≡ before) → list_any asks_readers calls ≡ false → after ≡ before
unasked flushes shuts shut (Ok t) calls replies before after reaches same none = run-unasked flushes shuts shut calls (replies t) before after none reaches
unasked flushes shuts shut (Err f) calls replies before after reaches same none = same
