-- Calls that are refused are steps of the model's machine.
use Rattle.std.proofs.Common.{◌≡◌, ◌∙◌, ⊎_elim, IsTrue, length, Option, Some, None, refl, sym, ap, subst}
use Rattle.otel_common.specs.declared.faults.Fault.{Fault}
use Rattle.otel_common.specs.declared.faults.Fault.TheVariants as fault
use Rattle.otel_common.specs.declared.faults.InternalFault.TheVariants as inner
use Rattle.otel_model.specs.Calls as model
use Rattle.otel_model.specs.Demands.{Views}
use Rattle.otel_model.specs.Machine.{accepted_after}
use Rattle.otel_model.specs.Refusals.{refusal}
use Rattle.otel_model.specs.State.{State}
use Rattle.otel_model.specs.Steps.{Step, takes_memory, answer_of, reply_by, after_by, reply_of, after}
use Rattle.otel_model.proofs.Single.{step_cases}
use Rattle.opentelemetry_sdk.specs.Correspondence.{fault_of}
use Rattle.opentelemetry_sdk.specs.States.{IsFault}

-- refused by a fault that the machine names
pub named-step : (views : Views) (old new : State) (call : model.Call) (f : model.Fault) → refusal old.shared (length old.readers) call ≡ Some f → new ≡ old
    → (model.Reply.Refused f ≡ reply_of old call) × (new ≡ after views old call)
named-step views old new call f is same = (
  sym (ap (λ o. reply_by o (answer_of old call)) is),
  same ∙ sym (ap (λ o. after_by o old (accepted_after views old call)) is),
)

-- refused, and unchanged
pub refused-step : (views : Views) (old new : State) (call : model.Call) (f : Fault) → (f ≡ fault.OutOfMemory → IsTrue (takes_memory call)) → IsFault (refusal old.shared (length old.readers) call) f → new ≡ old
    → Step views old call (model.Reply.Refused (fault_of f)) new
refused-step views old new call fault.OutOfMemory takes is same = (takes refl, is, same)
refused-step views old new call fault.UnknownMeter takes is same = named-step views old new call model.Fault.UnknownMeter is same
refused-step views old new call fault.UnknownInstrument takes is same = named-step views old new call model.Fault.UnknownInstrument is same
refused-step views old new call fault.UnknownHandle takes is same = named-step views old new call model.Fault.UnknownHandle is same
refused-step views old new call fault.UnknownReader takes is same = named-step views old new call model.Fault.UnknownReader is same
refused-step views old new call fault.WrongNumber takes is same = named-step views old new call model.Fault.WrongNumber is same
refused-step views old new call fault.WrongKind takes is same = named-step views old new call model.Fault.WrongKind is same
refused-step views old new call fault.AlreadyShutdown takes is same = named-step views old new call model.Fault.AlreadyShutdown is same
refused-step views old new call fault.Exhausted takes is same = named-step views old new call model.Fault.Exhausted is same
refused-step views old new call (fault.InternalFailure inner.ReaderShutDown) takes is same = named-step views old new call model.Fault.ReaderShutDown is same
refused-step views old new call f takes is same = absurd is

-- refused for want of memory
pub memory-step : (views : Views) (old new : State) (call : model.Call) (f : Fault) → IsTrue (takes_memory call) → f ≡ fault.OutOfMemory → refusal old.shared (length old.readers) call ≡ None → new ≡ old
    → Step views old call (model.Reply.Refused (fault_of f)) new
memory-step views old new call f takes is none same =
    let P : Fault → Type 0 = λ g. Step views old call (model.Reply.Refused (fault_of g)) new in
    subst P (sym is) (takes, none, same)

-- what holds before a call, and once it is accepted, holds after its step
pub step-holds : (P : State → Type 0) (views : Views) (old new : State) (call : model.Call) (reply : model.Reply) → P old → P (accepted_after views old call) → Step views old call reply new → P new
step-holds P views old new call reply before accepted step = ⊎_elim (λ e. subst P (sym e.1) before) (λ e. subst P (sym e.1) (by (refusal old.shared (length old.readers) call))) (step_cases views old new call reply step)
  where
    by : (o : Option model.Fault) → P (after_by o old (accepted_after views old call))
    by None = accepted
    by (Some f) = before
