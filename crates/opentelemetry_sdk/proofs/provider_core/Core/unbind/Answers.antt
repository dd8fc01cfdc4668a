use Rattle.std.proofs.Common.{ℕ, ◌≡◌, ◌∙◌, ap, sym, subst, refl, [], map, Some, None, arith}
use Rattle.std.specs.List.{AllByRecursion as EachOf}
use Rattle.otel_model.specs.Calls as model
use Rattle.otel_model.specs.Machine.{part_after_call, without_handle}
use Rattle.otel_model.specs.Refusals.{unbind_refusal, instrument_held}
use Rattle.otel_model.specs.State.{State}
use Rattle.opentelemetry_sdk.specs.pipeline.Handles.{FeedsSynchronous, IsHeldByFed}
use Rattle.opentelemetry_sdk.specs.pipeline.Pipelines.{part_of}
use Rattle.opentelemetry_sdk.specs.Cores.{state_in}
use Rattle.opentelemetry_sdk.proofs.Held.{held-as, held-fed, without-removed, synchronous-held, unbind-made, unbind-stands}
use Rattle.opentelemetry_sdk.proofs.Sound.{sound-step}
use Rattle.opentelemetry_sdk.proofs.Stepped.{named-step}
use Rattle.opentelemetry_sdk.proofs.StepLemmas.{lent-parts}
use Rattle.opentelemetry_sdk.proofs.provider_core.Core.unbind.Goals.{After-take_out}
use Rattle.opentelemetry_sdk.proofs.provider_core.Core.unbind.Goals as goal

-- there is no such handle
pub returns-in-None-clause-step : goal.returns-in-None-clause-step
returns-in-None-clause-step c =
    let old : State = state_in c.self.inside in
    rw (← c.self.view_is) (λ own views. named-step views old old (model.Call.Unbind c.args.handle) model.Fault.UnknownHandle (ap unbind_refusal (held-as c.args.handle old.shared.live None c.in-None.ensures)) refl)

-- the readers ended the handle, and the core forgot it
held : (c : After-take_out) → instrument_held c.args.handle c.self.inside.handles.entries ≡ Some c.in-Some.instrument
held c = held-as c.args.handle c.self.inside.handles.entries (Some c.in-Some.instrument) c.in-Some.ensures

ended : (c : After-take_out) → c.take_out.new.links.entries ≡ without_handle c.args.handle c.self.inside.handles.entries
ended c = c.take_out.ensures.links ∙ without-removed c.args.handle c.self.inside.handles.entries

-- the instrument feeds no observable stream, and no other stream has the handle
sent : (c : After-take_out) → map part_of c.change_all.new.pipelines ≡ map (part_after_call 0 (model.Call.Unbind c.args.handle)) (map part_of c.self.inside.pipelines.items)
sent c =
    let old : State = state_in c.self.inside in
    let n : ℕ = c.in-Some.instrument in
    let back = c.deref_mut.ensures.value in
    c.change_all.ensures.parts 0 (model.Call.Unbind c.args.handle) (unbind-stands n c.args.handle c.deref_mut.result.now
    (subst (λ ps. EachOf (FeedsSynchronous n) (map part_of ps)) (sym back) (synchronous-held old.shared c.args.handle n old.readers c.self.invariant.lawful.handles (held c) c.self.invariant.typed))
    (subst (λ ps. EachOf (IsHeldByFed n c.args.handle) (map part_of ps)) (sym back) (held-fed old.shared c.args.handle n old.readers c.self.invariant.lawful.handles (held c) c.self.invariant.lawful.parts)))
    ∙ ap (λ ps. map (part_after_call 0 (model.Call.Unbind c.args.handle)) (map part_of ps)) back

pub invariant_of-self : goal.invariant_of-self
invariant_of-self c =
    let w = (goal.at.invariant_of-self c).After-take_out in
    let old : State = state_in c.self.inside in
    sound-step [] old _ (model.Call.Unbind c.args.handle) model.Reply.Done c.self.invariant
    (unbind-made old c.args.handle c.in-Some.instrument _ _ (held w) (ended w) (lent-parts c.self.inside.pipelines.len c.change_all.new.pipelines _ _ (omega arith) (sent w)) [])

pub returns-clause-step : goal.returns-clause-step
returns-clause-step c =
    let w = (goal.at.returns-clause-step c).After-take_out in
    let old : State = state_in c.self.inside in
    rw (← c.self.view_is) (λ own. unbind-made old c.args.handle c.in-Some.instrument _ _ (held w) (ended w) (lent-parts c.self.inside.pipelines.len c.change_all.new.pipelines _ _ (omega arith) (sent w)))
