use Rattle.std.proofs.Common.{ℕ, ◌≡◌, ◌∙◌, refl, ap, sym, subst, [], map, slice_get, set, Some, None, arith}
use Rattle.std.specs.List.{AllByRecursion as EachOf}
use Rattle.otel_model.specs.Calls as model
use Rattle.otel_model.specs.Machine.{instrument_after_record, changed_at, part_after_call}
use Rattle.otel_model.specs.Refusals.{held_refusal, handle_refusal, instrument_held}
use Rattle.otel_model.specs.Steps.{Step}
use Rattle.otel_model.specs.State.{State}
use Rattle.opentelemetry_sdk.specs.pipeline.Handles.{FeedsSynchronous, IsHeldByFed}
use Rattle.opentelemetry_sdk.specs.pipeline.Pipelines.{part_of}
use Rattle.opentelemetry_sdk.proofs.pipeline.Writes.{set-changed}
use Rattle.opentelemetry_sdk.specs.Cores.{state_in}
use Rattle.opentelemetry_sdk.specs.Correspondence.{fault_of, number_of}
use Rattle.opentelemetry_sdk.specs.States.{CoreContents, IsFault, IsNamed}
use Rattle.opentelemetry_sdk.proofs.Held.{held-as, held-fed, held-stands, synchronous-held, update-made}
use Rattle.opentelemetry_sdk.proofs.Sound.{sound-step}
use Rattle.opentelemetry_sdk.proofs.Stepped.{named-step, refused-step}
use Rattle.opentelemetry_sdk.proofs.StepLemmas.{lent-parts, taken-feeds, taken-inside}
use Rattle.opentelemetry_sdk.proofs.provider_core.Core.record_bound.Goals.{After-accept}
use Rattle.opentelemetry_sdk.proofs.provider_core.Core.record_bound.Goals as goal

-- there is no such handle
pub returns-in-None-clause-step : goal.returns-in-None-clause-step
returns-in-None-clause-step c =
    let old : State = state_in c.self.inside in
    rw (← c.self.view_is) (λ own views. named-step views old old (model.Call.RecordBound c.args.handle.number (number_of c.args.value)) model.Fault.UnknownHandle (ap (λ o. handle_refusal o old.shared.instruments (number_of c.args.value).signed) (held-as c.args.handle.number old.shared.live None c.in-None.ensures)) refl)

-- the value is of the other number type
pub returns-in-Err-clause-step : goal.returns-in-Err-clause-step
returns-in-Err-clause-step c =
    let old : State = state_in c.self.inside in
    λ own views. subst (λ (k : CoreContents). Step views k.state (model.Call.RecordBound c.args.handle.number (number_of c.args.value)) (model.Reply.Refused (fault_of c.in-Err.fault)) k.state) c.self.view_is (refused-step views old old (model.Call.RecordBound c.args.handle.number (number_of c.args.value)) c.in-Err.fault (λ e. absurd (subst IsNamed e c.in-Err.ensures.named))
    (subst (λ o. IsFault o c.in-Err.fault)
    (ap (λ is. held_refusal (slice_get is c.in-Some.instrument) (number_of c.args.value).signed) c.deref.ensures.value ∙ ap (λ o. handle_refusal o old.shared.instruments (number_of c.args.value).signed) (sym (held-as c.args.handle.number old.shared.live (Some c.in-Some.instrument) c.in-Some.ensures)))
    c.in-Err.ensures.fault) refl)

pub index_mut-requires : goal.index_mut-requires
index_mut-requires c = omega (arith, taken-inside c.in-Some.instrument (number_of c.args.value) c.self.inside.instruments.items _ c.deref.ensures.value c.in_default.ensures.taken)

-- the value fits, the readers made the record, and the instrument accepted it
held : (c : After-accept) → instrument_held c.args.handle.number c.self.inside.handles.entries ≡ Some c.in-Some.instrument
held c = held-as c.args.handle.number c.self.inside.handles.entries (Some c.in-Some.instrument) c.in-Some.ensures

fits : (c : After-accept) → held_refusal (slice_get c.self.inside.instruments.items c.in-Some.instrument) (number_of c.args.value).signed ≡ None
fits c = ap (λ is. held_refusal (slice_get is c.in-Some.instrument) (number_of c.args.value).signed) (sym c.deref.ensures.value) ∙ c.in_default.ensures.fits

accepted : (c : After-accept) → set c.self.inside.instruments.items c.in-Some.instrument c.accept.new.self ≡ changed_at c.in-Some.instrument (instrument_after_record (number_of c.args.value).amount) c.self.inside.instruments.items
accepted c = set-changed (instrument_after_record (number_of c.args.value).amount) c.self.inside.instruments.items c.in-Some.instrument c.index_mut.result.now c.accept.new.self (taken-inside c.in-Some.instrument (number_of c.args.value) c.self.inside.instruments.items _ c.deref.ensures.value c.in_default.ensures.taken) c.index_mut.ensures.value c.accept.ensures

-- the instrument feeds streams of its number type, which is the value's, and no observable stream, and no other stream has
-- the handle
sent : (c : After-accept) → map part_of c.change_all.new.pipelines ≡ map (part_after_call 0 (model.Call.RecordBound c.args.handle.number (number_of c.args.value))) (map part_of c.self.inside.pipelines.items)
sent c =
    let old : State = state_in c.self.inside in
    let n : ℕ = c.in-Some.instrument in
    let h : ℕ = c.args.handle.number in
    let back = c.deref_mut.ensures.value in
    c.change_all.ensures.parts 0 (model.Call.RecordBound h (number_of c.args.value)) (held-stands n h c.args.handle.stream_place c.args.value c.deref_mut.result.now
    (taken-feeds n (number_of c.args.value) c.self.inside.instruments.items _ c.deref.ensures.value c.in_default.ensures.taken c.self.inside.pipelines.items _ back c.self.invariant.typed)
    (subst (λ ps. EachOf (FeedsSynchronous n) (map part_of ps)) (sym back) (synchronous-held old.shared h n old.readers c.self.invariant.lawful.handles (held c) c.self.invariant.typed))
    (subst (λ ps. EachOf (IsHeldByFed n h) (map part_of ps)) (sym back) (held-fed old.shared h n old.readers c.self.invariant.lawful.handles (held c) c.self.invariant.lawful.parts)))
    ∙ ap (λ ps. map (part_after_call 0 (model.Call.RecordBound h (number_of c.args.value))) (map part_of ps)) back

pub invariant_of-self : goal.invariant_of-self
invariant_of-self c =
    let w = (goal.at.invariant_of-self c).After-accept in
    let old : State = state_in c.self.inside in
    sound-step [] old _ (model.Call.RecordBound c.args.handle.number (number_of c.args.value)) model.Reply.Done c.self.invariant
    (update-made old c.args.handle.number c.in-Some.instrument (number_of c.args.value) _ _ (held w) (fits w) (accepted w) (lent-parts c.self.inside.pipelines.len c.change_all.new.pipelines _ _ (omega arith) (sent w)) [])

pub returns-clause-step : goal.returns-clause-step
returns-clause-step c =
    let w = (goal.at.returns-clause-step c).After-accept in
    let old : State = state_in c.self.inside in
    rw (← c.self.view_is) (λ own. update-made old c.args.handle.number c.in-Some.instrument (number_of c.args.value) _ _ (held w) (fits w) (accepted w) (lent-parts c.self.inside.pipelines.len c.change_all.new.pipelines _ _ (omega arith) (sent w)))
