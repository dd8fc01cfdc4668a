use Rattle.std.proofs.Common.{◌≡◌, ◌∙◌, ◌++◌, ◌∷◌, [], refl, ap, sym, subst, List, map, slice_get, None, arith, nat_eq}
use Rattle.std.specs.List.{AllByRecursion as EachOf}
use Rattle.std.specs.Map.{lookup}
use Rattle.otel_common.specs.declared.attributes.KeyValue.{KeyValue}
use Rattle.otel_model.specs.Calls as model
use Rattle.otel_model.specs.Machine.{part_after_call}
use Rattle.otel_model.specs.Refusals.{bind_refusal}
use Rattle.otel_model.specs.State.{LiveHandle, State}
use Rattle.opentelemetry_sdk.specs.pipeline.Handles.{IsNewAt}
use Rattle.opentelemetry_sdk.specs.pipeline.Pipelines.{part_of}
use Rattle.opentelemetry_sdk.specs.Cores.{state_in}
use Rattle.opentelemetry_sdk.proofs.Held.{next-new, next-absent, bind-made}
use Rattle.opentelemetry_sdk.proofs.Sound.{sound-step}
use Rattle.opentelemetry_sdk.proofs.StepLemmas.{lent-parts}
use Rattle.opentelemetry_sdk.proofs.provider_core.Core.bind.Goals.{After-add-place}
use Rattle.opentelemetry_sdk.proofs.provider_core.Core.bind.Goals as goal

-- no stream has the next handle
pub bind_or_none-requires-clause-new : goal.bind_or_none-requires-clause-new
bind_or_none-requires-clause-new c =
    let old : State = state_in c.self.inside in
    subst (λ ps. EachOf (IsNewAt c.self.inside.next) (map part_of ps)) (sym c.deref_mut.ensures.value) (next-new old.shared old.readers c.self.invariant.lawful.handles c.self.invariant.lawful.parts)

pub add-place-requires-clause-absent : goal.add-place-requires-clause-absent
add-place-requires-clause-absent c =
    subst (λ (l : List LiveHandle). lookup (nat_eq c.self.inside.next) l ≡ None) (sym c.make_room.ensures.links) (next-absent c.self.inside.next c.self.inside.handles.entries c.self.invariant.lawful.handles.below)

-- the bind fits, the readers made it, and the core keeps which instrument the handle has
fits : (c : After-add-place) → bind_refusal c.self.inside.next (slice_get c.self.inside.instruments.items c.args.instrument) ≡ None
fits c = ap (λ is. bind_refusal c.self.inside.next (slice_get is c.args.instrument)) (sym c.deref.ensures.value) ∙ c.in_default.ensures.fits

added : (c : After-add-place) → c.add-place.new.links.entries ≡ c.self.inside.handles.entries ++ (c.self.inside.next, c.args.instrument) ∷ []
added c = c.add-place.ensures.links ∙ ap (λ (live : List LiveHandle). live ++ (c.self.inside.next, c.args.instrument) ∷ []) c.make_room.ensures.links

sent : (c : After-add-place) → map part_of c.bind_or_none.new.pipelines ≡ map (part_after_call c.self.inside.next (model.Call.Bind c.args.instrument c.args.attributes.now)) (map part_of c.self.inside.pipelines.items)
sent c = c.in_ok-stream_place.ensures.ok ∙ ap (λ (given : List KeyValue). map (part_after_call c.self.inside.next (model.Call.Bind c.args.instrument given)) (map part_of c.deref_mut.result.now)) c.new-given.ensures ∙ ap (λ ps. map (part_after_call c.self.inside.next (model.Call.Bind c.args.instrument c.args.attributes.now)) (map part_of ps)) c.deref_mut.ensures.value

pub invariant_of-self-2 : goal.invariant_of-self-2
invariant_of-self-2 c =
    let w = (goal.at.invariant_of-self-2 c).After-add-place in
    let old : State = state_in c.self.inside in
    sound-step [] old _ (model.Call.Bind c.args.instrument c.args.attributes.now) (model.Reply.Handle c.self.inside.next) c.self.invariant
    (bind-made old c.args.instrument c.args.attributes.now _ _ _ (fits w) (added w) refl (lent-parts c.self.inside.pipelines.len c.bind_or_none.new.pipelines _ _ (omega arith) (sent w)) [])
