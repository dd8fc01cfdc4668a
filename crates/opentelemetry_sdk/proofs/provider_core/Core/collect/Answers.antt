use Rattle.std.proofs.Common.{◌≡◌, ◌<◌, ◌∙◌, ap, refl, sym, [], map, set, length, None, Some, option_map, slice_get, subst, arith, All, OnOk, OnErr}
use Rattle.std.proofs.lemmas.Option.{slice_get-map, slice_get_read}
use Rattle.otel_model.specs.Calls as model
use Rattle.otel_model.specs.Machine.{changed_at, part_after_call}
use Rattle.otel_model.specs.Refusals.{observations_refusal}
use Rattle.otel_model.specs.State.{State}
use Rattle.opentelemetry_sdk.specs.pipeline.Pipelines.{part_of}
use Rattle.opentelemetry_sdk.specs.Cores.{state_in}
use Rattle.opentelemetry_sdk.specs.Correspondence.{observed_of, reply_from}
use Rattle.opentelemetry_sdk.specs.States.{IsTaken}
use Rattle.opentelemetry_sdk.proofs.Collects.{collect-step, set-seen}
use Rattle.opentelemetry_sdk.proofs.pipeline.Writes.{seen_same}
use Rattle.std.proofs.lemmas.Result.{on_ok_weaker, on_err_weaker}
use Rattle.opentelemetry_sdk.proofs.Sound.{sound-step}
use Rattle.opentelemetry_sdk.proofs.Typed.{typed-observed, observable-observed}
use Rattle.opentelemetry_sdk.proofs.provider_core.Core.collect.Goals.{After-collect}
use Rattle.opentelemetry_sdk.proofs.provider_core.Core.collect.Goals as goal

-- the observations are of instruments that take them, so they are of the number type of what these feed
pub collect-requires-clause-typed : goal.collect-requires-clause-typed
collect-requires-clause-typed c =
    let ps = c.self.inside.pipelines.items in
    let inside : c.args.reader < length ps = omega (arith, c.if-reader-len.false, c.len.ensures, c.self.inside.pipelines.ok.0) in
    typed-observed c.self.inside.instruments.items ps c.args.observations.now c.args.reader c.index_mut.result.now (slice_get_read ps (length ps) c.args.reader c.index_mut.result.now refl inside c.index_mut.ensures.value) c.self.invariant.typed
    (subst (λ is. All (IsTaken is) c.args.observations.now) c.deref.ensures.value c.in_ok-check_observations.ensures.taken)

pub collect-requires-clause-observable : goal.collect-requires-clause-observable
collect-requires-clause-observable c =
    let ps = c.self.inside.pipelines.items in
    let inside : c.args.reader < length ps = omega (arith, c.if-reader-len.false, c.len.ensures, c.self.inside.pipelines.ok.0) in
    observable-observed c.self.inside.instruments.items ps c.args.observations.now c.args.reader c.index_mut.result.now (slice_get_read ps (length ps) c.args.reader c.index_mut.result.now refl inside c.index_mut.ensures.value) c.self.invariant.typed
    (subst (λ is. All (IsTaken is) c.args.observations.now) c.deref.ensures.value c.in_ok-check_observations.ensures.taken)
    (subst (λ is. observations_refusal is (map observed_of c.args.observations.now) ≡ None) c.deref.ensures.value c.in_ok-check_observations.ensures.fits)

-- the reader is there, the observations are good, and what it gives is collected
at : (c : After-collect) → slice_get c.self.inside.pipelines.items c.args.reader ≡ Some c.index_mut.result.now
at c = slice_get_read c.self.inside.pipelines.items (length c.self.inside.pipelines.items) c.args.reader c.index_mut.result.now refl (omega (arith, c.if-reader-len.false, c.len.ensures, c.self.inside.pipelines.ok.0)) c.index_mut.ensures.value

at-part : (c : After-collect) → slice_get (map part_of c.self.inside.pipelines.items) c.args.reader ≡ Some (part_of c.index_mut.result.now)
at-part c = slice_get-map part_of c.self.inside.pipelines.items c.args.reader ∙ ap (option_map part_of) (at c)

good : (c : After-collect) → observations_refusal c.self.inside.instruments.items (map observed_of c.args.observations.now) ≡ None
good c = ap (λ is. observations_refusal is (map observed_of c.args.observations.now)) (sym c.deref.ensures.value) ∙ c.in_ok-check_observations.ensures.fits

left : (c : After-collect) → OnOk c.collect.result (map part_of (set c.self.inside.pipelines.items c.args.reader c.collect.new.self) ≡ changed_at c.args.reader (part_after_call 0 (model.Call.Collect c.args.reader c.args.now (map observed_of c.args.observations.now))) (map part_of c.self.inside.pipelines.items))
left c = on_ok_weaker c.collect.result (λ all. set-seen _ c.self.inside.pipelines.items c.args.reader c.index_mut.result.now c.collect.new.self (at c) (all c.args.reader)) c.collect.ensures.ok

same : (c : After-collect) → OnErr c.collect.result (map part_of (set c.self.inside.pipelines.items c.args.reader c.collect.new.self) ≡ map part_of c.self.inside.pipelines.items)
same c = on_err_weaker c.collect.result (λ unmade. seen_same part_of c.self.inside.pipelines.items c.args.reader c.index_mut.result.now c.index_mut.result.now c.collect.new.self c.index_mut.ensures.value unmade) c.collect.ensures.err

pub invariant_of-self : goal.invariant_of-self
invariant_of-self c =
    let w = (goal.at.invariant_of-self c).After-collect in
    let old : State = state_in c.self.inside in
    sound-step [] old _ (model.Call.Collect c.args.reader c.args.now (map observed_of c.args.observations.now)) (reply_from (λ m. model.Reply.Collected m) c.collect.result) c.self.invariant
    (collect-step old c.args.reader c.args.now (map observed_of c.args.observations.now) (part_of c.index_mut.result.now) _ c.collect.result c.if-self.false (at-part w) (good w) c.collect.ensures.collection (left w) (same w) c.collect.ensures.only_memory [])

pub returns-clause-step : goal.returns-clause-step
returns-clause-step c =
    let w = (goal.at.returns-clause-step c).After-collect in
    let old : State = state_in c.self.inside in
    rw (← c.self.view_is) (collect-step old c.args.reader c.args.now (map observed_of c.args.observations.now) (part_of c.index_mut.result.now) _ c.collect.result c.if-self.false (at-part w) (good w) c.collect.ensures.collection (left w) (same w) c.collect.ensures.only_memory)
