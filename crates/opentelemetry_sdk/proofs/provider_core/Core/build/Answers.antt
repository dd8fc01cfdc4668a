use Rattle.std.proofs.Common.{ℕ, List, [], ◌∷◌, ◌≡◌, ◌∙◌, refl, ap, sym, subst, map, arith, All, OnOk, OnErr, option_map}
use Rattle.std.proofs.lemmas.List.Elements.{All-head, All-same, All-tail}
use Rattle.otel_model.specs.Calls as model
use Rattle.otel_model.specs.Demands.{is_good}
use Rattle.otel_model.specs.Machine.{part_after_build}
use Rattle.otel_model.specs.State.{State}
use Rattle.opentelemetry_sdk.specs.pipeline.Pipelines.{HashesFrom, Piped, part_of}
use Rattle.opentelemetry_sdk.specs.pipeline.Views.{views_answering}
use Rattle.opentelemetry_sdk.specs.Cores.{state_in}
use Rattle.opentelemetry_sdk.specs.Correspondence.{reply_from}
use Rattle.opentelemetry_sdk.specs.States.{AreAsked, IsGoodIn}
use Rattle.std.proofs.lemmas.Result.{on_ok_weaker, on_err_weaker}
use Rattle.opentelemetry_sdk.proofs.Sound.{sound-step}
use Rattle.opentelemetry_sdk.proofs.StepLemmas.{good-in, lent_back, lent-parts, build-step}
use Rattle.opentelemetry_sdk.proofs.provider_core.Core.build.Given as given
use Rattle.opentelemetry_sdk.proofs.provider_core.Core.build.Goals.{After-make}
use Rattle.opentelemetry_sdk.proofs.provider_core.Core.build.Goals as goal

pub make-requires-clause-good : goal.make-requires-clause-good
make-requires-clause-good g c = subst (λ s. IsGoodIn s c.args.about.now) (sym c.good_scope-scope.ensures) (good-in _ c.args.about.now (is_good c.args.about.now) refl)

-- the new instrument is the last, and at each reader it has what it demands
asked : (g : given.Over) (c : After-make g) → AreAsked (map g.V.View.answer c.args.views.now) (option_map (λ s. s.now) c.good_scope-scope.result) c.args.about.now c.deref.result.now
asked g c = subst (λ l. AreAsked (map g.V.View.answer c.args.views.now) (option_map (λ s. s.now) c.good_scope-scope.result) c.args.about.now l) (sym c.deref.ensures.value) c.in_ok-answered.ensures.asked

built : (g : given.Over) (c : After-make g) → OnOk c.make.result (map part_of c.make.new.pipelines ≡ map (part_after_build (views_answering c.deref.result.now) (option_map (λ s. s.now) c.good_scope-scope.result) c.args.about.now c.args.now) (map part_of c.self.inside.pipelines.items))
built g c = on_ok_weaker c.make.result (λ made. made ∙ ap (λ ps. map (part_after_build (views_answering c.deref.result.now) (option_map (λ s. s.now) c.good_scope-scope.result) c.args.about.now c.args.now) (map part_of ps)) c.deref_mut.ensures.value) c.make.ensures.readers

same : (g : given.Over) (c : After-make g) → OnErr c.make.result (map part_of c.make.new.pipelines ≡ map part_of c.self.inside.pipelines.items)
same g c = on_err_weaker c.make.result (λ unmade. unmade ∙ ap (map part_of) c.deref_mut.ensures.value) c.make.ensures.same_readers

pub invariant_of-self : goal.invariant_of-self
invariant_of-self g c =
    let w = (goal.at.invariant_of-self g c).After-make in
    let old : State = state_in c.self.inside in
    sound-step (map g.V.View.answer c.args.views.now) old _ (model.Call.Build c.args.meter c.args.about.now c.args.now) (reply_from model.Reply.Instrument c.make.result) c.self.invariant
    (build-step old (map g.V.View.answer c.args.views.now) c.deref.result.now _ _ c.args.meter _ _ c.args.about.now c.args.now c.make.result c.in_ok-scope_of.ensures c.good_scope-scope.ensures (asked g w) c.make.ensures.number c.make.ensures.instruments (on_ok_weaker c.make.result (λ is. lent-parts c.self.inside.pipelines.len c.make.new.pipelines _ _ (omega arith) is) (built g w)) c.make.ensures.same (on_err_weaker c.make.result (λ is. lent-parts c.self.inside.pipelines.len c.make.new.pipelines _ _ (omega arith) is) (same g w)) c.make.ensures.only_memory)

pub returns-clause-step : goal.returns-clause-step
returns-clause-step g c =
    let w = (goal.at.returns-clause-step g c).After-make in
    let old : State = state_in c.self.inside in
    rw (← c.self.view_is) (λ own. build-step old (map g.V.View.answer c.args.views.now) c.deref.result.now _ _ c.args.meter _ _ c.args.about.now c.args.now c.make.result c.in_ok-scope_of.ensures c.good_scope-scope.ensures (asked g w) c.make.ensures.number c.make.ensures.instruments (on_ok_weaker c.make.result (λ is. lent-parts c.self.inside.pipelines.len c.make.new.pipelines _ _ (omega arith) is) (built g w)) c.make.ensures.same (on_err_weaker c.make.result (λ is. lent-parts c.self.inside.pipelines.len c.make.new.pipelines _ _ (omega arith) is) (same g w)) c.make.ensures.only_memory)

-- the readers' parts come back as they were lent, and hash from the core's seed
seeds-alike : (seed : ℕ) (ps : List Piped) → All (HashesFrom seed) ps → map (λ (p : Piped). p.hash_seed) ps ≡ map (λ _. seed) (map part_of ps)
seeds-alike seed [] all = refl
seeds-alike seed (p ∷ ps) all = λ i. All-head (HashesFrom seed) p ps all i ∷ seeds-alike seed ps (All-tail (HashesFrom seed) p ps all) i

pub returns-clause-hashed : goal.returns-clause-hashed
returns-clause-hashed g c =
    let seed : ℕ = c.self.inside.hasher.seed in
    let lent = lent_back c.self.inside.pipelines.len c.make.new.pipelines _ (omega arith) in
    rw (← c.self.view_is) (on_ok_weaker c.make.result (λ all. seeds-alike seed _ (All-same (HashesFrom seed) _ _ lent all)) c.make.ensures.seeded)
