use Rattle.std.proofs.Common.{◌≡◌, ◌∙◌, ap, arith, refl, sym, subst, take, true, false, ◌∷◌, [], ◌++◌, List, Option, append-nil, take_all, option_map}
use denote.Bor.{Bor}
use Rattle.otel_common.specs.declared.scopes.InstrumentationScope.{InstrumentationScope}
use Rattle.otel_model.specs.Calls.{About}
use Rattle.otel_model.specs.Demands.{Demand, ReaderAnswers, StreamSpec, demand_of, own_demand}
use Rattle.opentelemetry_sdk.specs.pipeline.Pipelines.{AreMet, Piped}
use Rattle.opentelemetry_sdk.specs.pipeline.Views.{demands_own, usable_answer, usable_demands}
use Rattle.opentelemetry_sdk.proofs.pipeline.Meets.{longer-refl, longer-trans, met-none}
use Rattle.opentelemetry_sdk.proofs.pipeline.ViewLemmas.{demands-with, good-bounds, usable-more}
use Rattle.opentelemetry_sdk.proofs.pipeline.Pipeline.meet_all.Goals as goal

abbrev scope_in : Option (Bor InstrumentationScope) → Option InstrumentationScope
scope_in o = option_map (λ s. s.now) o

-- without a scope nothing is demanded
pub returns-in_default-clause-longer : goal.returns-in_default-clause-longer
returns-in_default-clause-longer c = longer-refl c.args.self.now

pub loop-answer-init : goal.loop-answer-init
loop-answer-init c = record {
  longer = longer-refl c.args.self.now;
  met = subst (AreMet c.args.now [] c.args.self.now c.args.self.now) (sym c.new-feeds.ensures.items) (met-none c.args.now c.args.self.now);
}

-- one answer more
pub loop-answer-preserved : goal.loop-answer-preserved
loop-answer-preserved c =
    let old : Piped = c.args.self.now in
    let so_far = c.loop-answer.invariant in
    record {
      longer = longer-trans old c.loop-answer.self c.meet_answer.new.self so_far.longer c.meet_answer.ensures.longer;
      met = subst (λ ds. AreMet c.args.now ds old c.meet_answer.new.self c.meet_answer.new.feeds.items)
          (ap (λ (a : ReaderAnswers). usable_demands old.answers c.in-Some.scope.now c.args.about.now (take c.loop-answer.answer-index c.args.answered.now) ++ usable_answer a c.in-Some.scope.now c.args.about.now c.answer-item.result) so_far.longer.answers
          ∙ sym (usable-more old.answers c.in-Some.scope.now c.args.about.now c.args.answered.now c.loop-answer.answer-index c.answer-item.result c.loop-answer-test.true c.answer-item.is))
          (c.in_ok-meet_answer.ensures.met old _ so_far.met);
    }

-- the own stream is not demanded
pub returns-then-not-demands_own-clause-met : goal.returns-then-not-demands_own-clause-met
returns-then-not-demands_own-clause-met c =
    let old : Piped = c.args.self.now in
    let l : List (Option StreamSpec) = c.args.answered.now in
    let told : demands_own c.args.about.now.kind l c.loop-answer.feeds.items ≡ false =
    sym (ap (λ (a : About). demands_own a.kind l c.loop-answer.feeds.items) c.about.view_is) ∙ (sym (ap (λ ns. demands_own c.about.inside.kind l ns) c.deref.ensures.value) ∙ (sym c.demands_own.ensures ∙ c.if-not-demands_own.true)) in
    let all : AreMet c.args.now (usable_demands old.answers c.in-Some.scope.now c.args.about.now l) old c.loop-answer.self c.loop-answer.feeds.items =
    subst (λ l. AreMet c.args.now (usable_demands old.answers c.in-Some.scope.now c.args.about.now l) old c.loop-answer.self c.loop-answer.feeds.items) (take_all c.loop-answer.answer-index l (omega (arith, c.loop-answer-test.false))) c.loop-answer.invariant.met in
    let demands = demands-with old.answers c.in-Some.scope.now c.args.about.now c.args.now old c.loop-answer.self (scope_in c.args.scope) l c.loop-answer.feeds.items false refl (ap scope_in c.in-Some.is) c.requires all told in
    subst (λ ds. AreMet c.args.now ds old c.loop-answer.self c.loop-answer.feeds.items) (sym (demands ∙ append-nil _)) all

-- or it is
pub meet-requires : goal.meet-requires
meet-requires c = record {
  valid = c.in_ok-demand.ensures.valid (good-bounds (scope_in c.args.scope) c.in-Some.scope.now c.args.about.now (ap scope_in c.in-Some.is) c.requires);
}

pub returns-clause-met : goal.returns-clause-met
returns-clause-met c =
    let old : Piped = c.args.self.now in
    let l : List (Option StreamSpec) = c.args.answered.now in
    let told : demands_own c.args.about.now.kind l c.loop-answer.feeds.items ≡ true =
    sym (ap (λ (a : About). demands_own a.kind l c.loop-answer.feeds.items) c.about.view_is) ∙ (sym (ap (λ ns. demands_own c.about.inside.kind l ns) c.deref.ensures.value) ∙ (sym c.demands_own.ensures ∙ c.if-not-demands_own.false)) in
    let all : AreMet c.args.now (usable_demands old.answers c.in-Some.scope.now c.args.about.now l) old c.loop-answer.self c.loop-answer.feeds.items =
    subst (λ l. AreMet c.args.now (usable_demands old.answers c.in-Some.scope.now c.args.about.now l) old c.loop-answer.self c.loop-answer.feeds.items) (take_all c.loop-answer.answer-index l (omega (arith, c.loop-answer-test.false))) c.loop-answer.invariant.met in
    let demands = demands-with old.answers c.in-Some.scope.now c.args.about.now c.args.now old c.loop-answer.self (scope_in c.args.scope) l c.loop-answer.feeds.items true refl (ap scope_in c.in-Some.is) c.requires all told in
    let own : c.in_ok-demand.demand ≡ own_demand old.answers c.in-Some.scope.now c.args.about.now =
    c.in_ok-demand.ensures.demand ∙ ap (demand_of c.self-2.inside.answers c.in-Some.scope.now c.args.about.now) c.default.ensures ∙ (ap (λ (p : Piped). own_demand p.answers c.in-Some.scope.now c.args.about.now) c.self-2.view_is ∙ ap (λ (a : ReaderAnswers). own_demand a c.in-Some.scope.now c.args.about.now) c.loop-answer.invariant.longer.answers) in
    subst (λ ds. AreMet c.args.now ds old c.meet.new.self c.meet.new.feeds.items) (sym (demands ∙ ap (λ (d : Demand). usable_demands old.answers c.in-Some.scope.now c.args.about.now l ++ d ∷ []) (sym own))) (c.in_ok-meet.ensures.met old _ all)
