use Rattle.std.proofs.Common.{◌≡◌, ◌∙◌, ap, sym, subst, ◌∷◌, [], ◌++◌, List}
use Rattle.otel_model.specs.Calls.{About}
use Rattle.otel_model.specs.Demands.{Demand, demand_of}
use Rattle.opentelemetry_sdk.specs.pipeline.Pipelines.{AreMet, Piped}
use Rattle.opentelemetry_sdk.specs.pipeline.Views.{can_keep, usable_answer}
use Rattle.opentelemetry_sdk.proofs.pipeline.Meets.{longer-refl}
use Rattle.std.proofs.lemmas.Result.{on_ok_weaker}
use Rattle.opentelemetry_sdk.proofs.pipeline.ViewLemmas.{fit-demands}
use Rattle.opentelemetry_sdk.proofs.pipeline.Pipeline.meet_answer.Goals as goal

-- nothing is met
pub returns-in_default-clause-longer : goal.returns-in_default-clause-longer
returns-in_default-clause-longer c = longer-refl c.args.self.now

pub returns-then-not-can_keep-clause-longer : goal.returns-then-not-can_keep-clause-longer
returns-then-not-can_keep-clause-longer c = longer-refl c.args.self.now

pub returns-in_err-demand-clause-longer : goal.returns-in_err-demand-clause-longer
returns-in_err-demand-clause-longer c = longer-refl c.args.self.now

-- what can be used is met
pub returns-clause-met : goal.returns-clause-met
returns-clause-met c =
    let same : c.in_ok-demand.demand ≡ demand_of c.args.self.now.answers c.args.scope.now c.args.about.now c.in-Some.stream =
    c.in_ok-demand.ensures.demand ∙ ap (λ (p : Piped). demand_of p.answers c.args.scope.now c.args.about.now c.in-Some.stream) c.self.view_is in
    let kind = ap (λ (a : About). can_keep a.kind c.in-Some.stream.aggregation) c.about.view_is in
    let usable = ap (usable_answer c.args.self.now.answers c.args.scope.now c.args.about.now) c.in-Some.is ∙ fit-demands c.args.self.now.answers c.args.scope.now c.args.about.now c.in-Some.stream (sym kind ∙ (sym c.can_keep.ensures ∙ c.if-not-can_keep.false)) in
    on_ok_weaker c.meet.result
    (λ met before ds was. subst (λ (more : List Demand). AreMet c.args.now (ds ++ more) before c.meet.new.self c.meet.new.feeds.items) (ap (λ (x : Demand). x ∷ []) same ∙ sym usable) (met before ds was))
    c.meet.ensures.met
