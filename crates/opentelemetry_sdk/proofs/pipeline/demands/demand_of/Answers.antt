use Rattle.std.proofs.Common.{◌≡◌, ◌∙◌, rules, ap}
use Rattle.std.specs.Option.{option_or, unwrap_or}
use Rattle.otel_model.specs.Demands.{answer_for, default_limit, is_valid, resolved_aggregation}
use Rattle.opentelemetry_sdk.proofs.pipeline.DemandLemmas.{demand_made, limit-or, resolved_valid}
use Rattle.opentelemetry_sdk.proofs.pipeline.demands.demand_of.Goals as goal

-- its parts are those that are demanded
pub returns-clause-demand : goal.returns-clause-demand
returns-clause-demand c =
    let settings : c.spec-settings.result.now ≡ c.args.stream.now = c.spec-settings.ensures in
    let wanted : c.limit.result ≡ (answer_for c.args.answers.now c.args.about.now.kind).limit = search rules in
    demand_made c.args.answers.now c.args.scope.now c.args.about.now c.args.stream.now _
    (search rules)
    (search rules)
    (c.in_ok-aggregation_of.ensures.aggregation ∙ ap (λ s. resolved_aggregation c.args.answers.now c.args.about.now s.aggregation) settings)
    (search rules)
    (c.unwrap_or.ensures ∙ (ap (λ o. unwrap_or o default_limit) (c.or-limit.ensures ∙ λ i. option_or (settings i).limit (wanted i)) ∙ limit-or c.args.stream.now.limit _ default_limit))

pub returns-clause-valid : goal.returns-clause-valid
returns-clause-valid c = λ good.
    ap is_valid (c.in_ok-aggregation_of.ensures.aggregation ∙ ap (λ s. resolved_aggregation c.args.answers.now c.args.about.now s.aggregation) c.spec-settings.ensures)
    ∙ resolved_valid c.args.answers.now c.args.about.now c.args.stream.now.aggregation c.lawful.ensures.bounds good
