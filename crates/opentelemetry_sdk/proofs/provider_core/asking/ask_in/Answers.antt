use Rattle.std.proofs.Common.{◌∙◌, ap, arith, map, rules, take_all, option_map}
use Rattle.opentelemetry_sdk.proofs.Asked.{asked-each}
use Rattle.opentelemetry_sdk.proofs.provider_core.asking.ask_in.Goals as goal

pub returns-clause-asked : goal.returns-clause-asked
returns-clause-asked g c =
    asked-each g.V.View.answer c.args.views.now (option_map (λ s. s.now) c.args.scope) c.in-Some.scope.now c.args.about.now _ c.loop-view.answers.items
    (ap (option_map (λ s. s.now)) c.in-Some.is) (search rules)
    (c.loop-view.invariant.so_far ∙ ap (map _) (take_all c.loop-view.view-index c.args.views.now (omega (arith, c.loop-view-test.false))))
