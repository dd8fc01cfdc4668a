use Rattle.std.proofs.Common.{◌≡◌, ◌++◌, map, subst, arith, rules, ◌∙◌}
use Rattle.std.proofs.lemmas.List.{take_all}
use Rattle.otel_prometheus.specs.Standing.{AreGroups}
use Rattle.otel_prometheus.proofs.families.Groups.add_scope.Goals as goal

pub add-requires : goal.add-requires
add-requires c = (_, c.loop-metric.invariant c.requires.0 c.requires.1)

pub returns : goal.returns
returns c = λ seen a.
    let metrics : c.as_slice-metrics.result.now ≡ c.args.one.now.metrics = search rules in
    subst (λ l. AreGroups c.loop-metric.self (seen ++ l))
    (λ i. map (λ m. record { scope = c.scope-scope.ensures i; metric = m }) ((take_all c.loop-metric.metric-index c.as_slice-metrics.result.now (omega arith) ∙ metrics) i))
    (c.loop-metric.invariant seen a)
