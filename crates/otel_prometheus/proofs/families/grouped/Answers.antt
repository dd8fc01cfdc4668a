use Rattle.std.proofs.Common.{◌≡◌, ◌%◌, ◌^◌, ◌++◌, flat_map, take, ap, subst, arith, rules, ◌∙◌}
use Rattle.std.proofs.lemmas.List.{take_all}
use Rattle.otel_prometheus.specs.Groups.{members_of, groups_of, conflicting_among}
use Rattle.otel_prometheus.specs.Standing.{AreGroups}
use Rattle.otel_prometheus.proofs.CollectedLemmas.{scopes_more, conflicts_are}
use Rattle.otel_prometheus.proofs.families.grouped.Goals as goal

pub add_scope-requires : goal.add_scope-requires
add_scope-requires c = (_, c.loop-scope.invariant)

pub loop-scope-preserved : goal.loop-scope-preserved
loop-scope-preserved c =
    subst (AreGroups c.add_scope.new.self) (scopes_more members_of c.as_slice-scopes.result.now c.loop-scope.scope-index c.scope-item.result (omega arith))
    (subst (λ x. AreGroups c.add_scope.new.self (flat_map members_of (take c.loop-scope.scope-index c.as_slice-scopes.result.now) ++ members_of x)) c.scope-item.is
    (c.in_ok-add_scope.ensures (flat_map members_of (take c.loop-scope.scope-index c.as_slice-scopes.result.now)) c.loop-scope.invariant))

pub returns-clause-groups : goal.returns-clause-groups
returns-clause-groups c =
    let scopes : c.as_slice-scopes.result.now ≡ c.args.collected.now.scope_metrics = search rules in
    c.loop-scope.invariant.families.list ∙ ap (λ l. groups_of (flat_map members_of l)) (take_all c.loop-scope.scope-index c.as_slice-scopes.result.now (omega arith) ∙ scopes)

pub returns-clause-conflicting : goal.returns-clause-conflicting
returns-clause-conflicting c =
    let scopes : c.as_slice-scopes.result.now ≡ c.args.collected.now.scope_metrics = search rules in
    c.loop-scope.invariant.conflicting
    ∙ ap (λ n. n % 2 ^ 64) (ap (λ l. conflicting_among (flat_map members_of l)) (take_all c.loop-scope.scope-index c.as_slice-scopes.result.now (omega arith) ∙ scopes) ∙ conflicts_are c.args.collected.now)
