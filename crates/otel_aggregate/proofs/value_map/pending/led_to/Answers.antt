use Rattle.std.proofs.Common.{◌∙◌, sym, subst}
use Rattle.otel_aggregate.specs.value_map.Contents.{IsPlan}
use Rattle.otel_aggregate.specs.declared.value_map.pending.Pending.TheVariants.{At}
use Rattle.otel_aggregate.proofs.value_map.CanonicalSets.{is_nil}
use Rattle.otel_aggregate.proofs.value_map.PlanLemmas.{plan-empty}
use Rattle.otel_aggregate.proofs.value_map.pending.led_to.Goals as goal

pub returns-then-is_empty-clause-plan : goal.returns-then-is_empty-clause-plan
returns-then-is_empty-clause-plan g c few =
    let l = c.args.list.now.key in
    subst (λ n. IsPlan c.args.table.now few l (At n)) (sym c.none.ensures.number) (plan-empty c.args.table.now few l (is_nil l (sym c.is_empty.ensures ∙ c.if-is_empty.true)))
