use Rattle.std.proofs.Common.{◌∙◌, sym}
use Rattle.otel_aggregate.proofs.value_map.PlanLemmas.{plan-over, plan-over_new}
use Rattle.otel_aggregate.proofs.value_map.pending.plan_past.Goals as goal

pub returns-in-Some-clause-plan : goal.returns-in-Some-clause-plan
returns-in-Some-clause-plan g c = λ l unled away. plan-over c.args.table.now l unled away c.in-Some.number c.in-Some.ensures.named (sym c.in-Some.ensures.placed)

pub returns-clause-plan : goal.returns-clause-plan
returns-clause-plan g c = λ l unled away.
    plan-over_new c.args.table.now l unled away c.new-set.result (c.new-set.ensures ∙ c.in_ok-overflow_set.ensures.set) (sym c.in_default.ensures.number) (sym c.in_default.ensures.placed)
