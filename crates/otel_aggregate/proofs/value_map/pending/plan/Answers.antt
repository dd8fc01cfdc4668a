use Rattle.std.proofs.Common.{◌≡◌, ◌∙◌, ap, sym, subst, true, true≢false, cond, Bool, None, Some, rules}
use Rattle.std.specs.Map.{lookup}
use Rattle.otel_common.specs.Canonical.{canon}
use Rattle.otel_common.specs.Equality.{set_eq}
use Rattle.otel_model_stream.specs.Sets.{AttributeSet}
use Rattle.otel_aggregate.specs.value_map.Contents.{IsPlan}
use Rattle.otel_aggregate.specs.declared.value_map.pending.Pending.TheVariants.{New}
use Rattle.otel_aggregate.proofs.value_map.KeyedLemmas.{same_set}
use Rattle.otel_aggregate.proofs.value_map.PlanLemmas.{own-away, past-planned, past-there, none-there, plan-admitted, unnumbered}
use Rattle.otel_aggregate.proofs.value_map.pending.plan.Goals as goal

pub returns-then-not-few-clause-plan : goal.returns-then-not-few-clause-plan
returns-then-not-few-clause-plan g c =
    past-planned c.args.table.now c.args.few c.args.list.now.key c.plan_past.result (search rules) c.requires.unled (own-away c.args.table.now c.args.list.now.key c.requires.unled (sym c.is_canonical.ensures ∙ c.if-is_canonical.true)) c.plan_past.ensures.plan

pub returns-then-not-few-clause-there : goal.returns-then-not-few-clause-there
returns-then-not-few-clause-there g c there =
    let away = own-away c.args.table.now c.args.list.now.key c.requires.unled (sym c.is_canonical.ensures ∙ c.if-is_canonical.true) in
    c.plan_past.ensures.there (sym (past-there c.args.table.now c.args.list.now.key c.requires.unled away c.args.few (search rules)) ∙ there)

pub returns-then-is_canonical-clause-plan : goal.returns-then-is_canonical-clause-plan
returns-then-is_canonical-clause-plan g c =
    let t = c.args.table.now in
    let l = c.args.list.now.key in
    let own : set_eq (canon l) l ≡ true = sym c.is_canonical.ensures ∙ c.if-is_canonical.true in
    let same : canon l ≡ l = same_set (canon l) l own in
    let below : c.args.few ≡ true = search rules in
    let absent : lookup (set_eq (canon l)) t.numbers.sets ≡ None = ap (λ (s : AttributeSet). lookup (set_eq s) t.numbers.sets) same ∙ unnumbered t l c.requires.unled c.law_of_numbers.ensures.placed in
    (subst (λ (b : Bool). IsPlan t b l (New c.in_ok-own.own None)) (sym below)
    (plan-admitted t l c.requires.unled (own-away t l c.requires.unled own) absent c.in_ok-own.own None (c.in_ok-own.ensures.copy ∙ sym same) (sym (ap (λ (b : Bool). cond b None (Some l)) own))))

pub returns-in_err-own-clause-there : goal.returns-in_err-own-clause-there
returns-in_err-own-clause-there g c there =
    let away = own-away c.args.table.now c.args.list.now.key c.requires.unled (sym c.is_canonical.ensures ∙ c.if-is_canonical.true) in
    absurd (true≢false (sym there ∙ none-there c.args.table.now c.args.list.now.key c.requires.unled away c.args.few (search rules)))
