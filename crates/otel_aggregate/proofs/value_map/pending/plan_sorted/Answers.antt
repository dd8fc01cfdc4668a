use Rattle.std.proofs.Common.{◌≡◌, ◌∙◌, ap, sym, subst, true, false, cond, None, Some, Bool, rules, true≢false}
use Rattle.std.specs.Map.{lookup}
use Rattle.otel_common.specs.Canonical.{canon}
use Rattle.otel_common.specs.Equality.{set_eq}
use Rattle.otel_model_stream.specs.Sets.{AttributeSet}
use Rattle.otel_model_stream.specs.Entries.{has}
use Rattle.otel_aggregate.specs.value_map.Contents.{IsPlan}
use Rattle.otel_aggregate.specs.declared.value_map.pending.Pending.TheVariants.{New}
use Rattle.otel_aggregate.proofs.value_map.PlanLemmas.{past-there, none-there, plan-admitted}
use Rattle.otel_aggregate.proofs.value_map.pending.plan_sorted.Goals as goal

pub returns-then-not-few-clause-there : goal.returns-then-not-few-clause-there
returns-then-not-few-clause-there g c there =
    let t = c.args.table.now in
    let away : has (canon c.args.list.now.key) t.table.entries ≡ false = ap (λ (s : AttributeSet). has s t.table.entries) (sym c.requires.sorted) ∙ sym c.in_default.ensures.placed in
    c.plan_past.ensures.there (sym (past-there t c.args.list.now.key c.requires.unled away c.args.few (search rules)) ∙ there)

pub returns-in_err-set-clause-there : goal.returns-in_err-set-clause-there
returns-in_err-set-clause-there g c there =
    let t = c.args.table.now in
    let away : has (canon c.args.list.now.key) t.table.entries ≡ false = ap (λ (s : AttributeSet). has s t.table.entries) (sym c.requires.sorted) ∙ sym c.in_default.ensures.placed in
    absurd (true≢false (sym there ∙ none-there t c.args.list.now.key c.requires.unled away c.args.few (search rules)))

pub returns-in_err-key-clause-there : goal.returns-in_err-key-clause-there
returns-in_err-key-clause-there g c there =
    let t = c.args.table.now in
    let away : has (canon c.args.list.now.key) t.table.entries ≡ false = ap (λ (s : AttributeSet). has s t.table.entries) (sym c.requires.sorted) ∙ sym c.in_default.ensures.placed in
    absurd (true≢false (sym there ∙ none-there t c.args.list.now.key c.requires.unled away c.args.few (search rules)))

pub returns-clause-plan : goal.returns-clause-plan
returns-clause-plan g c =
    let t = c.args.table.now in
    let l = c.args.list.now.key in
    let sorted : c.args.sorted.now.key ≡ canon l = c.requires.sorted in
    let set : c.in_ok-set.set ≡ canon l = c.in_ok-set.ensures.copy ∙ sorted in
    let absent : lookup (set_eq (canon l)) t.numbers.sets ≡ None = ap (λ (s : AttributeSet). lookup (set_eq s) t.numbers.sets) (sym sorted) ∙ sym c.in_default.ensures.number in
    let away : has (canon l) t.table.entries ≡ false = ap (λ (s : AttributeSet). has s t.table.entries) (sym sorted) ∙ sym c.in_default.ensures.placed in
    let below : c.args.few ≡ true = search rules in
    let key : c.in_ok-key.key ≡ l = c.in_ok-key.ensures.copy in
    (subst (λ (b : Bool). IsPlan t b l (New c.in_ok-set.set (Some c.in_ok-key.key))) (sym below)
    (plan-admitted t l c.requires.unled away absent c.in_ok-set.set (Some c.in_ok-key.key) set (ap Some key ∙ sym (ap (λ (b : Bool). cond b None (Some l)) c.requires.other))))
