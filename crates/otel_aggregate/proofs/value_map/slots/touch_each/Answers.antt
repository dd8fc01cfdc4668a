use Rattle.std.proofs.Common.{◌≡◌, ◌∙◌, sym, true, arith}
use Rattle.std.proofs.lemmas.Grind.{common_steps}
use Rattle.otel_aggregate.specs.Any.{aggregate_of, samples_of}
use Rattle.otel_aggregate.specs.AnyKept.{fold_in}
use Rattle.otel_aggregate.specs.value_map.Slots.{kept_of, written_each}
use Rattle.otel_aggregate.proofs.EachLemmas.{written-some}
use Rattle.otel_aggregate.proofs.value_map.slots.touch_each.Goals as goal

pub returns-in-Some : goal.returns-in-Some
returns-in-Some c =
    let k = kept_of fold_in c.in-Some.slot.now in
    let vs = samples_of (aggregate_of c.args.settings.now) c.args.values.now in
    let is : record k { updated = true; fold = fold_in c.update_each.new.self } ≡ written_each vs k =
    (λ i. record k { updated = true; fold = c.update_each.ensures i })
    ∙ sym (written-some (aggregate_of c.args.settings.now) c.args.values.now k (sym c.is_empty.ensures ∙ c.if-is_empty.false)) in
    grind (arith, common_steps)
