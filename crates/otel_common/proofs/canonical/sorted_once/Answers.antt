use Rattle.std.proofs.Common.{rules, ◌∙◌}
use Rattle.std.proofs.lemmas.Fn.{dedup_same}
use Rattle.std.proofs.lemmas.List.Sorted.{answers_always, ranks_by}
use Rattle.std.specs.Cmp.{IsStrictWeakOrder}
use Rattle.std.specs.Cmp.Lexicographic.{nat_list_cmp_total}
use Rattle.otel_common.specs.declared.attributes.KeyValue.{KeyValue}
use Rattle.otel_common.proofs.CanonLaws.{canon-rising}
use Rattle.otel_common.proofs.Sorting.{canon-from_sort, before, same_key}
use Rattle.otel_common.proofs.canonical.sorted_once.Goals as goal

-- the sort is stable by key, and what is dropped repeats a key
pub returns-clause-canonical : goal.returns-clause-canonical
returns-clause-canonical c =
    let kept = dedup_same _ same_key _ (λ x y b f' x' y' k. search rules) _ _ c.dedup_by.ensures.filtered in
    let order : IsStrictWeakOrder before = ranks_by nat_list_cmp_total (λ (p : KeyValue). p.key) in
    let up = c.in_ok-sort_by.ensures.sorted before order (answers_always _ _ _ (λ f a r g k. search rules)) in
    let stable = c.in_ok-sort_by.ensures.stable before order (answers_always _ _ _ (λ f a r g k. search rules)) in
    kept ∙ canon-from_sort _ _ up stable

pub returns-clause-rising : goal.returns-clause-rising
returns-clause-rising c = rw (returns-clause-canonical c) (canon-rising c.args.attributes.items)
