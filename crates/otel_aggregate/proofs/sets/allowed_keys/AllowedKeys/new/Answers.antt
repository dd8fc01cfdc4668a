use Rattle.std.proofs.Common.{rules, ◌≡◌, ◌∙◌, ap, sym}
use Rattle.std.specs.List.{list_any}
use Rattle.std.proofs.lemmas.List.Sorted.{list_any-IsPermutation}
use Rattle.otel_common.specs.Equality.{bytes_eq}
use Rattle.otel_aggregate.proofs.sets.allowed_keys.AllowedKeys.new.Goals as goal

pub invariant_of-result-2 : goal.invariant_of-result-2
invariant_of-result-2 c =
    let copied : c.in_ok-sorted.sorted.items ≡ c.as_slice-2.result.now = search rules in (
      c.sort_unstable.ensures.sorted,
      λ key. sym (list_any-IsPermutation (bytes_eq key) _ _ c.sort_unstable.ensures.permutation) ∙ ap (list_any (bytes_eq key)) (copied ∙ c.as_slice-2.ensures),
    )
