-- The fold of no records, and of those of which it was cleared.
use Rattle.std.proofs.Common.{◌≡◌, ℤ, List, [], Option, None, refl, ap, sym, ◌∙◌, length}
use Rattle.otel_model_stream.specs.Folds.{Sample, Fold, Total, Last, Spreads, fold_samples, clear_fold, no_spread}
use Rattle.otel_model_stream.proofs.Clearing.{length-counts_from}
use Rattle.otel_model_stream.proofs.FoldLaws.{no_counts, never}

pub folded-none : (empty : Fold) → fold_samples empty [] ≡ clear_fold empty
folded-none (Total _) = refl
folded-none (Last _) = refl
folded-none (Spreads s) = λ j. Spreads (record {
  has_min_max = s.has_min_max;
  has_sum = s.has_sum;
  count = 0;
  sum = never s.has_sum 0 j;
  least = never {A = Option ℤ} s.has_min_max None j;
  greatest = never {A = Option ℤ} s.has_min_max None j;
  counts = no_counts 0 (length s.counts) j;
})

-- clearing a fold forgets its records
pub cleared_folded : (empty : Fold) (vs : List Sample) → clear_fold (fold_samples empty vs) ≡ fold_samples empty []
cleared_folded (Total _) vs = refl
cleared_folded (Last _) vs = refl
cleared_folded (Spreads s) vs = ap (λ n. Spreads (no_spread s.has_min_max s.has_sum n)) (length-counts_from 0 (length s.counts) vs) ∙ sym (folded-none (Spreads s))
