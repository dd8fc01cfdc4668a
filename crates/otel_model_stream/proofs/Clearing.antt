-- Clearing forgets what was recorded.
use Rattle.std.proofs.Common.{ℕ, zero, suc, ◌+◌, List, [], ◌∷◌, ◌≡◌, ◌∙◌, ap, refl, length, fold, map}
use Rattle.std.proofs.lemmas.List.{length-replicate}
use Rattle.otel_model_stream.specs.Folds.{Aggregate, Sum, LastValue, Histogram, Amount, Sample, Fold, Total, Last, Spreads, record_fold, clear_fold, counted_in, counts_from, no_spread, buckets_of, empty_of, sample_of, fold_of}

-- ======== step by step ========
pub length-counted_in : (ns : List ℕ) (i : ℕ) → length (counted_in ns i) ≡ length ns
length-counted_in [] i = refl
length-counted_in (n ∷ ns) zero = refl
length-counted_in (n ∷ ns) (suc i) = ap suc (length-counted_in ns i)

pub cleared-recorded : (f : Fold) (v : Sample) → clear_fold (record_fold f v) ≡ clear_fold f
cleared-recorded (Total n) v = refl
cleared-recorded (Last n) v = refl
cleared-recorded (Spreads s) v = ap (λ k. Spreads (no_spread s.has_min_max s.has_sum k)) (length-counted_in s.counts v.bucket)

pub cleared_steps : (f : Fold) (vs : List Sample) → clear_fold (fold record_fold f vs) ≡ clear_fold f
cleared_steps f [] = refl
cleared_steps f (v ∷ vs) = cleared_steps (record_fold f v) vs ∙ cleared-recorded f v

-- ======== the whole list ========
pub length-counts_from : (a n : ℕ) (vs : List Sample) → length (counts_from a n vs) ≡ n
length-counts_from a zero vs = refl
length-counts_from a (suc n) vs = ap suc (length-counts_from (a + 1) n vs)

pub cleared_list : (σ : Aggregate) (vs : List Amount) → clear_fold (fold_of σ vs) ≡ empty_of σ
cleared_list Sum vs = refl
cleared_list LastValue vs = refl
cleared_list (Histogram bounds m s) vs =
    ap (λ k. Spreads (no_spread m s k))
    (length-counts_from 0 (length (no_spread m s (buckets_of bounds)).counts) (map (sample_of (Histogram bounds m s)) vs) ∙ length-replicate (buckets_of bounds) 0)
