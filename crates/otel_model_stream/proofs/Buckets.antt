-- The buckets of a histogram hold each record once.
use Rattle.std.proofs.Common.{ℕ, zero, suc, ◌+◌, ◌<◌, ◌≡◌, ℤ, Bool, List, [], ◌∷◌, length, map, ap, arith, sym, ◌∙◌, sum_by, fold, replicate}
use Rattle.std.specs.Prelude.{int_lt}
use Rattle.std.proofs.lemmas.List.{length-replicate}
use Rattle.std.proofs.lemmas.List.Folds.{sum_by-replicate}
use Rattle.std.proofs.lemmas.List.Sums.{sum_by-cons, count_by-le-length}
use Rattle.otel_model_stream.specs.Folds.{Aggregate, Histogram, Amount, Spread, Spreads, wrap, record_fold, record_spread, counted_in, no_spread, buckets_of, sample_of, fold_of}
use Rattle.otel_model_stream.specs.Totals.{weight}
use Rattle.otel_model_stream.specs.Laws.{bucket_counts}
use Rattle.otel_model_stream.proofs.Clearing.{length-counted_in}
use Rattle.otel_model_stream.proofs.FoldLaws.{fold_is}

abbrev total : List ℕ → ℕ
total ns = sum_by (λ n. n) ns

one_more : (a b c d : ℕ) → wrap b ≡ wrap (c + 1) → d ≡ a + c → wrap (a + b) ≡ wrap (d + 1)
one_more a b c d e f = omega arith

total-counted : (ns : List ℕ) (i : ℕ) → i < length ns → wrap (total (counted_in ns i)) ≡ wrap (total ns + 1)
total-counted [] i h = absurd (omega arith)
total-counted (n ∷ ns) zero h = omega (arith, sum_by-cons (λ (n : ℕ). n) (wrap (n + 1)) ns, sum_by-cons (λ (n : ℕ). n) n ns)
total-counted (n ∷ ns) (suc i) h =
    ap wrap (sum_by-cons (λ (n : ℕ). n) n (counted_in ns i))
    ∙ one_more n (total (counted_in ns i)) (total ns) (total (n ∷ ns)) (total-counted ns i (omega arith)) (sum_by-cons (λ (n : ℕ). n) n ns)

-- with each record the buckets grow as the count does
balanced : (σ : Aggregate) (n : ℕ) → ((v : Amount) → (sample_of σ v).bucket < n) → (s : Spread) (vs : List Amount) → length s.counts ≡ n → wrap (total s.counts) ≡ s.count
    → wrap (total (bucket_counts (fold record_fold (Spreads s) (map (sample_of σ) vs)))) ≡ weight (fold record_fold (Spreads s) (map (sample_of σ) vs))
balanced σ n below s [] l e = e
balanced σ n below s (v ∷ vs) l e =
    balanced σ n below (record_spread s (sample_of σ v)) vs (length-counted_in s.counts (sample_of σ v).bucket ∙ l)
    (total-counted s.counts (sample_of σ v).bucket (rw l (below v)) ∙ next (total s.counts) s.count e)
  where
    next : (t c : ℕ) → wrap t ≡ c → wrap (t + 1) ≡ wrap (c + 1)
    next t c e = omega arith

pub buckets_are : (b : ℤ) (bounds : List ℤ) (m s : Bool) (vs : List Amount) →
    wrap (total (bucket_counts (fold_of (Histogram (b ∷ bounds) m s) vs))) ≡ weight (fold_of (Histogram (b ∷ bounds) m s) vs)
buckets_are b bounds m s vs =
    let σ : Aggregate = Histogram (b ∷ bounds) m s in
    (λ i. wrap (total (bucket_counts (sym (fold_is (Histogram (b ∷ bounds) m s) vs) i))))
    ∙ (balanced (Histogram (b ∷ bounds) m s) (length (b ∷ bounds) + 1) below (no_spread m s (buckets_of (b ∷ bounds))) vs (length-replicate (buckets_of (b ∷ bounds)) 0) none
    ∙ ap weight (fold_is (Histogram (b ∷ bounds) m s) vs))
  where
    below : (v : Amount) → (sample_of (Histogram (b ∷ bounds) m s) v).bucket < length (b ∷ bounds) + 1
    below v = omega (arith, count_by-le-length (λ bound. int_lt bound v.wide) (b ∷ bounds))

    none : wrap (total (replicate (buckets_of (b ∷ bounds)) 0)) ≡ 0
    none = ap wrap (sum_by-replicate (λ (n : ℕ). n) (buckets_of (b ∷ bounds)) 0) ∙ omega arith
