-- What a fold holds is what its records add, modulo 2^64.
use Rattle.std.proofs.Common.{◌≡◌, ℕ, ◌+◌, ℤ, List, [], ◌∷◌, map, length, Bool, refl, ap, sym, ◌∙◌, arith}
use Rattle.std.specs.Prelude.{sum_by}
use Rattle.std.proofs.lemmas.List.Sums.{sum_by-cons}
use Rattle.otel_model_stream.specs.Folds.{Aggregate, Sum, LastValue, Histogram, Amount, Sample, wrap, sample_of, fold_of}
use Rattle.otel_model_stream.specs.Totals.{size, weight}

all_bits : (vs : List Amount) → sum_by (λ (w : Sample). w.bits) (map (sample_of Sum) vs) ≡ sum_by (size Sum) vs
all_bits [] = refl
all_bits (v ∷ vs) =
    sum_by-cons (λ (w : Sample). w.bits) (sample_of Sum v) (map (sample_of Sum) vs)
    ∙ (ap (λ n. v.bits + n) (all_bits vs) ∙ sym (sum_by-cons (size Sum) v vs))

no_size : (vs : List Amount) → 0 ≡ sum_by (size LastValue) vs
no_size [] = refl
no_size (v ∷ vs) = omega (arith, sum_by-cons (size LastValue) v vs, no_size vs)

how_many : (bounds : List ℤ) (m s : Bool) (vs : List Amount) → length (map (sample_of (Histogram bounds m s)) vs) ≡ sum_by (size (Histogram bounds m s)) vs
how_many bounds m s [] = refl
how_many bounds m s (v ∷ vs) = omega (arith, sum_by-cons (size (Histogram bounds m s)) v vs, how_many bounds m s vs)

twice : (a b : ℕ) → a ≡ b → wrap (wrap a) ≡ wrap b
twice a b e = omega arith

pub weighs : (σ : Aggregate) (vs : List Amount) → wrap (weight (fold_of σ vs)) ≡ wrap (sum_by (size σ) vs)
weighs Sum vs = twice (sum_by (λ (w : Sample). w.bits) (map (sample_of Sum) vs)) (sum_by (size Sum) vs) (all_bits vs)
weighs LastValue vs = ap wrap (no_size vs)
weighs (Histogram bounds m s) vs = twice (length (map (sample_of (Histogram bounds m s)) vs)) (sum_by (size (Histogram bounds m s)) vs) (how_many bounds m s vs)
