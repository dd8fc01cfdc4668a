-- What a histogram keeps of several values.
use Rattle.std.proofs.Common.{ℕ, suc, ◌+◌, ◌^◌, ◌<◌, ◌≡◌, ℤ, Bool, true, false, cond, List, [], ◌∷◌, length, Option, Some, None, unwrap_or, fold, int_lt, refl, ap, arith, ◌∙◌}
use Rattle.std.specs.Int.{int_min, int_max}
use Rattle.otel_data.specs.declared.numbers.NumberValue.{NumberValue}
use Rattle.otel_model_stream.specs.Folds.{Aggregate, Spread, bounds_of, sample_of, record_spread, lesser, greater, wrap}
use Rattle.otel_aggregate.specs.Any.{amount_of, samples_of}
use Rattle.otel_aggregate.specs.AnyKept.{sum_with, least_with, greatest_with, least_from, greatest_from, counts_with}

-- ======== totals ========
either : {A : Type 0} (b : Bool) (x : A) → x ≡ cond b x x
either true x = refl
either false x = refl

twice : {A : Type 0} (b : Bool) (f : A → A) (x y : A) → cond b (f (cond b x y)) (cond b x y) ≡ cond b (f x) y
twice true f x y = refl
twice false f x y = refl

counted-none : (n : ℕ) → n < 2 ^ 64 → n ≡ wrap (n + 0)
counted-none n fits = omega arith

counted-more : (n m : ℕ) → wrap (wrap (n + 1) + m) ≡ wrap (n + suc m)
counted-more n m = omega arith

counted-fits : (n : ℕ) → wrap (n + 1) < 2 ^ 64
counted-fits n = omega arith

-- the fold of records is the record of folds
pub spread_with : (σ : Aggregate) (values : List NumberValue) (s : Spread) → s.count < 2 ^ 64 → fold record_spread s (samples_of σ values) ≡ record {
  has_min_max = s.has_min_max;
  has_sum = s.has_sum;
  count = wrap (s.count + length values);
  sum = cond s.has_sum (sum_with s.sum values) s.sum;
  least = cond s.has_min_max (least_with s.least values) s.least;
  greatest = cond s.has_min_max (greatest_with s.greatest values) s.greatest;
  counts = counts_with (bounds_of σ) s.counts values;
}
spread_with σ [] s fits = λ j. record {
  has_min_max = s.has_min_max;
  has_sum = s.has_sum;
  count = counted-none s.count fits j;
  sum = either s.has_sum s.sum j;
  least = either s.has_min_max s.least j;
  greatest = either s.has_min_max s.greatest j;
  counts = s.counts;
}
spread_with σ (v ∷ values) s fits =
    let more = amount_of v in
    spread_with σ values (record_spread s (sample_of σ more)) (counted-fits s.count) ∙ (λ j. record {
      has_min_max = s.has_min_max;
      has_sum = s.has_sum;
      count = counted-more s.count (length values) j;
      sum = twice s.has_sum (λ n. sum_with n values) (wrap (s.sum + more.bits)) s.sum j;
      least = twice s.has_min_max (λ o. least_with o values) (lesser s.least more.wide) s.least j;
      greatest = twice s.has_min_max (λ o. greatest_with o values) (greater s.greatest more.wide) s.greatest j;
      counts = counts_with (bounds_of σ) s.counts (v ∷ values);
    })

-- ======== least and greatest ========
least_from-some : (z : ℤ) (values : List NumberValue) → Some (least_from z values) ≡ least_with (Some z) values
least_from-some z [] = refl
least_from-some z (v ∷ values) = least_from-some (int_min z (amount_of v).wide) values

greatest_from-some : (z : ℤ) (values : List NumberValue) → Some (greatest_from z values) ≡ greatest_with (Some z) values
greatest_from-some z [] = refl
greatest_from-some z (v ∷ values) = greatest_from-some (int_max z (amount_of v).wide) values

same-min : (b : Bool) (z : ℤ) → cond b z z ≡ z
same-min true z = refl
same-min false z = refl

-- a first value counts once, though it is begun with
pub least_from-first : (o : Option ℤ) (v : NumberValue) (values : List NumberValue) → Some (least_from (unwrap_or o (amount_of v).wide) (v ∷ values)) ≡ least_with o (v ∷ values)
least_from-first None v values = let z = (amount_of v).wide in ap (λ y. Some (least_from y values)) (same-min (int_lt z z) z) ∙ least_from-some z values
least_from-first (Some z) v values = least_from-some z (v ∷ values)

pub greatest_from-first : (o : Option ℤ) (v : NumberValue) (values : List NumberValue) → Some (greatest_from (unwrap_or o (amount_of v).wide) (v ∷ values)) ≡ greatest_with o (v ∷ values)
greatest_from-first None v values = let z = (amount_of v).wide in ap (λ y. Some (greatest_from y values)) (same-min (int_lt z z) z) ∙ greatest_from-some z values
greatest_from-first (Some z) v values = greatest_from-some z (v ∷ values)
