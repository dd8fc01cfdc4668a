-- The fold of a list with one more measurement; and folding one by one against folding the whole list.
use Rattle.std.proofs.Common.{ℕ, zero, suc, ◌+◌, ◌<◌, ◌≡◌, ℤ, List, [], ◌∷◌, ◌++◌, length, map, nat_eq, Bool, true, false, cond, Option, Some, None, refl, ap, arith, sym, ◌∙◌, count_by, sum_by, fold, replicate, length-append, append_assoc}
use Rattle.std.specs.Int.{int_min, int_max}
use Rattle.std.proofs.lemmas.Bool.Decides.{nat_tests}
use Rattle.std.proofs.lemmas.Int.{ints, int_min_is, int_max_is}
use Rattle.std.proofs.lemmas.List.{map-append, append-nil, length-replicate}
use Rattle.std.proofs.lemmas.List.Sums.{sum_by_push}
use Rattle.otel_model_stream.specs.Folds.{Aggregate, Sum, LastValue, Histogram, Amount, Sample, Spread, Fold, Total, Last, Spreads, wrap, record_fold, counted_in, counts_from, last_bits, least_of, greatest_of, lesser, greater, no_spread, buckets_of, empty_of, sample_of, fold_samples, fold_of}

pub wrapped-add : (m n : ℕ) → wrap (wrap m + n) ≡ wrap (m + n)
wrapped-add m n = omega arith

-- ======== one record more ========
last-push : (vs : List Sample) (v : Sample) → last_bits (vs ++ v ∷ []) ≡ v.bits
last-push [] v = refl
last-push (w ∷ []) v = refl
last-push (w ∷ u ∷ vs) v = last-push (u ∷ vs) v

-- two more values, in either order
lesser_twice : (o : Option ℤ) (x y : ℤ) → lesser (lesser o x) y ≡ lesser (lesser o y) x
lesser_twice None x y = ap Some (omega (arith, ints, int_min_is x y, int_min_is y x))
lesser_twice (Some z) x y = ap Some (omega (arith, ints, int_min_is z x, int_min_is (int_min z x) y, int_min_is z y, int_min_is (int_min z y) x))

greater_twice : (o : Option ℤ) (x y : ℤ) → greater (greater o x) y ≡ greater (greater o y) x
greater_twice None x y = ap Some (omega (arith, ints, int_max_is x y, int_max_is y x))
greater_twice (Some z) x y = ap Some (omega (arith, ints, int_max_is z x, int_max_is (int_max z x) y, int_max_is z y, int_max_is (int_max z y) x))

least-push : (xs : List ℤ) (x : ℤ) → least_of (xs ++ x ∷ []) ≡ lesser (least_of xs) x
least-push [] x = refl
least-push (y ∷ []) x = lesser_twice None x y
least-push (y ∷ z ∷ xs) x = ap (λ o. lesser o y) (least-push (z ∷ xs) x) ∙ lesser_twice (least_of (z ∷ xs)) x y

greatest-push : (xs : List ℤ) (x : ℤ) → greatest_of (xs ++ x ∷ []) ≡ greater (greatest_of xs) x
greatest-push [] x = refl
greatest-push (y ∷ []) x = greater_twice None x y
greatest-push (y ∷ z ∷ xs) x = ap (λ o. greater o y) (greatest-push (z ∷ xs) x) ∙ greater_twice (greatest_of (z ∷ xs)) x y

-- a measurement in an earlier bucket
counts-before : (a n : ℕ) (vs : List Sample) (v : Sample) → v.bucket < a → counts_from a n (vs ++ v ∷ []) ≡ counts_from a n vs
counts-before a zero vs v h = refl
counts-before a (suc n) vs v h =
    let other : nat_eq v.bucket a ≡ false = grind (arith, nat_tests) in
    let none : count_by (λ (w : Sample). nat_eq w.bucket a) (vs ++ v ∷ []) ≡ count_by (λ (w : Sample). nat_eq w.bucket a) vs =
    sum_by_push (λ (w : Sample). cond (nat_eq w.bucket a) 1 0) vs v ∙ ap (λ b. count_by (λ (w : Sample). nat_eq w.bucket a) vs + cond b 1 0) other ∙ omega arith in
    ap (λ k. wrap k ∷ counts_from (a + 1) n (vs ++ v ∷ [])) none ∙ ap (λ l. wrap (count_by (λ (w : Sample). nat_eq w.bucket a) vs) ∷ l) (counts-before (a + 1) n vs v (omega arith))

counts-push : (a n : ℕ) (vs : List Sample) (v : Sample) (k : ℕ) → v.bucket ≡ a + k → counts_from a n (vs ++ v ∷ []) ≡ counted_in (counts_from a n vs) k
counts-push a zero vs v k e = refl
counts-push a (suc n) vs v zero e =
    let same : nat_eq v.bucket a ≡ true = grind (arith, nat_tests) in
    let one : count_by (λ (w : Sample). nat_eq w.bucket a) (vs ++ v ∷ []) ≡ count_by (λ (w : Sample). nat_eq w.bucket a) vs + 1 =
    sum_by_push (λ (w : Sample). cond (nat_eq w.bucket a) 1 0) vs v ∙ ap (λ b. count_by (λ (w : Sample). nat_eq w.bucket a) vs + cond b 1 0) same in
    ap (λ m. wrap m ∷ counts_from (a + 1) n (vs ++ v ∷ [])) one ∙ ap (λ m. m ∷ counts_from (a + 1) n (vs ++ v ∷ [])) (sym (wrapped-add (count_by (λ (w : Sample). nat_eq w.bucket a) vs) 1))
    ∙ ap (λ l. wrap (wrap (count_by (λ (w : Sample). nat_eq w.bucket a) vs) + 1) ∷ l) (counts-before (a + 1) n vs v (omega arith))
counts-push a (suc n) vs v (suc k) e =
    let other : nat_eq v.bucket a ≡ false = grind (arith, nat_tests) in
    let none : count_by (λ (w : Sample). nat_eq w.bucket a) (vs ++ v ∷ []) ≡ count_by (λ (w : Sample). nat_eq w.bucket a) vs =
    sum_by_push (λ (w : Sample). cond (nat_eq w.bucket a) 1 0) vs v ∙ ap (λ b. count_by (λ (w : Sample). nat_eq w.bucket a) vs + cond b 1 0) other ∙ omega arith in
    ap (λ m. wrap m ∷ counts_from (a + 1) n (vs ++ v ∷ [])) none ∙ ap (λ l. wrap (count_by (λ (w : Sample). nat_eq w.bucket a) vs) ∷ l) (counts-push (a + 1) n vs v k (omega arith))

sum-push : (vs : List Sample) (v : Sample) → wrap (sum_by (λ (w : Sample). w.bits) (vs ++ v ∷ [])) ≡ wrap (wrap (sum_by (λ (w : Sample). w.bits) vs) + v.bits)
sum-push vs v = ap wrap (sum_by_push (λ (w : Sample). w.bits) vs v) ∙ sym (wrapped-add (sum_by (λ (w : Sample). w.bits) vs) v.bits)

-- a value that is kept or never kept, after one more change
kept_or : {A : Type 0} (b : Bool) (f : A → A) (x y z : A) → y ≡ f x → cond b y z ≡ cond b (f (cond b x z)) (cond b x z)
kept_or true f x y z e = e
kept_or false f x y z e = refl

abbrev folded_least : Spread → List Sample → Option ℤ
folded_least s vs = cond s.has_min_max (least_of (map (λ v. v.wide) vs)) None

abbrev folded_greatest : Spread → List Sample → Option ℤ
folded_greatest s vs = cond s.has_min_max (greatest_of (map (λ v. v.wide) vs)) None

pub folded-push : (empty : Fold) (vs : List Sample) (v : Sample) → fold_samples empty (vs ++ v ∷ []) ≡ record_fold (fold_samples empty vs) v
folded-push (Total _) vs v = ap Total (sum-push vs v)
folded-push (Last _) vs v = ap Last (last-push vs v)
folded-push (Spreads s) vs v =
    let count : wrap (length (vs ++ v ∷ [])) ≡ wrap (wrap (length vs) + 1) = ap wrap (length-append vs (v ∷ [])) ∙ sym (wrapped-add (length vs) 1) in
    let wides : map (λ (w : Sample). w.wide) (vs ++ v ∷ []) ≡ map (λ (w : Sample). w.wide) vs ++ v.wide ∷ [] = map-append (λ (w : Sample). w.wide) vs (v ∷ []) in
    let least : cond s.has_min_max (least_of (map (λ (w : Sample). w.wide) (vs ++ v ∷ []))) None ≡ cond s.has_min_max (lesser (folded_least s vs) v.wide) (folded_least s vs) = kept_or s.has_min_max (λ o. lesser o v.wide) _ _ None (ap least_of wides ∙ least-push (map (λ (w : Sample). w.wide) vs) v.wide) in
    let greatest : cond s.has_min_max (greatest_of (map (λ (w : Sample). w.wide) (vs ++ v ∷ []))) None ≡ cond s.has_min_max (greater (folded_greatest s vs) v.wide) (folded_greatest s vs) = kept_or s.has_min_max (λ o. greater o v.wide) _ _ None (ap greatest_of wides ∙ greatest-push (map (λ (w : Sample). w.wide) vs) v.wide) in
    let sum = kept_or s.has_sum (λ n. wrap (n + v.bits)) _ _ 0 (sum-push vs v) in
    let counts : counts_from 0 (length s.counts) (vs ++ v ∷ []) ≡ counted_in (counts_from 0 (length s.counts) vs) v.bucket = counts-push 0 (length s.counts) vs v v.bucket (omega arith) in
    (λ j. Spreads (record { has_min_max = s.has_min_max; has_sum = s.has_sum; count = count j; sum = sum j; least = least j; greatest = greatest j; counts = counts j }))

-- ======== no records ========
pub no_counts : (a n : ℕ) → counts_from a n [] ≡ replicate n 0
no_counts a zero = refl
no_counts a (suc n) = ap (λ l. 0 ∷ l) (no_counts (a + 1) n)

pub never : {A : Type 0} (b : Bool) (x : A) → cond b x x ≡ x
never true x = refl
never false x = refl

pub fold_of-none : (σ : Aggregate) → fold_of σ [] ≡ empty_of σ
fold_of-none Sum = refl
fold_of-none LastValue = refl
fold_of-none (Histogram bounds m s) = λ i. Spreads (record {
  has_min_max = m;
  has_sum = s;
  count = 0;
  sum = never s 0 i;
  least = never {A = Option ℤ} m None i;
  greatest = never {A = Option ℤ} m None i;
  counts = (no_counts 0 (length (no_spread m s (buckets_of bounds)).counts) ∙ ap (λ n. replicate n 0) (length-replicate (buckets_of bounds) 0)) i;
})

-- ======== one by one ========
folded-more : (empty : Fold) (vs ws : List Sample) → fold record_fold (fold_samples empty vs) ws ≡ fold_samples empty (vs ++ ws)
folded-more empty vs [] = ap (fold_samples empty) (sym (append-nil vs))
folded-more empty vs (w ∷ ws) =
    ap (λ f. fold record_fold f ws) (sym (folded-push empty vs w))
    ∙ (folded-more empty (vs ++ w ∷ []) ws ∙ ap (fold_samples empty) (append_assoc vs (w ∷ []) ws))

pub fold_is : (σ : Aggregate) (vs : List Amount) → fold record_fold (empty_of σ) (map (sample_of σ) vs) ≡ fold_of σ vs
fold_is σ vs = ap (λ f. fold record_fold f (map (sample_of σ) vs)) (sym (fold_of-none σ)) ∙ folded-more (empty_of σ) [] (map (sample_of σ) vs)

-- one more value
pub fold_of-push : (σ : Aggregate) (vs : List Amount) (v : Amount) → fold_of σ (vs ++ v ∷ []) ≡ record_fold (fold_of σ vs) (sample_of σ v)
fold_of-push σ vs v = ap (fold_samples (empty_of σ)) (map-append (sample_of σ) vs (v ∷ [])) ∙ folded-push (empty_of σ) (map (sample_of σ) vs) (sample_of σ v)
