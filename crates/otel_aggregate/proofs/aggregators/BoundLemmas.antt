-- How many of bounds that rise are below a value, and a count more in a bucket.
use Rattle.std.proofs.Common.{ℕ, zero, suc, ◌+◌, ◌<◌, ◌≤◌, ◌≡◌, ℤ, int_lt, List, [], ◌∷◌, length, Bool, true, false, cond, slice_index_or, slice_set, refl, ap, arith}
use Rattle.std.proofs.lemmas.Bool.{and_parts}
use Rattle.std.proofs.lemmas.Int.{ints}
use Rattle.std.proofs.lemmas.List.Sums.{sum_by-cons}
use Rattle.otel_model_stream.specs.Data.{rises}
use Rattle.otel_model_stream.specs.Folds.{bounds_below, counted_in, wrap}

-- ======== below a value ========
below-below : (a b c : ℤ) → int_lt a b ≡ true → int_lt b c ≡ true → int_lt a c ≡ true
below-below a b c p q = grind (arith, ints)

above-above : (a b c : ℤ) → int_lt a b ≡ true → int_lt a c ≡ false → int_lt b c ≡ false
above-above a b c p q = grind (arith, ints)

first-once : (b : Bool) → cond b 1 0 ≤ 1
first-once b = grind arith

rises-first : (a b : ℤ) (xs : List ℤ) → rises (a ∷ b ∷ xs) ≡ true → int_lt a b ≡ true
rises-first a b xs up = (and_parts (int_lt a b) (rises (b ∷ xs)) up).0

rises-rest : (a : ℤ) (xs : List ℤ) → rises (a ∷ xs) ≡ true → rises xs ≡ true
rises-rest a [] up = refl
rises-rest a (b ∷ xs) up = (and_parts (int_lt a b) (rises (b ∷ xs)) up).1

-- the first is below what a later one is below
first-below : (a : ℤ) (xs : List ℤ) (x : ℤ) → rises (a ∷ xs) ≡ true → (j : ℕ) (d : ℤ) → j < length (a ∷ xs) → int_lt (slice_index_or (a ∷ xs) j d) x ≡ true → int_lt a x ≡ true
first-below a xs x up zero d l e = e
first-below a [] x up (suc j) d l e = absurd (omega arith)
first-below a (b ∷ xs) x up (suc j) d l e = below-below a b x (rises-first a b xs up) (first-below b xs x (rises-rest a (b ∷ xs) up) j d (omega arith) e)

-- the first bound counts as 0 or 1
below-cons : (a : ℤ) (xs : List ℤ) (x : ℤ) → bounds_below (a ∷ xs) x ≡ cond (int_lt a x) 1 0 + bounds_below xs x
below-cons a xs x = sum_by-cons (λ y. cond (int_lt y x) 1 0) a xs

-- where a bound is below, so are those before it
pub below-past : (xs : List ℤ) (x : ℤ) → rises xs ≡ true → (i : ℕ) (d : ℤ) → i < length xs → int_lt (slice_index_or xs i d) x ≡ true → i < bounds_below xs x
below-past [] x up i d l e = absurd (omega arith)
below-past (a ∷ xs) x up zero d l e = rw (below-cons a xs x, e) (omega arith)
below-past (a ∷ xs) x up (suc i) d l e =
    let more : i < bounds_below xs x = below-past xs x (rises-rest a xs up) i d (omega arith) e in
    let one = first-below a xs x up (suc i) d l e in
    rw (below-cons a xs x, one) (omega (arith, more))

-- where a bound isn't below, none from it on is
pub below-until : (xs : List ℤ) (x : ℤ) → rises xs ≡ true → (i : ℕ) (d : ℤ) → i < length xs → int_lt (slice_index_or xs i d) x ≡ false → bounds_below xs x ≤ i
below-until [] x up i d l e = absurd (omega arith)
below-until (a ∷ []) x up zero d l e = rw (below-cons a [] x, e) (omega arith)
below-until (a ∷ b ∷ xs) x up zero d l e =
    let none : bounds_below (b ∷ xs) x ≤ 0 = below-until (b ∷ xs) x (rises-rest a (b ∷ xs) up) 0 d (omega arith) (above-above a b x (rises-first a b xs up) e) in
    rw (below-cons a (b ∷ xs) x, e) (omega (arith, none))
below-until (a ∷ xs) x up (suc i) d l e =
    let fewer : bounds_below xs x ≤ i = below-until xs x (rises-rest a xs up) i d (omega arith) e in
    rw below-cons (omega (arith, fewer, first-once (int_lt a x)))

-- ======== one more in a bucket ========
pub counted_set : (ns : List ℕ) (i : ℕ) → i < length ns → slice_set ns i (wrap (slice_index_or ns i 0 + 1)) ≡ counted_in ns i
counted_set [] i l = refl
counted_set (n ∷ ns) zero l = refl
counted_set (n ∷ ns) (suc i) l = ap (λ ms. n ∷ ms) (counted_set ns i (omega arith))

-- a bucket that isn't there
pub counted_beyond : (ns : List ℕ) (i : ℕ) → length ns ≤ i → ns ≡ counted_in ns i
counted_beyond [] i l = refl
counted_beyond (n ∷ ns) zero l = absurd (omega arith)
counted_beyond (n ∷ ns) (suc i) l = ap (λ ms. n ∷ ms) (counted_beyond ns i (omega arith))
