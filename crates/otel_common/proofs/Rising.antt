-- Bounds that rise, and what a test of all neighbours says of them.
use Rattle.std.proofs.Common.{ℕ, zero, suc, ◌+◌, ◌<◌, ◌≡◌, ℤ, int_lt, List, [], ◌∷◌, length, Bool, true, false, ◌&&◌, slice_index_or, refl, ap, subst, arith, sym, ◌∙◌}
use Rattle.std.specs.List.{IsAllAdjacentAnswer, AllAdjacentBelow}
use Rattle.otel_common.specs.Aggregations.{rises}

all_rise : (xs : List ℤ) → AllAdjacentBelow (λ x y. true ≡ int_lt x y) xs (length xs) → rises xs ≡ true
all_rise [] h = refl
all_rise (a ∷ []) h = refl
all_rise (a ∷ b ∷ xs) h = ap (λ t. t && rises (b ∷ xs)) (sym (h 0 a (omega arith))) ∙ all_rise (b ∷ xs) (λ k d l. next k d (h (suc k) d (omega arith)))
  where
    next : (k : ℕ) (d : ℤ) → true ≡ int_lt (slice_index_or (a ∷ b ∷ xs) (suc k) d) (slice_index_or (a ∷ b ∷ xs) (suc k + 1) d) → true ≡ int_lt (slice_index_or (b ∷ xs) k d) (slice_index_or (b ∷ xs) (k + 1) d)
    next k d e = let on : suc k + 1 ≡ suc (k + 1) = omega arith in subst (λ m. true ≡ int_lt (slice_index_or (b ∷ xs) k d) (slice_index_or (a ∷ b ∷ xs) m d)) on e

one_falls : (xs : List ℤ) (k : ℕ) → k + 1 < length xs → ((d : ℤ) → false ≡ int_lt (slice_index_or xs k d) (slice_index_or xs (k + 1) d)) → rises xs ≡ false
one_falls [] k l h = absurd (omega arith)
one_falls (a ∷ []) k l h = absurd (omega arith)
one_falls (a ∷ b ∷ xs) zero l h = ap (λ t. t && rises (b ∷ xs)) (sym (h a))
one_falls (a ∷ b ∷ xs) (suc k) l h = by (int_lt a b) (one_falls (b ∷ xs) k (omega arith) (λ d. next d (h d)))
  where
    by : (t : Bool) → rises (b ∷ xs) ≡ false → (t && rises (b ∷ xs)) ≡ false
    by true e = e
    by false e = refl

    next : (d : ℤ) → false ≡ int_lt (slice_index_or (a ∷ b ∷ xs) (suc k) d) (slice_index_or (a ∷ b ∷ xs) (suc k + 1) d) → false ≡ int_lt (slice_index_or (b ∷ xs) k d) (slice_index_or (b ∷ xs) (k + 1) d)
    next d e = let on : suc k + 1 ≡ suc (k + 1) = omega arith in subst (λ m. false ≡ int_lt (slice_index_or (b ∷ xs) k d) (slice_index_or (a ∷ b ∷ xs) m d)) on e

-- what a test of all neighbours answers
pub rises-tested : (xs : List ℤ) (r : Bool) → IsAllAdjacentAnswer (λ x y b. b ≡ int_lt x y) xs r → r ≡ rises xs
rises-tested xs true h = sym (all_rise xs h)
rises-tested xs false h = sym (one_falls xs h.0 h.1 h.2)
