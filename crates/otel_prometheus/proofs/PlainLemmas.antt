-- From the masks of a vector to bytes that need no escape.
use Rattle.std.proofs.Common.{◌≡◌, ℕ, suc, ◌+◌, ◌%◌, ◌^◌, ◌<◌, ◌≤◌, ◌==◌, ◌||◌, ◌&&◌, Bool, true, false, cond, List, [], ◌∷◌, ◌++◌, length, map, replicate, get_or, w8, refl, sym, ◌∙◌, arith}
use Rattle.std.proofs.lemmas.Bool.{eqb-true}
use Rattle.std.proofs.lemmas.Simd.{length-chunk, bitmask_splat, none_from_empty_mask}
use Rattle.std.specs.Bool.{OnTrue}
use lib.Lanes.{chunk, mask_l, zip2, top}
use Rattle.otel_prometheus.specs.Plain.{PlainBetween}
use Rattle.otel_prometheus.specs.Samples.{escaped_byte, escaped}
use Rattle.otel_prometheus.proofs.EscapeLemmas.{plain_byte}

-- the mask of the bytes of a vector that are this one
abbrev mask : List ℕ → ℕ → ℕ → ℕ → ℕ
mask d i n y = mask_l (map (top 7) (zip2 (λ a b. cond (a == b) 255 0) (chunk i n d) (replicate n y))) % 2 ^ 64

-- with an empty mask no byte is this one
none_is : (d : List ℕ) (i n y : ℕ) → i + n ≤ length d → n ≤ 64 → mask d i n y ≡ 0 → (k : ℕ) → i ≤ k → k < i + n → (get_or d k 0 == y) ≡ false
none_is d i n y room few e =
    none_from_empty_mask (λ x. x == y) d i n 0 room (sym (bitmask_splat w8 (λ a b. a == b) (chunk i n d) n y (length-chunk i n d room) few) ∙ e)

all_none : (a b c : Bool) (P : Type 0) → (a ≡ true → b ≡ true → c ≡ true → P) → OnTrue ((a && b) && c) P
all_none true true true P f = f refl refl refl
all_none false b c P f = tt
all_none true false c P f = tt
all_none true true false P f = tt

none_of : (x y z : Bool) → x ≡ false → y ≡ false → z ≡ false → ((x || y) || z) ≡ false
none_of x y z e f g = (λ i. (e i || f i) || g i)

-- the three tests of a vector of n bytes
pub plain_from_lanes : (d : List ℕ) (i n : ℕ) → i + n ≤ length d → n ≤ 64 → OnTrue (((mask d i n 92 == 0) && (mask d i n 34 == 0)) && (mask d i n 10 == 0)) (PlainBetween d i (i + n))
plain_from_lanes d i n room few =
    all_none (mask d i n 92 == 0) (mask d i n 34 == 0) (mask d i n 10 == 0) _
    (λ e f g k p q.
    none_of (get_or d k 0 == 92) (get_or d k 0 == 34) (get_or d k 0 == 10)
    (none_is d i n 92 room few (eqb-true _ 0 e) k p q) (none_is d i n 34 room few (eqb-true _ 0 f) k p q) (none_is d i n 10 room few (eqb-true _ 0 g) k p q))

escaped_plain : (d : List ℕ) → PlainBetween d 0 (length d) → escaped d ≡ d
escaped_plain [] h = refl
escaped_plain (x ∷ xs) h =
    let first : escaped_byte x ≡ x ∷ [] = plain_byte x (h 0 (omega arith) (omega arith)) in
    let rest : escaped xs ≡ xs = escaped_plain xs (λ k p q. h (suc k) (omega arith) (omega (arith, q))) in
    λ i. first i ++ rest i

pub on_plain : (b : Bool) (d : List ℕ) → OnTrue b (PlainBetween d 0 (length d)) → OnTrue b (escaped d ≡ d)
on_plain true d h = escaped_plain d h
on_plain false d h = tt
