-- Numbers read from bytes are equal where the bytes are, and equal parts that cover two lists make them equal.
use Rattle.std.proofs.Common.{◌≡◌, ◌==◌, ℕ, ◌+◌, ◌<◌, ◌≤◌, Decides, List, ◌++◌, length, get_or, take, drop, sym, ◌∙◌, ap, subst, arith, inl, inr, length-take, length-drop}
use Rattle.std.proofs.lemmas.Bool.Decides.{Decides-eqb, leb_tells}
use Rattle.std.proofs.lemmas.List.{get_or-drop, get_or-take, get_or_past, length-take-le}
use Rattle.std.proofs.lemmas.Nat.{le_bytes_4, le_bytes_8}
use Rattle.std.proofs.Math.Seq.{take-add, take-length, take-take}
use Rattle.std.specs.Int.{Width, w32, w64, from_le_bytes, to_le_bytes}

abbrev pub AreBytes : List ℕ → Type 0
AreBytes xs = (i : ℕ) → get_or xs i 0 < 256

AreBytes-part : (n m : ℕ) (xs : List ℕ) → AreBytes xs → AreBytes (take m (drop n xs))
AreBytes-part n m xs h i =
    elim (leb_tells m i) [
      | inl past ↦ rw (get_or_past (take m (drop n xs)) i 0 (omega (arith, length-take m (drop n xs)))) (omega arith)
      | inr within ↦ rw (get_or-take m (drop n xs) i 0 within.1, get_or-drop n xs i 0) (h (n + i))
    ]

length-part : (n m : ℕ) (xs : List ℕ) → n + m ≤ length xs → length (take m (drop n xs)) ≡ m
length-part n m xs h = length-take-le m (drop n xs) (omega (arith, length-drop n xs))

-- numbers read from n bytes at one place are equal where the bytes are
part_tells : (n : ℕ) (width : Width) (xs ys : List ℕ) (at v w : ℕ) → ((bs : List ℕ) (x : ℕ) → length bs ≡ n → AreBytes bs → x ≡ from_le_bytes width bs → to_le_bytes width x ≡ bs) → AreBytes xs → AreBytes ys → at + n ≤ length xs → at + n ≤ length ys → v ≡ from_le_bytes width (take n (drop at xs)) → w ≡ from_le_bytes width (take n (drop at ys)) → Decides (v == w) (take n (drop at xs) ≡ take n (drop at ys))
part_tells n width xs ys at v w back f g h k e d =
    let first = back (take n (drop at xs)) v (length-part at n xs h) (AreBytes-part at n xs f) e in
    let second = back (take n (drop at ys)) w (length-part at n ys k) (AreBytes-part at n ys g) d in (
      λ t. sym first ∙ ap (to_le_bytes width) ((Decides-eqb v w).0 t) ∙ second,
      λ s. (Decides-eqb v w).1 (e ∙ ap (from_le_bytes width) s ∙ sym d),
    )

pub word_tells : (xs ys : List ℕ) (at v w : ℕ) → AreBytes xs → AreBytes ys → at + 8 ≤ length xs → at + 8 ≤ length ys → v ≡ from_le_bytes w64 (take 8 (drop at xs)) → w ≡ from_le_bytes w64 (take 8 (drop at ys)) → Decides (v == w) (take 8 (drop at xs) ≡ take 8 (drop at ys))
word_tells xs ys at v w = part_tells 8 w64 xs ys at v w le_bytes_8

pub half_tells : (xs ys : List ℕ) (at v w : ℕ) → AreBytes xs → AreBytes ys → at + 4 ≤ length xs → at + 4 ≤ length ys → v ≡ from_le_bytes w32 (take 4 (drop at xs)) → w ≡ from_le_bytes w32 (take 4 (drop at ys)) → Decides (v == w) (take 4 (drop at xs) ≡ take 4 (drop at ys))
half_tells xs ys at v w = part_tells 4 w32 xs ys at v w le_bytes_4

-- equal parts, one after another or overlapping, make equal lists
pub joined : (n m : ℕ) (xs ys : List ℕ) → take n xs ≡ take n ys → take m (drop n xs) ≡ take m (drop n ys) → take (n + m) xs ≡ take (n + m) ys
joined n m xs ys e d = take-add n m xs ∙ (λ i. e i ++ d i) ∙ sym (take-add n m ys)

pub covered : (k n m : ℕ) (xs ys : List ℕ) → k ≤ n → k + m ≡ length xs → length xs ≡ length ys → take n xs ≡ take n ys → take m (drop k xs) ≡ take m (drop k ys) → xs ≡ ys
covered k n m xs ys h whole long e d =
    let shorter : take k xs ≡ take k ys = sym (take-take k n xs h) ∙ ap (take k) e ∙ take-take k n ys h in
    sym (take-length xs)
    ∙ subst (λ l. take l xs ≡ take l ys) whole (joined k m xs ys shorter d)
    ∙ ap (λ l. take l ys) long
    ∙ take-length ys
