-- Numbers of which none occurs twice.
use Rattle.std.proofs.Common.{◌≡◌, ℕ, zero, suc, ◌+◌, ◌<◌, ◌==◌, Bool, true, false, cond, ◌||◌, List, [], ◌∷◌, ◌++◌, length, get_or, Some, slice_get, refl, sym, ◌∙◌, ap, arith, eq-eqb, ne_eqb, true≢false}
use Rattle.std.proofs.lemmas.Bool.{or_parts, or_right}
use Rattle.std.specs.List.{AllByRecursion}
use Rattle.otel_model_stream.specs.Totals.{has_number}
use Rattle.otel_model.specs.Calls.{or_else}
use Rattle.otel_model.specs.Machine.{changed_at}
use Rattle.opentelemetry_sdk.specs.pipeline.Pipelines.{AreFedOnce, changed_each}

-- ======== one number more ========
absent-push : (ns : List ℕ) (m n : ℕ) → has_number m ns ≡ false → (n == m) ≡ false → has_number m (ns ++ n ∷ []) ≡ false
absent-push [] m n h e = ap (λ b. b || false) e
absent-push (k ∷ ns) m n h e = let p = or_parts (k == m) (has_number m ns) h in λ i. p.0 i || absent-push ns m n p.1 e i

pub once-push : (ns : List ℕ) (n : ℕ) → AreFedOnce ns → has_number n ns ≡ false → AreFedOnce (ns ++ n ∷ [])
once-push [] n once new = (refl, tt)
once-push (m ∷ ns) n once new =
    let p = or_parts (m == n) (has_number n ns) new in
    (absent-push ns m n once.0 (ne_eqb n m (λ q. true≢false (sym (eq-eqb m n (sym q)) ∙ p.0))), once-push ns n once.1 p.1)

-- ======== what instruments feed ========
pub number-there : (ns : List ℕ) (i d : ℕ) → i < length ns → has_number (get_or ns i d) ns ≡ true
number-there [] i d h = absurd (omega arith)
number-there (n ∷ ns) zero d h = ap (λ b. b || has_number n ns) (eq-eqb n n refl)
number-there (n ∷ ns) (suc i) d h = or_right (n == get_or ns i d) (has_number (get_or ns i d) ns) (number-there ns i d (omega arith))

pub fed-once : (feeds : List (List ℕ)) (n : ℕ) → AllByRecursion AreFedOnce feeds → AreFedOnce (or_else (slice_get feeds n) [])
fed-once [] n all = tt
fed-once (ns ∷ feeds) zero all = all.0
fed-once (ns ∷ feeds) (suc n) all = fed-once feeds n all.1

-- ======== f at each number ========
-- the elements, with what f makes of each and its number; the first has number i
abbrev numbered : {X : Type 0} → (ℕ → X → X) → ℕ → List X → List X
numbered f i [] = []
numbered f i (x ∷ xs) = f i x ∷ numbered f (suc i) xs

-- f, if the number is among these
abbrev if_among : {X : Type 0} → List ℕ → (X → X) → ℕ → X → X
if_among ns f i x = cond (has_number i ns) (f x) x

-- the elements, with f applied to those with these numbers; the first has number i
abbrev pub changed_in : {X : Type 0} → List ℕ → (X → X) → ℕ → List X → List X
changed_in ns f i xs = numbered (if_among ns f) i xs

module _ {X : Type 0} (f : X → X) where
  mapped-none : (i : ℕ) (xs : List X) → changed_in [] f i xs ≡ xs
  mapped-none i [] = refl
  mapped-none i (x ∷ xs) = ap (λ t. x ∷ t) (mapped-none (suc i) xs)

  -- a number below all of these names none
  mapped-unseen : (n : ℕ) (ns : List ℕ) (i : ℕ) (xs : List X) → n < i → changed_in (n ∷ ns) f i xs ≡ changed_in ns f i xs
  mapped-unseen n ns i [] h = refl
  mapped-unseen n ns i (x ∷ xs) h = λ j. cond (ne_eqb n i (λ e. omega arith) j || has_number i ns) (f x) x ∷ mapped-unseen n ns (suc i) xs (omega arith) j

  -- a number that doesn't occur again is f at its element
  mapped-once : (ns : List ℕ) (k i n : ℕ) (xs : List X) → n ≡ i + k → has_number n ns ≡ false → changed_in ns f i (changed_at k f xs) ≡ changed_in (n ∷ ns) f i xs
  mapped-once ns k i n [] e new = refl
  mapped-once ns zero i n (x ∷ xs) e new =
      let same : n ≡ i = omega arith in
      let here : (n == i) ≡ true = eq-eqb n i same in
      let away : has_number i ns ≡ false = ap (λ m. has_number m ns) (sym same) ∙ new in
      λ j. (ap (λ b. cond b (f (f x)) (f x)) away ∙ ap (λ b. cond (b || has_number i ns) (f x) x) (sym here)) j ∷ sym (mapped-unseen n ns (suc i) xs (omega arith)) j
  mapped-once ns (suc k) i n (x ∷ xs) e new =
      λ j. cond (sym (ne_eqb n i (λ q. omega arith)) j || has_number i ns) (f x) x ∷ mapped-once ns k (suc i) n xs (omega arith) new j

  -- f at one number after another
  pub fold-once : (ns : List ℕ) (xs : List X) → AreFedOnce ns → changed_each f ns xs ≡ changed_in ns f 0 xs
  fold-once [] xs once = sym (mapped-none 0 xs)
  fold-once (n ∷ ns) xs once = fold-once ns (changed_at n f xs) once.1 ∙ mapped-once ns n 0 n xs (omega arith) once.0

-- ======== one change after another ========
module _ {X : Type 0} where
  numbered-twice : (a b : ℕ → X → X) (i : ℕ) (xs : List X) → numbered b i (numbered a i xs) ≡ numbered (λ j x. b j (a j x)) i xs
  numbered-twice a b i [] = refl
  numbered-twice a b i (x ∷ xs) = ap (λ ys. b i (a i x) ∷ ys) (numbered-twice a b (suc i) xs)

  -- what is the same of each element and its number
  numbered-same : (a b : ℕ → X → X) (i : ℕ) (xs : List X) → ((j m : ℕ) (x : X) → slice_get xs j ≡ Some x → m ≡ i + j → a m x ≡ b m x) → numbered a i xs ≡ numbered b i xs
  numbered-same a b i [] all = refl
  numbered-same a b i (x ∷ xs) all = λ k. all 0 i x refl (omega arith) k ∷ numbered-same a b (suc i) xs (λ j m y at e. all (suc j) m y at (omega arith)) k

  changed-then : (f g : X → X) (ns ms : List ℕ) (xs : List X) → AreFedOnce ns → AreFedOnce ms → changed_each g ms (changed_each f ns xs) ≡ numbered (λ j x. if_among ms g j (if_among ns f j x)) 0 xs
  changed-then f g ns ms xs once also = ap (changed_each g ms) (fold-once f ns xs once) ∙ fold-once g ms (changed_in ns f 0 xs) also ∙ numbered-twice (if_among ns f) (if_among ms g) 0 xs

  -- f and then g, where that is h
  pub changed-twice : (f g h : X → X) (ns : List ℕ) (xs : List X) → AreFedOnce ns → ((j : ℕ) (x : X) → slice_get xs j ≡ Some x → has_number j ns ≡ true → g (f x) ≡ h x) → changed_each g ns (changed_each f ns xs) ≡ changed_each h ns xs
  changed-twice f g h ns xs once all =
      changed-then f g ns ns xs once once
      ∙ numbered-same _ _ 0 xs (λ j m x at e. by x (has_number m ns) (λ t. all j x at (ap (λ k. has_number k ns) (omega arith) ∙ t)))
      ∙ sym (fold-once h ns xs once)
    where
      by : (x : X) (b : Bool) → (b ≡ true → g (f x) ≡ h x) → cond b (g (cond b (f x) x)) (cond b (f x) x) ≡ cond b (h x) x
      by x true e = e refl
      by x false e = refl

  -- changes that commute where both are made
  pub changed-swapped : (f g : X → X) (ns ms : List ℕ) (xs : List X) → AreFedOnce ns → AreFedOnce ms → ((j : ℕ) (x : X) → slice_get xs j ≡ Some x → has_number j ns ≡ true → g (f x) ≡ f (g x))
      → changed_each g ms (changed_each f ns xs) ≡ changed_each f ns (changed_each g ms xs)
  changed-swapped f g ns ms xs once also all =
      changed-then f g ns ms xs once also
      ∙ numbered-same _ _ 0 xs (λ j m x at e. by x (has_number m ns) (has_number m ms) (λ t. all j x at (ap (λ k. has_number k ns) (omega arith) ∙ t)))
      ∙ sym (changed-then g f ms ns xs also once)
    where
      by : (x : X) (b c : Bool) → (b ≡ true → g (f x) ≡ f (g x)) → cond c (g (cond b (f x) x)) (cond b (f x) x) ≡ cond b (f (cond c (g x) x)) (cond c (g x) x)
      by x true true e = e refl
      by x true false e = refl
      by x false true e = refl
      by x false false e = refl
