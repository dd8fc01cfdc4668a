-- Sums by recursion, modulo 2^64.
use Rattle.std.proofs.Common.{◌≡◌, ℕ, ◌+◌, Bool, true, false, List, [], ◌∷◌, ◌++◌, map, refl, arith, sym, ◌∙◌, ap, cond}
use Rattle.std.specs.Prelude.{◌^◌, filter, sum_by}
use Rattle.std.proofs.lemmas.List.Sums.{sum_by-cons}
use Rattle.std.proofs.Math.Nat.{mod-add-mod, add-mod-mod}
use Rattle.otel_model_stream.specs.Folds.{wrap}
use Rattle.otel_model.specs.Lawful.{EachOf}
use Rattle.otel_model.proofs.Plus.{zero_plus, grouped}

abbrev pub total : {X : Type 0} → (X → ℕ) → List X → ℕ
total f [] = 0
total f (x ∷ xs) = f x + total f xs

pub sum_is : {X : Type 0} (f : X → ℕ) (xs : List X) → sum_by f xs ≡ total f xs
sum_is f [] = refl
sum_is f (x ∷ xs) = sum_by-cons f x xs ∙ ap (λ n. f x + n) (sum_is f xs)

pub each_all : {X : Type 0} (P : X → Type 0) → ((x : X) → P x) → (xs : List X) → EachOf P xs
each_all P e [] = tt
each_all P e (x ∷ xs) = (e x, each_all P e xs)

-- ======== by parts ========
pub total_append : {X : Type 0} (f : X → ℕ) (xs ys : List X) → total f (xs ++ ys) ≡ total f xs + total f ys
total_append f [] ys = sym (zero_plus (total f ys))
total_append f (x ∷ xs) ys = ap (λ n. f x + n) (total_append f xs ys) ∙ grouped (f x) (total f xs) (total f ys)

pub total_map : {X Y : Type 0} (f : Y → ℕ) (g : X → Y) (xs : List X) → total f (map g xs) ≡ total (λ x. f (g x)) xs
total_map f g [] = refl
total_map f g (x ∷ xs) = ap (λ n. f (g x) + n) (total_map f g xs)

pub total_filter : {X : Type 0} (f : X → ℕ) (p : X → Bool) (xs : List X) → total f (filter p xs) ≡ total (λ x. cond (p x) (f x) 0) xs
total_filter f p [] = refl
total_filter f p (x ∷ xs) = go (p x) (total_filter f p xs)
  where
    go : (b : Bool) → total f (filter p xs) ≡ total (λ x. cond (p x) (f x) 0) xs
        → total f (cond b (x ∷ filter p xs) (filter p xs)) ≡ cond b (f x) 0 + total (λ x. cond (p x) (f x) 0) xs
    go true e = ap (λ n. f x + n) e
    go false e = e ∙ sym (zero_plus (total (λ x. cond (p x) (f x) 0) xs))

-- ======== element by element ========
pub total_same : {X : Type 0} (f g : X → ℕ) (xs : List X) → ((x : X) → f x ≡ g x) → total f xs ≡ total g xs
total_same f g [] e = refl
total_same f g (x ∷ xs) e = λ i. e x i + total_same f g xs e i

pub total_each : {X : Type 0} (f g : X → ℕ) (xs : List X) → EachOf (λ x. f x ≡ g x) xs → total f xs ≡ total g xs
total_each f g [] e = refl
total_each f g (x ∷ xs) e = λ i. e.0 i + total_each f g xs e.1 i

pub total_none : {X : Type 0} (f : X → ℕ) (xs : List X) → EachOf (λ x. f x ≡ 0) xs → total f xs ≡ 0
total_none f [] e = refl
total_none f (x ∷ xs) e = (λ i. e.0 i + total_none f xs e.1 i) ∙ zero_plus 0

two_and_two : (a b c d : ℕ) → (a + b) + (c + d) ≡ (a + c) + (b + d)
two_and_two a b c d = omega arith

pub total_plus : {X : Type 0} (f g : X → ℕ) (xs : List X) → total (λ x. f x + g x) xs ≡ total f xs + total g xs
total_plus f g [] = sym (zero_plus 0)
total_plus f g (x ∷ xs) = ap (λ n. (f x + g x) + n) (total_plus f g xs) ∙ two_and_two (f x) (g x) (total f xs) (total g xs)

zeros : {X : Type 0} (xs : List X) → 0 ≡ total (λ x. 0) xs
zeros [] = refl
zeros (x ∷ xs) = zeros xs ∙ sym (zero_plus (total (λ x. 0) xs))

-- rows first or columns first
pub total_swap : {X Y : Type 0} (f : X → Y → ℕ) (xs : List X) (ys : List Y) → total (λ x. total (f x) ys) xs ≡ total (λ y. total (λ x. f x y) xs) ys
total_swap f [] ys = zeros ys
total_swap f (x ∷ xs) ys = ap (λ n. total (f x) ys + n) (total_swap f xs ys) ∙ sym (total_plus (f x) (λ y. total (λ x. f x y) xs) ys)

-- ======== modulo 2^64 ========
pub wrap_plus : (a b c d : ℕ) → wrap a ≡ wrap b → wrap c ≡ wrap d → wrap (a + c) ≡ wrap (b + d)
wrap_plus a b c d e f =
    sym (mod-add-mod a (2 ^ 64) c)
    ∙ (ap (λ n. wrap (n + c)) e
    ∙ (mod-add-mod b (2 ^ 64) c
    ∙ (sym (add-mod-mod b c (2 ^ 64)) ∙ (ap (λ n. wrap (b + n)) f ∙ add-mod-mod b d (2 ^ 64)))))

pub total_wrapped : {X : Type 0} (f g : X → ℕ) (xs : List X) → EachOf (λ x. wrap (f x) ≡ wrap (g x)) xs → wrap (total f xs) ≡ wrap (total g xs)
total_wrapped f g [] e = refl
total_wrapped f g (x ∷ xs) e = wrap_plus (f x) (g x) (total f xs) (total g xs) e.0 (total_wrapped f g xs e.1)
