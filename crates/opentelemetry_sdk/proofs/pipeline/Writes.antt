-- Lists in which one element after another is written.
use Rattle.std.proofs.Common.{◌≡◌, ℕ, ◌+◌, ◌<◌, List, [], ◌∷◌, length, get_or, set, map, drop, refl, arith, sym, ◌∙◌, ap, suc, zero, add-one, IfSome, slice_get, length-set, drop-cons, below_more}
use Rattle.std.proofs.lemmas.List.{length-map, map-set, set-get_or}
use Rattle.std.proofs.lemmas.List.Folds.{fold_along}
use Rattle.std.specs.Prelude.{All}
use Rattle.otel_model.specs.Machine.{changed_at}
use Rattle.opentelemetry_sdk.specs.pipeline.Pipelines.{changed_each}

-- a write that is not seen
pub seen_same : {X Y : Type 0} (v : X → Y) (xs : List X) (k : ℕ) (d x y : X) → x ≡ get_or xs k d → v y ≡ v x → map v (set xs k y) ≡ map v xs
seen_same v xs k d x y at e = map-set v xs k y ∙ ap (set (map v xs) k) (e ∙ ap v at) ∙ sym (map-set v xs k (get_or xs k d)) ∙ ap (map v) (set-get_or xs k d)

-- a write of what f makes of the element
pub set-changed : {X : Type 0} (f : X → X) (xs : List X) (k : ℕ) (x y : X) → k < length xs → x ≡ get_or xs k x → y ≡ f x → set xs k y ≡ changed_at k f xs
set-changed f [] k x y h at e = absurd (omega arith)
set-changed f (t ∷ xs) zero x y h at e = ap (λ z. z ∷ xs) (e ∙ ap f at)
set-changed f (t ∷ xs) (suc k) x y h at e = ap (λ zs. t ∷ zs) (set-changed f xs k x y (omega arith) at e)

-- ======== f at one number after another ========
module _ {X : Type 0} (f : X → X) (ns : List ℕ) where
  -- what is left of the numbers leads to what all of them lead to, and no element comes or goes
  pub record IsChangedUpto (old new : List X) (i : ℕ) : Type 0 where
    pub left : changed_each f (drop i ns) new ≡ changed_each f ns old
    pub long : length new ≡ length old

  -- one more is written
  pub changed-more : (old new : List X) (i : ℕ) (x y : X) → All (λ n. n < length old) ns → i < length ns → x ≡ get_or new (get_or ns i 0) x → y ≡ f x → IsChangedUpto old new i
      → IsChangedUpto old (set new (get_or ns i 0) y) (i + 1)
  changed-more old new i x y numbers h at e is = record {
    left = rw (add-one, set-changed f new (get_or ns i 0) x y (omega (arith, numbers i 0 h, is.long)) at e) (sym (ap (λ l. changed_each f l new) (drop-cons ns i 0 h))) ∙ is.left;
    long = omega (arith, length-set {A = X}, is.long);
  }

-- one number alone
pub changed-alone : {X : Type 0} (f : X → X) (ns : List ℕ) (xs : List X) (x y : X) → length ns ≡ 1 → All (λ n. n < length xs) ns → x ≡ get_or xs (get_or ns 0 0) x → y ≡ f x → set xs (get_or ns 0 0) y ≡ changed_each f ns xs
changed-alone f [] xs x y e all at is = absurd (omega (arith, e))
changed-alone f (n ∷ []) xs x y e all at is = set-changed f xs n x y (all 0 n (omega arith)) at is
changed-alone f (n ∷ m ∷ ns) xs x y e all at is = absurd (omega (arith, e))

-- a change that is seen as another one
module _ {X Y : Type 0} (v : X → Y) (f : X → X) (g : Y → Y) (same : (x : X) → v (f x) ≡ g (v x)) where
  seen-at : (n : ℕ) (xs : List X) → map v (changed_at n f xs) ≡ changed_at n g (map v xs)
  seen-at n [] = refl
  seen-at zero (x ∷ xs) = ap (λ y. y ∷ map v xs) (same x)
  seen-at (suc n) (x ∷ xs) = ap (λ ys. v x ∷ ys) (seen-at n xs)

  pub seen-each : (ns : List ℕ) (xs : List X) → map v (changed_each f ns xs) ≡ changed_each g ns (map v xs)
  seen-each ns xs = fold_along (λ ys n. changed_at n f ys) (λ ys n. changed_at n g ys) (λ ys zs. map v ys ≡ zs) (λ ys zs n e. seen-at n ys ∙ ap (changed_at n g) e) xs (map v xs) ns refl

-- what f leaves of an element stays
module _ {X Y : Type 0} (v : X → Y) (f : X → X) (same : (x : X) → v (f x) ≡ v x) where
  unseen-at : (n : ℕ) (xs : List X) → map v (changed_at n f xs) ≡ map v xs
  unseen-at n [] = refl
  unseen-at zero (x ∷ xs) = ap (λ y. y ∷ map v xs) (same x)
  unseen-at (suc n) (x ∷ xs) = ap (λ ys. v x ∷ ys) (unseen-at n xs)

  pub unseen-each : (ns : List ℕ) (xs : List X) → map v (changed_each f ns xs) ≡ map v xs
  unseen-each [] xs = refl
  unseen-each (n ∷ ns) xs = unseen-each ns (changed_at n f xs) ∙ unseen-at n xs

-- lists that are seen as one
pub length-seen : {X Y Z : Type 0} (v : X → Z) (w : Y → Z) (xs : List X) (ys : List Y) → map v xs ≡ map w ys → length xs ≡ length ys
length-seen v w xs ys e = sym (length-map xs v) ∙ (ap length e ∙ length-map ys w)

-- ======== what holds of elements ========
-- what holds of an element, if there is one, once it is written
module _ {X : Type 0} (P : X → Type 0) where
  there-set_same : (xs : List X) (n : ℕ) (x : X) → P x → IfSome (slice_get (set xs n x) n) P
  there-set_same [] n x r = tt
  there-set_same (t ∷ xs) zero x r = r
  there-set_same (t ∷ xs) (suc n) x r = there-set_same xs n x r

  there-set : (xs : List X) (i n : ℕ) (x : X) → P x → IfSome (slice_get xs n) P → IfSome (slice_get (set xs i x) n) P
  there-set [] i n x r h = h
  there-set (t ∷ xs) zero zero x r h = r
  there-set (t ∷ xs) zero (suc n) x r h = h
  there-set (t ∷ xs) (suc i) zero x r h = h
  there-set (t ∷ xs) (suc i) (suc n) x r h = there-set xs i n x r h

-- ======== elements that are made ready ========
-- `v` is what is seen of an element, `P` what holds of one that is ready
module _ {X Y : Type 0} (v : X → Y) (P : X → Type 0) (ns : List ℕ) where
  -- nothing is seen to change, and the elements of the first numbers are ready
  pub record IsReadyUpto (old new : List X) (i : ℕ) : Type 0 where
    pub same : map v new ≡ map v old
    pub ready : (j : ℕ) → j < i → IfSome (slice_get new (get_or ns j 0)) P

  -- one is made ready
  pub ready-more : (old new : List X) (i : ℕ) (x y : X) → x ≡ get_or new (get_or ns i 0) x → v y ≡ v x → P y → IsReadyUpto old new i → IsReadyUpto old (set new (get_or ns i 0) y) (i + 1)
  ready-more old new i x y at e is so_far = record {
    same = seen_same v new (get_or ns i 0) x x y at e ∙ so_far.same;
    ready = below_more _ _ (λ j h. there-set P new (get_or ns i 0) (get_or ns j 0) y is (so_far.ready j h)) (there-set_same P new (get_or ns i 0) y is);
  }
