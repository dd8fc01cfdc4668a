-- What holds of each element of a list.
use Rattle.std.proofs.Common.{◌≡◌, Bool, true, false, cond, List, [], ◌∷◌, ◌++◌, Some, map, filter, ap, subst, refl}
use Rattle.std.specs.List.{AllByRecursion, IsDistinct}
use Rattle.std.specs.Map.{lookup}
use Rattle.std.proofs.lemmas.Bool.{cond_both}

-- also if it is changed or follows from what holds
pub all-map : {X Y : Type 0} (P : X → Type 0) (Q : Y → Type 0) (f : X → Y) → ((x : X) → P x → Q (f x)) → (xs : List X) → AllByRecursion P xs → AllByRecursion Q (map f xs)
all-map P Q f one [] h = tt
all-map P Q f one (x ∷ xs) h = (one x h.0, all-map P Q f one xs h.1)

pub all-each : {X : Type 0} (P Q : X → Type 0) → ((x : X) → P x → Q x) → (xs : List X) → AllByRecursion P xs → AllByRecursion Q xs
all-each P Q one [] h = tt
all-each P Q one (x ∷ xs) h = (one x h.0, all-each P Q one xs h.1)

pub all-append : {X : Type 0} (P : X → Type 0) (xs ys : List X) → AllByRecursion P xs → AllByRecursion P ys → AllByRecursion P (xs ++ ys)
all-append P [] ys h k = k
all-append P (x ∷ xs) ys h k = (h.0, all-append P xs ys h.1 k)

-- of those that pass a test, where it follows from what holds and from passing
pub all-passing : {X : Type 0} (P Q : X → Type 0) (test : X → Bool) → ((x : X) → test x ≡ true → P x → Q x) → (xs : List X) → AllByRecursion P xs → AllByRecursion Q (filter test xs)
all-passing P Q test one [] h = tt
all-passing P Q test one (x ∷ xs) h =
    let rest = all-passing P Q test one xs h.1 in
    cond_both (test x) (x ∷ filter test xs) (filter test xs) (AllByRecursion Q) (λ q. (one x q h.0, rest)) (λ q. rest)

pub all-filter : {X : Type 0} (P : X → Type 0) (test : X → Bool) (xs : List X) → AllByRecursion P xs → AllByRecursion P (filter test xs)
all-filter P test xs h = all-passing P P test (λ x q p. p) xs h

-- of what the elements have, without some of them
pub all-left : {X Y : Type 0} (P : Y → Type 0) (f : X → Y) (test : X → Bool) (xs : List X) → AllByRecursion P (map f xs) → AllByRecursion P (map f (filter test xs))
all-left P f test [] h = tt
all-left P f test (x ∷ xs) h =
    let rest = all-left P f test xs h.1 in
    cond_both (test x) (x ∷ filter test xs) (filter test xs) (λ l. AllByRecursion P (map f l)) (λ q. (h.0, rest)) (λ q. rest)

pub distinct-left : {X Y : Type 0} (eq : Y → Y → Bool) (f : X → Y) (test : X → Bool) (xs : List X) → IsDistinct eq (map f xs) → IsDistinct eq (map f (filter test xs))
unfolding IsDistinct
distinct-left eq f test [] h = tt
distinct-left eq f test (x ∷ xs) h =
    let rest = distinct-left eq f test xs h.1 in
    cond_both (test x) (x ∷ filter test xs) (filter test xs) (λ l. IsDistinct eq (map f l)) (λ q. (all-left (λ y. eq (f x) y ≡ false) f test xs h.0, rest)) (λ q. rest)

-- of the entry that is found
pub all-found : {K X : Type 0} (P : K × X → Type 0) (test : K → Bool) (es : List (K × X)) (v : X) → lookup test es ≡ Some v → AllByRecursion P es → (k : K) × (test k ≡ true) × P (k, v)
all-found P test [] v e h = absurd (cc)
all-found P test (x ∷ es) v e h = by (test x.0) refl e (λ r. all-found P test es v r h.1)
  where
    by : (b : Bool) → test x.0 ≡ b → cond b (Some x.1) (lookup test es) ≡ Some v → (lookup test es ≡ Some v → (k : _) × (test k ≡ true) × P (k, v)) → (k : _) × (test k ≡ true) × P (k, v)
    by true q r ih = let k : x.1 ≡ v = cc in (x.0, q, subst (λ u. P (x.0, u)) k h.0)
    by false q r ih = ih r

-- what passes, of what the elements have
pub filter-map : {X Y : Type 0} (f : X → Y) (test : Y → Bool) (xs : List X) → filter test (map f xs) ≡ map f (filter (λ x. test (f x)) xs)
filter-map f test [] = refl
filter-map f test (x ∷ xs) =
    elim (test (f x)) as (λ b. cond b (f x ∷ filter test (map f xs)) (filter test (map f xs)) ≡ map f (cond b (x ∷ filter (λ x. test (f x)) xs) (filter (λ x. test (f x)) xs))) [
      | true ↦ ap (λ ys. f x ∷ ys) (filter-map f test xs)
      | false ↦ filter-map f test xs
    ]
