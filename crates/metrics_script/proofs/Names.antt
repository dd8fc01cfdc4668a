-- Tests of the words of a list, one after the other.
use Rattle.std.proofs.Common.{◌≡◌, ◌<◌, ℕ, zero, suc, Bool, true, false, List, [], ◌∷◌, map, length, get_or, refl, arith}
use Rattle.std.specs.Prelude.{◌||◌, ◌&&◌}
use Rattle.std.specs.List.{list_any, list_all}

-- an item fails the test
pub list_all_fails : {X Y : Type 0} (test : Y → Bool) (f : X → Y) (xs : List X) (i : ℕ) (d : X) → i < length xs → test (f (get_or xs i d)) ≡ false → list_all test (map f xs) ≡ false
list_all_fails test f [] i d inside fails = absurd (omega (arith, inside))
list_all_fails test f (x ∷ xs) zero d inside fails = rw fails refl
list_all_fails test f (x ∷ xs) (suc i) d inside fails = rw (list_all_fails test f xs i d (omega (arith, inside)) fails) (and_false (test (f x)))
  where
    and_false : (b : Bool) → (b && false) ≡ false
    and_false true = refl
    and_false false = refl

-- an item passes the test
pub list_any_passes : {X Y : Type 0} (test : Y → Bool) (f : X → Y) (xs : List X) (i : ℕ) (d : X) → i < length xs → test (f (get_or xs i d)) ≡ true → list_any test (map f xs) ≡ true
list_any_passes test f [] i d inside passes = absurd (omega (arith, inside))
list_any_passes test f (x ∷ xs) zero d inside passes = rw passes refl
list_any_passes test f (x ∷ xs) (suc i) d inside passes = rw (list_any_passes test f xs i d (omega (arith, inside)) passes) (or_true (test (f x)))
  where
    or_true : (b : Bool) → (b || true) ≡ true
    or_true true = refl
    or_true false = refl
