-- Lists whose items are paired up.
use Rattle.std.proofs.Common.{◌≡◌, ◌<◌, ℕ, zero, suc, List, [], ◌∷◌, length, get_or, arith}
use Rattle.std.specs.List.{AllZip}

-- an item that nothing goes with is in no list that is paired up
pub unpaired : {A B : Type 0} (R : A → B → Type 0) (xs : List A) (ys : List B) (k : ℕ) (x : A) → k < length xs → x ≡ get_or xs k x → ((y : B) → ¬ R x y) → ¬ AllZip R xs ys
unpaired R [] ys k x inside is none all = absurd (omega (arith, inside))
unpaired R (z ∷ xs) [] k x inside is none all = all
unpaired R (z ∷ xs) (y ∷ ys) zero x inside is none all = none y (rw is all.0)
unpaired R (z ∷ xs) (y ∷ ys) (suc k) x inside is none all = unpaired R xs ys k x (omega (arith, inside)) is none all.1
