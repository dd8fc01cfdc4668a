-- Lists whose elements are changed one after another.
use Rattle.std.proofs.Common.{◌≡◌, ℕ, suc, ◌<◌, ◌≤◌, List, [], ◌∷◌, map, length, get_or, set, length-set, below_more, refl, ap, ◌+◌, ◌∙◌, arith}
use Rattle.std.proofs.lemmas.List.{get_or-set_other, get_or-set_same}

-- `seen` is what is seen of an element, `g` what is to be seen of it afterwards
module _ {X Y : Type 0} (seen g : X → Y) where
  -- the first i elements are seen as g says, and the others are as they were
  pub record IsDoneUpto (old new : List X) (i : ℕ) : Type 0 where
    pub long : length new ≡ length old
    pub done : (k : ℕ) → k < i → (d : X) → seen (get_or new k d) ≡ g (get_or old k d)
    pub rest : (k : ℕ) → i ≤ k → (d : X) → get_or new k d ≡ get_or old k d

  -- one element more
  pub done-more : (old new : List X) (i : ℕ) (y : X) → i < length new → ((d : X) → seen y ≡ g (get_or old i d)) → IsDoneUpto old new i → IsDoneUpto old (set new i y) (i + 1)
  done-more old new i y inside made so_far = record {
    long = omega (arith, length-set {A = X}, so_far.long);
    done = below_more _ _ (λ k h d. ap seen (get_or-set_other new i k y d (omega arith)) ∙ so_far.done k h d) (λ d. ap seen (get_or-set_same new i y d inside) ∙ made d);
    rest = λ k h d. get_or-set_other new i k y d (omega arith) ∙ so_far.rest k (omega arith) d;
  }

  agree : (old new : List X) → length new ≡ length old → ((k : ℕ) → k < length old → (d : X) → seen (get_or new k d) ≡ g (get_or old k d)) → map seen new ≡ map g old
  agree [] [] e h = refl
  agree [] (q ∷ new) e h = absurd (omega arith)
  agree (p ∷ old) [] e h = absurd (omega arith)
  agree (p ∷ old) (q ∷ new) e h = λ i. h 0 (omega arith) p i ∷ agree old new (omega arith) (λ k l d. h (suc k) (omega arith) d) i

  -- all elements
  pub done-all : (old new : List X) (i : ℕ) → length old ≤ i → IsDoneUpto old new i → map seen new ≡ map g old
  done-all old new i h done = agree old new done.long (λ k l d. done.done k (omega arith) d)
