-- Readers that are asked one after another.
use Rattle.std.proofs.Common.{◌≡◌, ℕ, ◌+◌, ◌<◌, zero, suc, Bool, true, false, cond, List, [], ◌∷◌, ◌++◌, length, get_or, set, map, Option, Some, None, refl, sym, subst, arith}
use Rattle.std.specs.List.{position_from}
use Rattle.otel_stream.specs.Requests.{Outcome, EachAsked}

-- the first n were asked, in order, and the others are as before
abbrev pub AskedTo : {R : Type 0} → (R → R → Outcome → Type 0) → ℕ → List R → List R → List Outcome → Type 0
AskedTo P zero before now [] = before ≡ now
AskedTo P (suc n) (a ∷ before) (b ∷ now) (r ∷ rs) = P a b r × AskedTo P n before now rs
AskedTo P _ _ _ _ = ⊥

pub asked_all : {R : Type 0} (P : R → R → Outcome → Type 0) (n : ℕ) (before now : List R) (rs : List Outcome) → length now ≡ n → AskedTo P n before now rs → EachAsked P before now rs
asked_all P zero [] [] [] e h = tt
asked_all P zero (a ∷ before) [] [] e h = absurd (nonempty h)
  where
    nonempty : a ∷ before ≡ [] → ⊥
    nonempty q = cc
asked_all P zero before (b ∷ now) rs e h = absurd (omega arith)
asked_all P zero before [] (r ∷ rs) e h = absurd h
asked_all P (suc n) [] now rs e h = absurd h
asked_all P (suc n) (a ∷ before) [] rs e h = absurd h
asked_all P (suc n) (a ∷ before) (b ∷ now) [] e h = absurd h
asked_all P (suc n) (a ∷ before) (b ∷ now) (r ∷ rs) e h = (h.0, asked_all P n before now rs (omega arith) h.1)

-- one more is asked
pub asked_more : {R : Type 0} (P : R → R → Outcome → Type 0) (n : ℕ) (before now : List R) (rs : List Outcome) (d b : R) (r : Outcome) → AskedTo P n before now rs → n < length now → P (get_or now n d) b r → AskedTo P (suc n) before (set now n b) (rs ++ r ∷ [])
asked_more P zero before [] [] d b r h lt s = absurd (omega arith)
asked_more P zero before (x ∷ now) [] d b r h lt s =
    let Q : List _ → Type 0 = λ l. AskedTo P 1 l (b ∷ now) (r ∷ []) in
    subst Q (sym h) (s, refl)
asked_more P zero before now (q ∷ rs) d b r h lt s = absurd h
asked_more P (suc n) [] now rs d b r h lt s = absurd h
asked_more P (suc n) (y ∷ before) [] rs d b r h lt s = absurd h
asked_more P (suc n) (y ∷ before) (x ∷ now) [] d b r h lt s = absurd h
asked_more P (suc n) (y ∷ before) (x ∷ now) (q ∷ rs) d b r h lt s = (h.0, asked_more P n before now rs d b r h.1 (omega arith) s)

-- what each call implies
pub asked_map : {R : Type 0} (P Q : R → R → Outcome → Type 0) → ((a b : R) (r : Outcome) → P a b r → Q a b r) → (before now : List R) (rs : List Outcome) → EachAsked P before now rs → EachAsked Q before now rs
asked_map P Q f [] [] [] h = tt
asked_map P Q f [] [] (r ∷ rs) h = absurd h
asked_map P Q f [] (b ∷ now) rs h = absurd h
asked_map P Q f (a ∷ before) [] rs h = absurd h
asked_map P Q f (a ∷ before) (b ∷ now) [] h = absurd h
asked_map P Q f (a ∷ before) (b ∷ now) (r ∷ rs) h = (f a b r h.0, asked_map P Q f before now rs h.1)

-- what each call keeps, all keep
pub asked_keeps : {R B : Type 0} (P : R → R → Outcome → Type 0) (F : R → B) → ((a b : R) (r : Outcome) → P a b r → F b ≡ F a) → (before now : List R) (rs : List Outcome) → EachAsked P before now rs → map F now ≡ map F before
asked_keeps P F f [] [] [] h = refl
asked_keeps P F f [] [] (r ∷ rs) h = absurd h
asked_keeps P F f [] (b ∷ now) rs h = absurd h
asked_keeps P F f (a ∷ before) [] rs h = absurd h
asked_keeps P F f (a ∷ before) (b ∷ now) [] h = absurd h
asked_keeps P F f (a ∷ before) (b ∷ now) (r ∷ rs) h =
    let one = f a b r h.0 in
    let more = asked_keeps P F f before now rs h.1 in
    rw (one, more) refl

-- ======== the first that failed ========
-- the first number, with one more at the end
abbrev pub or_last : Option ℕ → Bool → ℕ → Option ℕ
or_last (Some k) b n = Some k
or_last None true n = Some n
or_last None false n = None

pub position_more : {X : Type 0} (p : X → Bool) (i : ℕ) (xs : List X) (x : X) → position_from p i (xs ++ x ∷ []) ≡ or_last (position_from p i xs) (p x) (i + length xs)
position_more p i [] x = go (p x)
  where
    go : (b : Bool) → cond b (Some i) None ≡ or_last None b (i + 0)
    go true = grind arith
    go false = refl
position_more p i (y ∷ xs) x = go (p y) (position_more p (i + 1) xs x)
  where
    go : (b : Bool) → position_from p (i + 1) (xs ++ x ∷ []) ≡ or_last (position_from p (i + 1) xs) (p x) (i + 1 + length xs) → cond b (Some i) (position_from p (i + 1) (xs ++ x ∷ [])) ≡ or_last (cond b (Some i) (position_from p (i + 1) xs)) (p x) (i + suc (length xs))
    go true h = refl
    go false h = let e : i + 1 + length xs ≡ i + suc (length xs) = omega arith in rw (← e) h

pub or_last-false : (o : Option ℕ) (n : ℕ) → or_last o false n ≡ o
or_last-false (Some k) n = refl
or_last-false None n = refl
