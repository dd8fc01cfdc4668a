-- Records made one by one, against places first and the writes of each series together afterwards. Of the places and
-- the writes only their laws are known.
use Rattle.std.proofs.Common.{◌≡◌, ⊎_elim, ℕ, nat_eq, Bool, true, false, List, [], ◌∷◌, ◌++◌, map, fold, cond, ◌||◌, refl, sym, ap, ◌∙◌, subst}
use Rattle.std.specs.Prelude.{◌==◌, filter}
use Rattle.std.specs.List.{AllByRecursion as EachOf}
use Rattle.std.proofs.lemmas.Bool.{eqb-true, eq-eqb, true≢false, false≢true, false_from_ne_true, or_cases, or_left, or_right, or_parts}
use Rattle.otel_model_stream.specs.Totals.{has_number}
use Rattle.otel_model.specs.Batches.{firsts, occurs, lasts_of, values_of, values_each}

-- for each series one change after another
abbrev pub places : {X : Type 0} → (ℕ → X → X) → List ℕ → X → X
places place ns x = fold (λ x n. place n x) x ns

-- for each record a place, and then a write
abbrev pub records : {X V : Type 0} → (ℕ → X → X) → (ℕ → V → X → X) → List (ℕ × V) → X → X
records place write [] x = x
records place write (r ∷ rs) x = records place write rs (write r.0 r.1 (place r.0 x))

-- for each record a write
abbrev pub writes : {X V : Type 0} → (ℕ → V → X → X) → List (ℕ × V) → X → X
writes write [] x = x
writes write (r ∷ rs) x = writes write rs (write r.0 r.1 x)

-- for each value of one series a write
abbrev pub writes_of : {X V : Type 0} → (ℕ → V → X → X) → ℕ → List V → X → X
writes_of write n vs x = fold (λ x v. write n v x) x vs

-- for each group the writes of its values
abbrev pub grouped : {X V : Type 0} → (ℕ → V → X → X) → List (ℕ × List V) → X → X
grouped write gs x = fold (λ x g. writes_of write g.0 g.1 x) x gs

-- ======== series in order of last records ========
other_way : (m n : ℕ) → nat_eq m n ≡ false → nat_eq n m ≡ false
other_way m n e = false_from_ne_true (nat_eq n m) (λ f. true≢false (sym (eq-eqb m n (sym (eqb-true n m f))) ∙ e))

-- no number stands twice
abbrev AreApart : List ℕ → Type 0
AreApart [] = Unit {0}
AreApart (n ∷ ns) = (has_number n ns ≡ false) × AreApart ns

-- there is a value
abbrev HasSome : {V : Type 0} → List V → Type 0
HasSome [] = ⊥
HasSome (v ∷ vs) = Unit {0}

module _ {V : Type 0} where
  lasts-occurs : (n : ℕ) (rs : List (ℕ × V)) → has_number n (lasts_of rs) ≡ occurs n rs
  lasts-occurs n [] = refl
  lasts-occurs n (r ∷ rs) = go (occurs r.0 rs) refl (lasts-occurs n rs)
    where
      twice : (b : Bool) → nat_eq r.0 n ≡ b → occurs r.0 rs ≡ true → occurs n rs ≡ (b || occurs n rs)
      twice true f e = ap (λ m. occurs m rs) (sym (eqb-true r.0 n f)) ∙ e
      twice false f e = refl

      go : (b : Bool) → occurs r.0 rs ≡ b → has_number n (lasts_of rs) ≡ occurs n rs → has_number n (cond b (lasts_of rs) (r.0 ∷ lasts_of rs)) ≡ (nat_eq r.0 n || occurs n rs)
      go true e ih = ih ∙ twice (nat_eq r.0 n) refl e
      go false e ih = ap (λ b. nat_eq r.0 n || b) ih

  lasts_apart : (rs : List (ℕ × V)) → AreApart (lasts_of rs)
  lasts_apart [] = tt
  lasts_apart (r ∷ rs) = go (occurs r.0 rs) refl (lasts_apart rs)
    where
      go : (b : Bool) → occurs r.0 rs ≡ b → AreApart (lasts_of rs) → AreApart (cond b (lasts_of rs) (r.0 ∷ lasts_of rs))
      go true e ih = ih
      go false e ih = (lasts-occurs r.0 rs ∙ e, ih)

  some_values : (n : ℕ) (rs : List (ℕ × V)) → occurs n rs ≡ true → HasSome (values_of n rs)
  some_values n [] e = absurd (false≢true e)
  some_values n (r ∷ rs) e = go (nat_eq r.0 n) e (some_values n rs)
    where
      go : (b : Bool) → (b || occurs n rs) ≡ true → (occurs n rs ≡ true → HasSome (values_of n rs))
          → HasSome (map (λ (r : ℕ × V). r.1) (cond b (r ∷ filter (λ r. r.0 == n) rs) (filter (λ r. r.0 == n) rs)))
      go true e ih = tt
      go false e ih = ih e

  no_values : (n : ℕ) (rs : List (ℕ × V)) → occurs n rs ≡ false → values_of n rs ≡ []
  no_values n [] e = refl
  no_values n (r ∷ rs) e =
      let p = or_parts (nat_eq r.0 n) (occurs n rs) e in
      (λ i. map (λ (r : ℕ × V). r.1) (cond (p.0 i) (r ∷ filter (λ r. r.0 == n) rs) (filter (λ r. r.0 == n) rs))) ∙ no_values n rs p.1

  -- these series with the values of their records
  abbrev groups : List (ℕ × V) → List ℕ → List (ℕ × List V)
  groups rs ns = map (λ (n : ℕ). let g : ℕ × List V = (n, values_of n rs) in g) ns

  -- a record of a series that is not among them
  groups_without : (r : ℕ × V) (rs : List (ℕ × V)) (ns : List ℕ) → has_number r.0 ns ≡ false → groups (r ∷ rs) ns ≡ groups rs ns
  groups_without r rs [] e = refl
  groups_without r rs (n ∷ ns) e =
      let p = or_parts (nat_eq n r.0) (has_number r.0 ns) e in
      λ i. (n, map (λ (r : ℕ × V). r.1) (cond (other_way n r.0 p.0 i) (r ∷ filter (λ r. r.0 == n) rs) (filter (λ r. r.0 == n) rs))) ∷ groups_without r rs ns p.1 i

  -- ======== what holds of groups holds of records ========
  -- what holds of a series, and of a value of it
  module _ (P : ℕ → Type 0) (Q : ℕ → V → Type 0) where
    abbrev Holds : ℕ → List V → Type 0
    Holds n vs = EachOf (Q n) vs × P n

    of_group : (rs : List (ℕ × V)) (n : ℕ) (ns : List ℕ) → has_number n ns ≡ true → EachOf (λ (g : ℕ × List V). Holds g.0 g.1) (groups rs ns) → Holds n (values_of n rs)
    of_group rs n [] e all = absurd (false≢true e)
    of_group rs n (m ∷ ns) e all =
        ⊎_elim (λ here. subst (λ k. Holds k (values_of k rs)) (eqb-true m n here) all.0) (λ later. of_group rs n ns later all.1) (or_cases (nat_eq m n) (has_number n ns) e)

    of_records : (rs : List (ℕ × V)) → ((n : ℕ) → occurs n rs ≡ true → Holds n (values_of n rs)) → EachOf (λ (r : ℕ × V). Q r.0 r.1 × P r.0) rs
    of_records [] all = tt
    of_records (r ∷ rs) all = ((first.0.0, first.1), of_records rs later)
      where
        -- the values of a series, by whether the first record is of it
        values_by : ℕ → Bool → List V
        values_by n b = map (λ (r : ℕ × V). r.1) (cond b (r ∷ filter (λ r. r.0 == n) rs) (filter (λ r. r.0 == n) rs))

        own : nat_eq r.0 r.0 ≡ true
        own = eq-eqb r.0 r.0 refl

        first : Holds r.0 (values_by r.0 true)
        first = subst (λ b. Holds r.0 (values_by r.0 b)) own (all r.0 (or_left (nat_eq r.0 r.0) (occurs r.0 rs) own))

        fewer : (n : ℕ) (b : Bool) → Holds n (values_by n b) → Holds n (values_of n rs)
        fewer n true h = (h.0.1, h.1)
        fewer n false h = h

        later : (n : ℕ) → occurs n rs ≡ true → Holds n (values_of n rs)
        later n e = fewer n (nat_eq r.0 n) (all n (or_right (nat_eq r.0 n) (occurs n rs) e))

    pub each_record : (rs : List (ℕ × V)) → EachOf (λ (g : ℕ × List V). EachOf (Q g.0) g.1 × P g.0) (values_each rs) → EachOf (λ (r : ℕ × V). Q r.0 r.1 × P r.0) rs
    each_record rs all = of_records rs (λ n e. of_group rs n (lasts_of rs) (lasts-occurs n rs ∙ e) all)

-- ======== writes in another order ========
-- `blur s x` is x without what the next write of the series s does away with. Two writes, one of which is of s, can be
-- made in either order if a write of s follows
module _ {X V : Type 0} (write : ℕ → V → X → X) (blur : ℕ → X → X)
    (cleared : (s : ℕ) (v : V) (x : X) → write s v (blur s x) ≡ write s v x)
    (blurred : (s t : ℕ) (w : V) (x : X) → blur s (write t w (blur s x)) ≡ blur s (write t w x))
    (swapped : (s t : ℕ) (u w : V) (x : X) → blur s (write t w (write s u x)) ≡ blur s (write s u (write t w x))) where
  alike : (s : ℕ) (v : V) (x y : X) → blur s x ≡ blur s y → write s v x ≡ write s v y
  alike s v x y e = sym (cleared s v x) ∙ (ap (write s v) e ∙ cleared s v y)

  kept : (s t : ℕ) (ws : List V) (x y : X) → blur s x ≡ blur s y → blur s (writes_of write t ws x) ≡ blur s (writes_of write t ws y)
  kept s t [] x y e = e
  kept s t (w ∷ ws) x y e = kept s t ws (write t w x) (write t w y) (sym (blurred s t w x) ∙ (ap (λ z. blur s (write t w z)) e ∙ blurred s t w y))

  over : (s t : ℕ) (u : V) (ws : List V) (x : X) → blur s (writes_of write t ws (write s u x)) ≡ blur s (write s u (writes_of write t ws x))
  over s t u [] x = refl
  over s t u (w ∷ ws) x = kept s t ws (write t w (write s u x)) (write s u (write t w x)) (swapped s t u w x) ∙ over s t u ws (write t w x)

  -- what is blurred doesn't matter before groups of which one is of the series
  unread : (s : ℕ) (rs : List (ℕ × V)) → HasSome (values_of s rs) → (ns : List ℕ) → has_number s ns ≡ true → (x y : X) → blur s x ≡ blur s y
      → grouped write (groups rs ns) x ≡ grouped write (groups rs ns) y
  unread s rs some [] h x y e = absurd (false≢true h)
  unread s rs some (n ∷ ns) h x y e = go (nat_eq n s) refl h
      (λ h. unread s rs some ns h (writes_of write n (values_of n rs) x) (writes_of write n (values_of n rs) y) (kept s n (values_of n rs) x y e))
    where
      own : (vs : List V) → HasSome vs → writes_of write s vs x ≡ writes_of write s vs y
      own [] some = absurd some
      own (v ∷ vs) some = ap (writes_of write s vs) (alike s v x y e)

      Same : Type 0
      Same = grouped write (groups rs ns) (writes_of write n (values_of n rs) x) ≡ grouped write (groups rs ns) (writes_of write n (values_of n rs) y)

      go : (b : Bool) → nat_eq n s ≡ b → (b || has_number s ns) ≡ true → (has_number s ns ≡ true → Same) → Same
      go true f h ih = ap (grouped write (groups rs ns)) (subst (λ m. writes_of write m (values_of m rs) x ≡ writes_of write m (values_of m rs) y) (sym (eqb-true n s f)) (own (values_of s rs) some))
      go false f h ih = ih h

  -- a write moves into its series' group
  into : (r : ℕ × V) (rs : List (ℕ × V)) → HasSome (values_of r.0 rs) → (ns : List ℕ) → AreApart ns → has_number r.0 ns ≡ true → (x : X)
      → grouped write (groups rs ns) (write r.0 r.1 x) ≡ grouped write (groups (r ∷ rs) ns) x
  into r rs some [] d h x = absurd (false≢true h)
  into r rs some (n ∷ ns) d h x = go (nat_eq n r.0) refl h (λ h. into r rs some ns d.1 h (writes_of write n (values_of n rs) x))
    where
      -- with the values of the series n after the record
      after : Bool → X
      after b = grouped write (groups (r ∷ rs) ns) (writes_of write n (map (λ (r : ℕ × V). r.1) (cond b (r ∷ filter (λ r. r.0 == n) rs) (filter (λ r. r.0 == n) rs))) x)

      go : (b : Bool) → nat_eq n r.0 ≡ b → (b || has_number r.0 ns) ≡ true
          → (has_number r.0 ns ≡ true → grouped write (groups rs ns) (write r.0 r.1 (writes_of write n (values_of n rs) x)) ≡ after false)
          → grouped write (groups rs ns) (writes_of write n (values_of n rs) (write r.0 r.1 x)) ≡ after (nat_eq r.0 n)
      go true f h ih =
          ap (λ m. grouped write (groups rs ns) (writes_of write n (values_of n rs) (write m r.1 x))) (sym (eqb-true n r.0 f))
          ∙ (ap (λ gs. grouped write gs (writes_of write n (r.1 ∷ values_of n rs) x)) (sym (groups_without r rs ns (ap (λ m. has_number m ns) (sym (eqb-true n r.0 f)) ∙ d.0)))
          ∙ ap after (sym (eq-eqb r.0 n (sym (eqb-true n r.0 f)))))
      go false f h ih =
          unread r.0 rs some ns h (writes_of write n (values_of n rs) (write r.0 r.1 x)) (write r.0 r.1 (writes_of write n (values_of n rs) x)) (over r.0 n r.1 (values_of n rs) x)
          ∙ (ih h ∙ ap after (sym (other_way n r.0 f)))

  pub grouped_law : (rs : List (ℕ × V)) (x : X) → writes write rs x ≡ grouped write (values_each rs) x
  grouped_law [] x = refl
  grouped_law (r ∷ rs) x = grouped_law rs (write r.0 r.1 x) ∙ go (occurs r.0 rs) refl
    where
      -- the last record of its series
      alone : occurs r.0 rs ≡ false → r.1 ∷ [] ≡ values_of r.0 (r ∷ rs)
      alone e =
          ap (λ vs. r.1 ∷ vs) (sym (no_values r.0 rs e))
          ∙ (λ i. map (λ (r : ℕ × V). r.1) (cond (sym (eq-eqb r.0 r.0 refl) i) (r ∷ filter (λ q. q.0 == r.0) rs) (filter (λ q. q.0 == r.0) rs)))

      go : (b : Bool) → occurs r.0 rs ≡ b → grouped write (groups rs (lasts_of rs)) (write r.0 r.1 x) ≡ grouped write (groups (r ∷ rs) (cond b (lasts_of rs) (r.0 ∷ lasts_of rs))) x
      go true e = into r rs (some_values r.0 rs e) (lasts_of rs) (lasts_apart rs) (lasts-occurs r.0 rs ∙ e) x
      go false e =
          ap (λ gs. grouped write gs (write r.0 r.1 x)) (sym (groups_without r rs (lasts_of rs) (lasts-occurs r.0 rs ∙ e)))
          ∙ ap (λ vs. grouped write (groups (r ∷ rs) (lasts_of rs)) (writes_of write r.0 vs x)) (alone e)

-- ======== places first ========
-- `Settled n x` says that the series n has its place in x already
module _ {X V : Type 0} (place : ℕ → X → X) (write : ℕ → V → X → X) (Sound : X → Type 0) (Settled : ℕ → X → Type 0)
    (sound_place : (n : ℕ) (x : X) → Sound x → Sound (place n x))
    (sound_write : (n : ℕ) (v : V) (x : X) → Sound x → Sound (write n v x))
    (settled_once : (n : ℕ) (x : X) → Sound x → Settled n (place n x))
    (settled_rests : (n : ℕ) (x : X) → Settled n x → place n x ≡ x)
    (settled_stays : (n m : ℕ) (x : X) → Settled n x → Settled n (place m x))
    (apart : (n m : ℕ) (w : V) (x : X) → Settled m x → place n (write m w x) ≡ write m w (place n x)) where
  over_places : (m : ℕ) (w : V) (ns : List ℕ) (x : X) → Settled m x → places place ns (write m w x) ≡ write m w (places place ns x)
  over_places m w [] x h = refl
  over_places m w (n ∷ ns) x h = ap (places place ns) (apart n m w x h) ∙ over_places m w ns (place n x) (settled_stays m n x h)

  -- all places before all writes
  split : (rs : List (ℕ × V)) (x : X) → Sound x → records place write rs x ≡ writes write rs (places place (map (λ (r : ℕ × V). r.0) rs) x)
  split [] x h = refl
  split (r ∷ rs) x h =
      split rs (write r.0 r.1 (place r.0 x)) (sound_write r.0 r.1 (place r.0 x) (sound_place r.0 x h))
      ∙ ap (writes write rs) (over_places r.0 r.1 (map (λ (r : ℕ × V). r.0) rs) (place r.0 x) (settled_once r.0 x h))

  -- each series once
  each_once : (seen ns : List ℕ) (x : X) → Sound x → ((n : ℕ) → has_number n seen ≡ true → Settled n x) → places place ns x ≡ places place (firsts seen ns) x
  each_once seen [] x h all = refl
  each_once seen (n ∷ ns) x h all = go (has_number n seen) refl (each_once seen ns x h all) (each_once (n ∷ seen) ns (place n x) (sound_place n x h) settled)
    where
      settled : (m : ℕ) → has_number m (n ∷ seen) ≡ true → Settled m (place n x)
      settled m e =
          ⊎_elim (λ here. subst (λ k. Settled k (place n x)) (eqb-true n m here) (settled_once n x h)) (λ before. settled_stays m n x (all m before))
          (or_cases (nat_eq n m) (has_number m seen) e)

      go : (b : Bool) → has_number n seen ≡ b → places place ns x ≡ places place (firsts seen ns) x → places place ns (place n x) ≡ places place (firsts (n ∷ seen) ns) (place n x)
          → places place ns (place n x) ≡ places place (cond b (firsts seen ns) (n ∷ firsts (n ∷ seen) ns)) x
      go true e old new = ap (places place ns) (settled_rests n x (all n e)) ∙ old
      go false e old new = new

  pub places_law : (rs : List (ℕ × V)) (x : X) → Sound x → records place write rs x ≡ writes write rs (places place (firsts [] (map (λ (r : ℕ × V). r.0) rs)) x)
  places_law rs x h = split rs x h ∙ ap (writes write rs) (each_once [] (map (λ (r : ℕ × V). r.0) rs) x h (λ n e. absurd (false≢true e)))

-- ======== the first of each series ========
-- what holds of all holds of the first ones
pub each_first : (P : ℕ → Type 0) (seen ns : List ℕ) → EachOf P ns → EachOf P (firsts seen ns)
each_first P seen [] all = tt
each_first P seen (n ∷ ns) all = go (has_number n seen) (each_first P seen ns all.1) (each_first P (n ∷ seen) ns all.1)
  where
    go : (b : Bool) → EachOf P (firsts seen ns) → EachOf P (firsts (n ∷ seen) ns) → EachOf P (cond b (firsts seen ns) (n ∷ firsts (n ∷ seen) ns))
    go true old new = old
    go false old new = (all.0, new)

-- ======== the first series of a beginning ========
pub firsts-append : (seen ns ms : List ℕ) → (rest : List ℕ) × (firsts seen (ns ++ ms) ≡ firsts seen ns ++ rest)
firsts-append seen [] ms = (firsts seen ms, refl)
firsts-append seen (n ∷ ns) ms = go (has_number n seen) (firsts-append seen ns ms) (firsts-append (n ∷ seen) ns ms)
  where
    go : (b : Bool) → (rest : List ℕ) × (firsts seen (ns ++ ms) ≡ firsts seen ns ++ rest) → (rest : List ℕ) × (firsts (n ∷ seen) (ns ++ ms) ≡ firsts (n ∷ seen) ns ++ rest)
        → (rest : List ℕ) × (cond b (firsts seen (ns ++ ms)) (n ∷ firsts (n ∷ seen) (ns ++ ms)) ≡ cond b (firsts seen ns) (n ∷ firsts (n ∷ seen) ns) ++ rest)
    go true old new = old
    go false old new = (new.0, ap (λ l. n ∷ l) new.1)
