-- The totals of a window's points are those of its records.
use Rattle.std.proofs.Common.{◌≡◌, ⊎_elim, Some, ℕ, ◌+◌, List, [], ◌∷◌, ◌++◌, map, Bool, true, false, cond, ◌||◌, refl, sym, ap, ◌∙◌, arith}
use Rattle.std.specs.Prelude.{filter, sum_by, ◌==◌}
use Rattle.std.proofs.lemmas.Bool.{or_parts, false≢true, true≢false, cases_Bool}
use Rattle.std.proofs.lemmas.List.Sums.{sum_by-cons, sum_by-append}
use Rattle.otel_common.specs.Equality.{set_eq}
use Rattle.otel_model_stream.specs.Sets.{AttributeSet, none_set}
use Rattle.otel_model_stream.specs.Folds.{Aggregate, Amount, wrap}
use Rattle.otel_model_stream.specs.Events.{Kind, Delta, Cumulative, Drained, Handles, held_by, without, Point}
use Rattle.otel_model_stream.specs.Windows.{Window, is_in, by_handle, places_of, records_of, is_hit, values_of, point, points_of}
use Rattle.otel_model_stream.specs.Totals.{size, weight, has_number, without_number, points_total}
use Rattle.otel_model_stream.proofs.Sets.{set_eq_true}
use Rattle.otel_model_stream.proofs.Lists.{or_true, same_eq, same_sym}
use Rattle.otel_model_stream.proofs.Weights.{weighs}
use Rattle.otel_model_stream.proofs.Build.{Pairs, no_values}
use Rattle.otel_model_stream.proofs.Steps.{IsSound}
use Rattle.otel_model_stream.proofs.Moves.{facts}
use Rattle.otel_model_stream.proofs.Tidy.{IsDistinct, IsTidy}

-- the numbers of live handles
abbrev pub numbers : Handles → List ℕ
numbers hs = map (λ (q : ℕ × AttributeSet). q.0) hs

pub numbers-without : (h : ℕ) (hs : Handles) → numbers (without h hs) ≡ without_number h (numbers hs)
numbers-without h [] = refl
numbers-without h (q ∷ hs) = go (q.0 == h) (numbers-without h hs)
  where
    go : (b : Bool) → numbers (without h hs) ≡ without_number h (numbers hs) → numbers (cond b hs (q ∷ without h hs)) ≡ cond b (numbers hs) (q.0 ∷ without_number h (numbers hs))
    go true ih = refl
    go false ih = ap (λ l. q.0 ∷ l) ih

pub mod_both : (a b c d : ℕ) → wrap a ≡ wrap c → wrap b ≡ wrap d → wrap (a + b) ≡ wrap (c + d)
mod_both a b c d e f = omega arith

-- of distinct sets, a set is at most one
no_hit : (g : AttributeSet) (v : ℕ) (ks : List AttributeSet) → is_in g ks ≡ false → sum_by (λ x. cond (set_eq g x) v 0) ks ≡ 0
no_hit g v [] m = refl
no_hit g v (k ∷ ks) m =
    let q = or_parts (set_eq k g) (is_in g ks) m in
    sum_by-cons (λ x. cond (set_eq g x) v 0) k ks ∙ (λ i. cond ((same_sym g k ∙ q.0) i) v 0 + no_hit g v ks q.1 i)

one_hit : (g : AttributeSet) (v : ℕ) (ks : List AttributeSet) → IsDistinct ks → is_in g ks ≡ true → sum_by (λ x. cond (set_eq g x) v 0) ks ≡ v
one_hit g v [] d m = absurd (false≢true m)
one_hit g v (k ∷ ks) d m = sum_by-cons (λ x. cond (set_eq g x) v 0) k ks ∙ ⊎_elim hit (miss (λ m. one_hit g v ks d.1 m)) (cases_Bool (set_eq k g))
  where
    hit : set_eq k g ≡ true → cond (set_eq g k) v 0 + sum_by (λ x. cond (set_eq g x) v 0) ks ≡ v
    hit e =
        let a : cond (set_eq g k) v 0 ≡ v = ap (λ b. cond b v 0) (same_sym g k ∙ e) in
        let z = no_hit g v ks (ap (λ y. is_in y ks) (sym (set_eq_true k g e)) ∙ d.0) in
        omega arith

    miss : (is_in g ks ≡ true → sum_by (λ x. cond (set_eq g x) v 0) ks ≡ v) → set_eq k g ≡ false → cond (set_eq g k) v 0 + sum_by (λ x. cond (set_eq g x) v 0) ks ≡ v
    miss ih e =
        let a : cond (set_eq g k) v 0 ≡ 0 = ap (λ b. cond b v 0) (same_sym g k ∙ e) in
        let z = ih (ap (λ b. b || is_in g ks) (sym e) ∙ m) in
        omega arith

sum_split : (f g h : AttributeSet → ℕ) (ks : List AttributeSet) → ((x : AttributeSet) → f x ≡ g x + h x) → sum_by f ks ≡ sum_by g ks + sum_by h ks
sum_split f g h [] e = refl
sum_split f g h (k ∷ ks) e = omega (arith, sum_by-cons f k ks, sum_by-cons g k ks, sum_by-cons h k ks, e k, sum_split f g h ks e)

module _ (σ : Aggregate) where
  -- the total of these records
  abbrev pub amount : Pairs → ℕ
  amount rs = sum_by (λ (r : AttributeSet × Amount). size σ r.1) rs

  pub amount-cons : (r : AttributeSet × Amount) (rs : Pairs) → amount (r ∷ rs) ≡ size σ r.1 + amount rs
  amount-cons r rs = sum_by-cons (λ (r : AttributeSet × Amount). size σ r.1) r rs

  -- ======== records whatever their goals ========
  pub through_amount : (h : ℕ) (v : Amount) (hs : Handles) → amount (by_handle (held_by h hs) v) ≡ cond (has_number h (numbers hs)) (size σ v) 0
  through_amount h v [] = refl
  through_amount h v (q ∷ hs) = go (q.0 == h) (through_amount h v hs)
    where
      go : (b : Bool) → amount (by_handle (held_by h hs) v) ≡ cond (has_number h (numbers hs)) (size σ v) 0 → amount (by_handle (cond b (Some q.1) (held_by h hs)) v) ≡ cond (b || has_number h (numbers hs)) (size σ v) 0
      go true ih = amount-cons (q.1, v) [] ∙ omega arith
      go false ih = ih

  -- ======== each record is in one point ========
  -- the total of the records whose goal is x
  abbrev share : Pairs → AttributeSet → ℕ
  share rs x = sum_by (size σ) (values_of rs x)

  value_cons : (r : AttributeSet × Amount) (rs : Pairs) (x : AttributeSet) → share (r ∷ rs) x ≡ cond (set_eq r.0 x) (size σ r.1) 0 + share rs x
  value_cons r rs x = go (set_eq r.0 x)
    where
      go : (b : Bool) → sum_by (size σ) (map (λ (r : AttributeSet × Amount). r.1) (cond b (r ∷ filter (λ r. set_eq r.0 x) rs) (filter (λ r. set_eq r.0 x) rs))) ≡ cond b (size σ r.1) 0 + share rs x
      go true = sum_by-cons (size σ) r.1 (values_of rs x)
      go false = zero_plus (sum_by (size σ) (values_of rs x))
        where
          zero_plus : (n : ℕ) → n ≡ 0 + n
          zero_plus n = omega arith

  sum_zero : (ks : List AttributeSet) → sum_by (share []) ks ≡ 0
  sum_zero [] = refl
  sum_zero (k ∷ ks) = sum_by-cons (share []) k ks ∙ omega (arith, sum_zero ks)

  pub sum_values : (ks : List AttributeSet) (rs : Pairs) → IsDistinct ks → ((x : AttributeSet) → is_hit rs x ≡ true → is_in x ks ≡ true) → sum_by (share rs) ks ≡ amount rs
  sum_values ks [] d h = sum_zero ks
  sum_values ks (r ∷ rs) d h =
      let a = sum_split (share (r ∷ rs)) (λ x. cond (set_eq r.0 x) (size σ r.1) 0) (share rs) ks (value_cons r rs) in
      let b = one_hit r.0 (size σ r.1) ks d (h r.0 (ap (λ b. b || is_hit rs r.0) (same_eq r.0 r.0 refl))) in
      let c = sum_values ks rs d (λ x m. h x (ap (λ b. set_eq r.0 x || b) m ∙ or_true (set_eq r.0 x))) in
      omega (arith, amount-cons r rs)

  -- ======== the points of a window ========
  total_map : (rs : Pairs) (l : List AttributeSet) → wrap (points_total (map (point σ rs) l)) ≡ wrap (sum_by (share rs) l)
  total_map rs [] = refl
  total_map rs (x ∷ l) =
      ap wrap (sum_by-cons (λ (q : Point). weight q.1) (point σ rs x) (map (point σ rs) l))
      ∙ (mod_both _ _ _ _ (weighs σ (values_of rs x)) (total_map rs l)
      ∙ ap wrap (sym (sum_by-cons (share rs) x l)))

  total_filter : (rs : Pairs) (l : List AttributeSet) → sum_by (share rs) (filter (is_hit rs) l) ≡ sum_by (share rs) l
  total_filter rs [] = refl
  total_filter rs (x ∷ l) = go (is_hit rs x) refl (total_filter rs l)
    where
      go : (b : Bool) → is_hit rs x ≡ b → sum_by (share rs) (filter (is_hit rs) l) ≡ sum_by (share rs) l
          → sum_by (share rs) (cond b (x ∷ filter (is_hit rs) l) (filter (is_hit rs) l)) ≡ sum_by (share rs) (x ∷ l)
      go true e ih = omega (arith, sum_by-cons (share rs) x l, sum_by-cons (share rs) x (filter (is_hit rs) l))
      go false e ih = let z : share rs x ≡ 0 = ap (sum_by (size σ)) (no_values rs x e) in omega (arith, sum_by-cons (share rs) x l)

  hits_in : (limit : ℕ) (w : Window) → IsSound limit w → (x : AttributeSet) → is_hit (records_of limit w) x ≡ true → is_in x (none_set ∷ places_of limit w) ≡ true
  hits_in limit w a x e = ⊎_elim
      (λ n. ap (λ b. b || is_in x (places_of limit w)) (same_eq none_set x (sym (set_eq_true x none_set n))))
      (λ n. ⊎_elim (λ m. ap (λ b. set_eq none_set x || b) m ∙ or_true (set_eq none_set x)) (λ m. absurd (true≢false (sym e ∙ a.hits x n m))) (cases_Bool (is_in x (places_of limit w))))
      (cases_Bool (set_eq x none_set))

  pub window_total : (kind : Kind) (limit : ℕ) (w : Window) → IsSound limit w → IsTidy limit (facts limit w) → wrap (points_total (points_of σ kind limit w)) ≡ wrap (amount (records_of limit w))
  window_total kind limit w a t = go kind
    where
      all : sum_by (share (records_of limit w)) (none_set ∷ places_of limit w) ≡ amount (records_of limit w)
      all = sum_values (none_set ∷ places_of limit w) (records_of limit w) t.distinct (hits_in limit w a)

      shown_part : (l : List AttributeSet) → sum_by (share (records_of limit w)) l ≡ sum_by (share (records_of limit w)) (places_of limit w)
          → wrap (points_total (map (point σ (records_of limit w)) (filter (is_hit (records_of limit w)) (none_set ∷ []) ++ l))) ≡ wrap (amount (records_of limit w))
      shown_part l e =
          let same : sum_by (share (records_of limit w)) (filter (is_hit (records_of limit w)) (none_set ∷ []) ++ l) ≡ amount (records_of limit w) = omega (
            arith,
            sum_by-append (share (records_of limit w)) (filter (is_hit (records_of limit w)) (none_set ∷ [])) l,
            total_filter (records_of limit w) (none_set ∷ []),
            sum_by-append (share (records_of limit w)) (none_set ∷ []) (places_of limit w),
            e,
            all,
          ) in
          total_map (records_of limit w) (filter (is_hit (records_of limit w)) (none_set ∷ []) ++ l) ∙ ap wrap same

      go : (kind : Kind) → wrap (points_total (points_of σ kind limit w)) ≡ wrap (amount (records_of limit w))
      go Delta = shown_part (filter (is_hit (records_of limit w)) (places_of limit w)) (total_filter (records_of limit w) (places_of limit w))
      go Cumulative = shown_part (places_of limit w) refl
      go Drained = shown_part (places_of limit w) refl
