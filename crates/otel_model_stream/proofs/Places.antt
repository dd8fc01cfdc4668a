-- The places of a window after one more mention.

use Rattle.std.proofs.Common.{◌≡◌, ⊎_elim, ℕ, ◌+◌, ◌<◌, ◌≤◌, List, [], ◌∷◌, ◌++◌, length, take, Bool, true, false, cond, not, ◌||◌, ◌&&◌, refl, sym, ap, ◌∙◌, arith, append_assoc, length-append}
use Rattle.std.specs.Prelude.{nat_lt}
use Rattle.std.proofs.lemmas.Bool.{or_parts, false≢true, cases_Bool, cases_lt, cases_order, lt-ltb, le-ltb}
use Rattle.std.proofs.lemmas.List.{append-nil, take_all, take_at, take-append-le, length-take-le}
use Rattle.std.proofs.lemmas.List.Elements.{filter-append}
use Rattle.std.proofs.lemmas.List.Sums.{length-filter, count_by-le-length}
use Rattle.otel_common.specs.Equality.{set_eq}
use Rattle.otel_model_stream.specs.Sets.{AttributeSet, none_set, over_set}
use Rattle.otel_model_stream.specs.Windows.{Start, is_in, newcomers, sets_that_count, room, places, uncounted_now}
use Rattle.otel_model_stream.proofs.Sets.{set_eq_self}
use Rattle.otel_model_stream.proofs.Lists.{is_in_here, is_in_left, is_in_right, is_in_take, is_in_same, or_true, or_false, kept_by}

-- what one more mention adds to the newcomers
abbrev pub added : List AttributeSet → List AttributeSet → AttributeSet → List AttributeSet
added seen n s = cond (set_eq s none_set || is_in s (seen ++ n)) [] (s ∷ [])

pub newcomers_push : (seen ms : List AttributeSet) (s : AttributeSet) → newcomers seen (ms ++ s ∷ []) ≡ newcomers seen ms ++ added seen (newcomers seen ms) s
newcomers_push seen [] s = ap (λ l. cond (set_eq s none_set || is_in s l) [] (s ∷ [])) (sym (append-nil seen))
newcomers_push seen (m ∷ ms) s = go (set_eq m none_set || is_in m seen) (newcomers_push seen ms s) (newcomers_push (seen ++ m ∷ []) ms s)
  where
    go : (b : Bool)
        → newcomers seen (ms ++ s ∷ []) ≡ newcomers seen ms ++ added seen (newcomers seen ms) s
        → newcomers (seen ++ m ∷ []) (ms ++ s ∷ []) ≡ newcomers (seen ++ m ∷ []) ms ++ added (seen ++ m ∷ []) (newcomers (seen ++ m ∷ []) ms) s
        → cond b (newcomers seen (ms ++ s ∷ [])) (m ∷ newcomers (seen ++ m ∷ []) (ms ++ s ∷ []))
        ≡ cond b (newcomers seen ms) (m ∷ newcomers (seen ++ m ∷ []) ms) ++ added seen (cond b (newcomers seen ms) (m ∷ newcomers (seen ++ m ∷ []) ms)) s
    go true ih ih' = ih
    go false ih ih' =
        ap (λ l. m ∷ l) (ih' ∙ ap (λ l. newcomers (seen ++ m ∷ []) ms ++ cond (set_eq s none_set || is_in s l) [] (s ∷ [])) (append_assoc seen (m ∷ []) (newcomers (seen ++ m ∷ []) ms)))

-- what was seen is no newcomer
pub no_newcomer : (y : AttributeSet) (seen ms : List AttributeSet) → is_in y seen ≡ true → is_in y (newcomers seen ms) ≡ false
no_newcomer y seen [] h = refl
no_newcomer y seen (m ∷ ms) h =
    go (set_eq m none_set) (is_in m seen) (λ e. is_in_same m y seen e ∙ h) (no_newcomer y seen ms h) (no_newcomer y (seen ++ m ∷ []) ms (is_in_left y seen (m ∷ []) h))
  where
    head : (c : Bool) (r : Bool) → (c ≡ true → false ≡ true) → r ≡ false → (c || r) ≡ false
    head true r f e = absurd (false≢true (f refl))
    head false r f e = e

    go : (a b : Bool) → (set_eq m y ≡ true → b ≡ true)
        → is_in y (newcomers seen ms) ≡ false
        → is_in y (newcomers (seen ++ m ∷ []) ms) ≡ false
        → is_in y (cond (a || b) (newcomers seen ms) (m ∷ newcomers (seen ++ m ∷ []) ms)) ≡ false
    go true b f ih ih' = ih
    go false true f ih ih' = ih
    go false false f ih ih' = head (set_eq m y) _ f ih'

pub counted_all : (u : Bool) (xs : List AttributeSet) → (u ≡ true → is_in over_set xs ≡ false) → sets_that_count u xs ≡ xs
counted_all u [] h = refl
counted_all false (x ∷ xs) h = ap (λ l. x ∷ l) (counted_all false xs (λ e. absurd (false≢true e)))
counted_all true (x ∷ xs) h =
    let p = or_parts (set_eq x over_set) (is_in over_set xs) (h refl) in
    rw p.0 (ap (λ l. x ∷ l) (counted_all true xs (λ _. p.1)))

-- places, and whether the overflow set is among them without being counted
abbrev pub Grown : Type 0
Grown = List AttributeSet × Bool

-- by four tests: s is empty, has a place, may count, the overflow set has a place
abbrev pub grown_by : (a b c d : Bool) → AttributeSet → List AttributeSet → Bool → Grown
grown_by a b c d s p u = cond a (p, u) (cond b (p, u) (cond c (p ++ s ∷ [], u) (cond d (p, u) (p ++ over_set ∷ [], true))))

-- what a mention of s does to the places p with the flag u
abbrev pub grown : ℕ → AttributeSet → List AttributeSet → Bool → Grown
grown limit s p u = grown_by (set_eq s none_set) (is_in s p) (nat_lt (length (sets_that_count u p)) limit) (is_in over_set p) s p u

-- ======== one more mention ========
-- the places and the flag, for these newcomers n
module _ (limit : ℕ) (start : Start) where
  abbrev pub space : ℕ
  space = room limit start

  abbrev pub begun : List AttributeSet
  begun = start.sets

  abbrev pub flag : Bool
  flag = start.uncounted

  abbrev pub overflows_with : List AttributeSet → Bool
  overflows_with n = nat_lt space (length n) && not (is_in over_set (begun ++ take space n))

  abbrev pub sets_with : List AttributeSet → List AttributeSet
  sets_with n = (begun ++ take space n) ++ cond (overflows_with n) (over_set ∷ []) []

  abbrev pub flag_with : List AttributeSet → Bool
  flag_with n = flag || overflows_with n

  pub open_overflows : (n : List AttributeSet) → length n ≤ space → overflows_with n ≡ false
  open_overflows n h = rw (le-ltb space (length n) h) refl

  pub open_sets : (n : List AttributeSet) → length n ≤ space → sets_with n ≡ begun ++ n
  open_sets n h = rw (open_overflows n h) (append-nil (begun ++ take space n) ∙ ap (λ l. begun ++ l) (take_all space n h))

  pub open_flag : (n : List AttributeSet) → length n ≤ space → flag_with n ≡ flag
  open_flag n h = rw (open_overflows n h) (or_false flag)

  pub size_plain : (u : Bool) (a : List AttributeSet) → (u ≡ true → is_in over_set a ≡ false) → length (sets_that_count u (begun ++ a)) ≡ length (sets_that_count u begun) + length a
  size_plain u a h = ap length (filter-append (λ s. not (u && set_eq s over_set)) begun a) ∙ (length-append (sets_that_count u begun) (sets_that_count u a) ∙ ap (λ l. length (sets_that_count u begun) + length l) (counted_all u a h))

  pub full_in : (n : List AttributeSet) → space < length n → is_in over_set (begun ++ take space n) ≡ true → (sets_with n ≡ begun ++ take space n) × (flag_with n ≡ flag)
  full_in n h e =
      let o : overflows_with n ≡ false = rw (lt-ltb space (length n) h, e) refl in
      (ap (λ b. (begun ++ take space n) ++ cond b (over_set ∷ []) []) o ∙ append-nil (begun ++ take space n), ap (λ b. flag || b) o ∙ or_false flag)

  pub full_out : (n : List AttributeSet) → space < length n → is_in over_set (begun ++ take space n) ≡ false → (sets_with n ≡ (begun ++ take space n) ++ over_set ∷ []) × (flag_with n ≡ true)
  full_out n h e =
      let o : overflows_with n ≡ true = rw (lt-ltb space (length n) h, e) refl in
      (ap (λ b. (begun ++ take space n) ++ cond b (over_set ∷ []) []) o, ap (λ b. flag || b) o ∙ or_true flag)

  abbrev pub IsFull : List AttributeSet → Type 0
  IsFull n = (is_in over_set (sets_with n) ≡ true) × (limit ≤ length (sets_that_count (flag_with n) (sets_with n)))

  size_over : (xs : List AttributeSet) → is_in over_set xs ≡ false → length (sets_that_count true (xs ++ over_set ∷ [])) ≡ length xs
  size_over xs h = ap length (filter-append (λ s. not (true && set_eq s over_set)) xs (over_set ∷ []) ∙ (ap (λ b. sets_that_count true xs ++ cond (not b) (over_set ∷ []) []) (set_eq_self over_set) ∙ (append-nil (sets_that_count true xs) ∙ counted_all true xs (λ _. h))))

  pub full : (n : List AttributeSet) → space < length n → (flag ≡ true → is_in over_set n ≡ false) → IsFull n
  full n h new = ⊎_elim (inside n h new) (outside n h) (cases_Bool (is_in over_set (begun ++ take space n)))
    where
      inside : (n : List AttributeSet) → space < length n → (flag ≡ true → is_in over_set n ≡ false) → is_in over_set (begun ++ take space n) ≡ true → IsFull n
      inside n h new e =
          let p = full_in n h e in
          let size = size_plain flag (take space n) (λ t. is_in_take over_set space n (new t)) in
          let long = length-take-le space n (omega arith) in
          (ap (is_in over_set) p.0 ∙ e, rw (p.0, p.1, size, long) (omega arith))

      outside : (n : List AttributeSet) → space < length n → is_in over_set (begun ++ take space n) ≡ false → IsFull n
      outside n h e =
          let p = full_out n h e in
          let long = length-take-le space n (omega arith) in
          let few : length (sets_that_count flag begun) ≤ length begun = rw (length-filter (λ s. not (flag && set_eq s over_set)) begun) (count_by-le-length (λ s. not (flag && set_eq s over_set)) begun) in
          let size = size_over (begun ++ take space n) e in
          (ap (is_in over_set) p.0 ∙ is_in_right over_set (begun ++ take space n) (over_set ∷ []) is_in_here, rw (p.0, p.1, size, length-append begun (take space n), long) (omega arith))

  -- ======== the step ========
  abbrev pub both : List AttributeSet → Grown
  both n = (sets_with n, flag_with n)

  abbrev pub grow : AttributeSet → List AttributeSet → Grown
  grow s n = grown limit s (sets_with n) (flag_with n)

  pub stay : (n : List AttributeSet) (s : AttributeSet) → IsFull n → grow s n ≡ both n
  stay n s f = kept_by (set_eq s none_set) (is_in s (sets_with n)) _ _ (sets_with n, flag_with n) _ _ (le-ltb (length (sets_that_count (flag_with n) (sets_with n))) limit f.1) f.0

  grow_open : (n : List AttributeSet) (s : AttributeSet) → length n ≤ space → grow s n ≡ grown limit s (begun ++ n) flag
  grow_open n s h = λ i. grown limit s (open_sets n h i) (open_flag n h i)

  at_none : (n : List AttributeSet) (s : AttributeSet) → set_eq s none_set ≡ true → both (n ++ added begun n s) ≡ grow s n
  at_none n s e = rw (e, append-nil n) refl

  add_none : (n : List AttributeSet) (s : AttributeSet) → is_in s (begun ++ n) ≡ true → n ++ added begun n s ≡ n
  add_none n s f = rw (f, or_true (set_eq s none_set)) (append-nil n)

  add_one : (n : List AttributeSet) (s : AttributeSet) → set_eq s none_set ≡ false → is_in s (begun ++ n) ≡ false → n ++ added begun n s ≡ n ++ s ∷ []
  add_one n s e f = rw (e, f) refl

  at_seen : (n : List AttributeSet) (s : AttributeSet) → (flag ≡ true → is_in over_set n ≡ false) → is_in s (begun ++ n) ≡ true → both n ≡ grow s n
  at_seen n s new f = ⊎_elim few many (cases_lt space (length n))
    where
      few : space < length n → both n ≡ grow s n
      few h = sym (stay n s (full n h new))

      seen : (b : Bool) (p : Grown) → p ≡ cond b p p
      seen true p = refl
      seen false p = refl

      many : length n ≤ space → both n ≡ grow s n
      many h = (λ i. (open_sets n h i, open_flag n h i)) ∙ (seen (set_eq s none_set) (begun ++ n, flag) ∙ sym (grow_open n s h ∙ rw f refl))

  same_front : (n m : List AttributeSet) → take space n ≡ take space m → space < length n → space < length m → both n ≡ both m
  same_front n m t h h' =
      let o : overflows_with n ≡ overflows_with m = rw (lt-ltb space (length n) h, lt-ltb space (length m) h', t) refl in
      λ i. ((begun ++ t i) ++ cond (o i) (over_set ∷ []) [], flag || o i)

  new_open : (n : List AttributeSet) (s : AttributeSet) → (flag ≡ true → is_in over_set n ≡ false) → set_eq s none_set ≡ false → is_in s (begun ++ n) ≡ false → length n < space → both (n ++ s ∷ []) ≡ grow s n
  new_open n s new e f h =
      let h' : length (n ++ s ∷ []) ≤ space = omega (arith, length-append n (s ∷ [])) in
      let h'' : length n ≤ space = omega arith in
      let fits : nat_lt (length (sets_that_count flag (begun ++ n))) limit ≡ true = lt-ltb (length (sets_that_count flag (begun ++ n))) limit (omega (arith, size_plain flag n new)) in
      let grows : grown limit s (begun ++ n) flag ≡ ((begun ++ n) ++ s ∷ [], flag) = rw (e, f, fits) refl in
      (λ i. (open_sets (n ++ s ∷ []) h' i, open_flag (n ++ s ∷ []) h' i)) ∙ ((λ i. (sym (append_assoc begun n (s ∷ [])) i, flag)) ∙ sym (grow_open n s h'' ∙ grows))

  new_edge : (n : List AttributeSet) (s : AttributeSet) → (flag ≡ true → is_in over_set n ≡ false) → set_eq s none_set ≡ false → is_in s (begun ++ n) ≡ false → length n ≡ space → both (n ++ s ∷ []) ≡ grow s n
  new_edge n s new e f h = ⊎_elim inside outside (cases_Bool (is_in over_set (begun ++ n)))
    where
      front : take space (n ++ s ∷ []) ≡ n
      front = take_at n (s ∷ []) space h

      long : space < length (n ++ s ∷ [])
      long = omega (arith, length-append n (s ∷ []))

      room' : length n ≤ space
      room' = omega arith

      size : nat_lt (length (sets_that_count flag (begun ++ n))) limit ≡ false
      size = le-ltb (length (sets_that_count flag (begun ++ n))) limit (omega (arith, size_plain flag n new))

      inside : is_in over_set (begun ++ n) ≡ true → both (n ++ s ∷ []) ≡ grow s n
      inside m =
          let p = full_in (n ++ s ∷ []) long (ap (λ l. is_in over_set (begun ++ l)) front ∙ m) in
          let grows : grown limit s (begun ++ n) flag ≡ (begun ++ n, flag) = rw (e, f, size, m) refl in
          (λ i. ((p.0 ∙ ap (λ l. begun ++ l) front) i, p.1 i)) ∙ sym (grow_open n s room' ∙ grows)

      outside : is_in over_set (begun ++ n) ≡ false → both (n ++ s ∷ []) ≡ grow s n
      outside m =
          let p = full_out (n ++ s ∷ []) long (ap (λ l. is_in over_set (begun ++ l)) front ∙ m) in
          let grows : grown limit s (begun ++ n) flag ≡ ((begun ++ n) ++ over_set ∷ [], true) = rw (e, f, size, m) refl in
          (λ i. ((p.0 ∙ ap (λ l. (begun ++ l) ++ over_set ∷ []) front) i, p.1 i)) ∙ sym (grow_open n s room' ∙ grows)

  new_full : (n : List AttributeSet) (s : AttributeSet) → (flag ≡ true → is_in over_set n ≡ false) → space < length n → both (n ++ s ∷ []) ≡ grow s n
  new_full n s new h =
      let h' : space < length (n ++ s ∷ []) = omega (arith, length-append n (s ∷ [])) in
      let small : space ≤ length n = omega arith in
      same_front (n ++ s ∷ []) n (take-append-le space n (s ∷ []) small) h' h ∙ sym (stay n s (full n h new))

  pub grows : (n : List AttributeSet) (s : AttributeSet) → (flag ≡ true → is_in over_set n ≡ false) → both (n ++ added begun n s) ≡ grow s n
  grows n s new = ⊎_elim (at_none n s) (λ e. ⊎_elim (λ f. ap both (add_none n s f) ∙ at_seen n s new f) (λ f. ap both (add_one n s e f) ∙ fresh e f) (cases_Bool (is_in s (begun ++ n)))) (cases_Bool (set_eq s none_set))
    where
      fresh : set_eq s none_set ≡ false → is_in s (begun ++ n) ≡ false → both (n ++ s ∷ []) ≡ grow s n
      fresh e f = ⊎_elim (λ h. new_edge n s new e f h) (λ h. ⊎_elim (λ h. new_open n s new e f h) (λ h. new_full n s new h) h) (cases_order (length n) space)

-- the overflow set has a place if the window starts with one that is not counted
abbrev pub IsLawful : Start → Type 0
IsLawful start = start.uncounted ≡ true → is_in over_set start.sets ≡ true

pub places_push : (limit : ℕ) (start : Start) (ms : List AttributeSet) (s : AttributeSet) → IsLawful start
    → both limit start (newcomers start.sets (ms ++ s ∷ [])) ≡ grown limit s (places limit start ms) (uncounted_now limit start ms)
places_push limit start ms s lawful =
    ap (both limit start) (newcomers_push start.sets ms s)
    ∙ grows limit start (newcomers start.sets ms) s (λ u. no_newcomer over_set start.sets ms (lawful u))
