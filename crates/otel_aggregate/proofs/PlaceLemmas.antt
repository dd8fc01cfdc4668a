-- The links of handles that have not ended, as places are added, left empty and cleared away.
use Rattle.std.proofs.Common.{◌≡◌, ℕ, ◌+◌, ◌-◌, ◌≤◌, Bool, true, false, cond, List, [], ◌∷◌, ◌++◌, filter, length, Option, Some, None, is_some, refl, sym, ap, subst, ◌∙◌, nat_eq, eqb-true, arith}
use mir.Val.{bool_byte}
use Rattle.std.specs.List.{AllByRecursion, IsDistinct}
use Rattle.std.specs.Map.{lookup, remove_entry, set_value, keys_of}
use Rattle.std.specs.Option.{option_flatten}
use Rattle.std.proofs.lemmas.Option.{same_Some}
use Rattle.std.proofs.lemmas.List.{length-append}
use Rattle.std.proofs.lemmas.Map.{keys-set_value, length-set_value}
use Rattle.std.proofs.lemmas.Map.Made.{IsDistinct-keys_filter}
use Rattle.otel_aggregate.specs.Links.{Link, Place, with_link, live_links, ArePlaces}

-- ======== look-ups ========
-- a number that no place has
unplaced : (h : ℕ) (ps : List Place) → AllByRecursion (λ y. nat_eq h y ≡ false) (keys_of ps) → lookup (nat_eq h) (live_links ps) ≡ None
unplaced h [] a = refl
unplaced h (p ∷ ps) a = by p.1 (unplaced h ps a.1)
  where
    by : (o : Option ℕ) → lookup (nat_eq h) (live_links ps) ≡ None → lookup (nat_eq h) (with_link p.0 o (live_links ps)) ≡ None
    by None ih = ih
    by (Some n) ih = ap (λ b. cond b (Some n) (lookup (nat_eq h) (live_links ps))) a.0 ∙ ih

-- no later place is of the number of this one
later : (h k : ℕ) (ps : List Place) → nat_eq h k ≡ true → AllByRecursion (λ y. nat_eq k y ≡ false) (keys_of ps) → lookup (nat_eq h) (live_links ps) ≡ None
later h k ps e a = unplaced h ps (subst (λ m. AllByRecursion (λ y. nat_eq m y ≡ false) (keys_of ps)) (sym (eqb-true h k e)) a)

-- a number's place says where its link leads
pub number_live : (h : ℕ) (ps : List Place) → IsDistinct nat_eq (keys_of ps) → option_flatten (lookup (nat_eq h) ps) ≡ lookup (nat_eq h) (live_links ps)
unfolding IsDistinct
number_live h [] u = refl
number_live h (p ∷ ps) u = by (nat_eq h p.0) refl p.1 (number_live h ps u.1)
  where
    rest : Option ℕ
    rest = lookup (nat_eq h) (live_links ps)

    by : (b : Bool) → nat_eq h p.0 ≡ b → (o : Option ℕ) → option_flatten (lookup (nat_eq h) ps) ≡ rest
        → option_flatten (cond b (Some o) (lookup (nat_eq h) ps)) ≡ lookup (nat_eq h) (with_link p.0 o (live_links ps))
    by true e None ih = sym (later h p.0 ps e u.0)
    by true e (Some n) ih = sym (ap (λ b. cond b (Some n) rest) e)
    by false e None ih = ih
    by false e (Some n) ih = ih ∙ sym (ap (λ b. cond b (Some n) rest) e)

-- ======== an end ========
removed-none : (h : ℕ) (ls : List Link) → lookup (nat_eq h) ls ≡ None → remove_entry (nat_eq h) ls ≡ ls
removed-none h [] e = refl
removed-none h (l ∷ ls) e = by (nat_eq h l.0) e (removed-none h ls)
  where
    by : (b : Bool) → cond b (Some l.1) (lookup (nat_eq h) ls) ≡ None → (lookup (nat_eq h) ls ≡ None → remove_entry (nat_eq h) ls ≡ ls) → cond b ls (l ∷ remove_entry (nat_eq h) ls) ≡ l ∷ ls
    by true q ih = absurd (cc)
    by false q ih = ap (λ (rs : List Link). l ∷ rs) (ih q)

-- a number without a place
pub end-unplaced : (h : ℕ) (ps : List Place) → IsDistinct nat_eq (keys_of ps) → lookup (nat_eq h) ps ≡ None → live_links ps ≡ remove_entry (nat_eq h) (live_links ps)
end-unplaced h ps u e = sym (removed-none h (live_links ps) (sym (number_live h ps u) ∙ ap option_flatten e))

-- an empty place is as no link
pub end-live : (h : ℕ) (ps : List Place) → IsDistinct nat_eq (keys_of ps) → live_links (set_value (nat_eq h) ps None) ≡ remove_entry (nat_eq h) (live_links ps)
unfolding IsDistinct
end-live h [] u = refl
end-live h (p ∷ ps) u = by (nat_eq h p.0) refl p.1 (end-live h ps u.1)
  where
    rest : List Link
    rest = remove_entry (nat_eq h) (live_links ps)

    by : (b : Bool) → nat_eq h p.0 ≡ b → (o : Option ℕ) → live_links (set_value (nat_eq h) ps None) ≡ rest
        → live_links (cond b ((p.0, None) ∷ ps) ((p.0, o) ∷ set_value (nat_eq h) ps None)) ≡ remove_entry (nat_eq h) (with_link p.0 o (live_links ps))
    by true e None ih = sym (removed-none h (live_links ps) (later h p.0 ps e u.0))
    by true e (Some n) ih = sym (ap (λ b. cond b (live_links ps) ((p.0, n) ∷ rest)) e)
    by false e None ih = ih
    by false e (Some n) ih = ap (λ (ls : List Link). (p.0, n) ∷ ls) ih ∙ sym (ap (λ b. cond b (live_links ps) ((p.0, n) ∷ rest)) e)

fewer : (h : ℕ) (ps : List Place) (o : Option ℕ) → lookup (nat_eq h) ps ≡ Some o → length (live_links (set_value (nat_eq h) ps None)) + cond (is_some o) 1 0 ≡ length (live_links ps)
fewer h [] o e = absurd (cc)
fewer h (p ∷ ps) o e = by (nat_eq h p.0) p.1 e (fewer h ps o)
  where
    by : (b : Bool) (m : Option ℕ) → cond b (Some m) (lookup (nat_eq h) ps) ≡ Some o
        → (lookup (nat_eq h) ps ≡ Some o → length (live_links (set_value (nat_eq h) ps None)) + cond (is_some o) 1 0 ≡ length (live_links ps))
        → length (live_links (cond b ((p.0, None) ∷ ps) ((p.0, m) ∷ set_value (nat_eq h) ps None))) + cond (is_some o) 1 0 ≡ length (with_link p.0 m (live_links ps))
    by true None q ih = ap (λ x. length (live_links ps) + cond (is_some x) 1 0) (sym (same_Some None o q)) ∙ omega arith
    by true (Some n) q ih = ap (λ x. length (live_links ps) + cond (is_some x) 1 0) (sym (same_Some (Some n) o q)) ∙ omega arith
    by false None q ih = ih q
    by false (Some n) q ih = omega (arith, ih q)

-- a test as a number
pub test-number : (b : Bool) → bool_byte b ≡ cond b 1 0
test-number true = refl
test-number false = refl

-- a place that becomes empty
pub end-places : (h : ℕ) (ps : List Place) (o : Option ℕ) (ended : ℕ) → ArePlaces ps ended → lookup (nat_eq h) ps ≡ Some o → ArePlaces (set_value (nat_eq h) ps None) (ended + bool_byte (is_some o))
end-places h ps o ended laws e = record {
  unique = subst (IsDistinct nat_eq) (sym (keys-set_value (nat_eq h) ps None)) laws.unique;
  counted = omega (arith, fewer h ps o e, test-number (is_some o), laws.counted, length-set_value (nat_eq h) ps None);
}

-- ======== places cleared away ========
abbrev pub is_live : Place → Bool
is_live p = is_some p.1

pub cleared-live : (ps : List Place) → live_links (filter is_live ps) ≡ live_links ps
cleared-live [] = refl
cleared-live (p ∷ ps) = by p.1 (cleared-live ps)
  where
    by : (o : Option ℕ) → live_links (filter is_live ps) ≡ live_links ps → live_links (cond (is_some o) ((p.0, o) ∷ filter is_live ps) (filter is_live ps)) ≡ with_link p.0 o (live_links ps)
    by None ih = ih
    by (Some n) ih = ap (λ (ls : List Link). (p.0, n) ∷ ls) ih

all-live : (ps : List Place) → length (live_links ps) ≡ length (filter is_live ps)
all-live [] = refl
all-live (p ∷ ps) = by p.1 (all-live ps)
  where
    by : (o : Option ℕ) → length (live_links ps) ≡ length (filter is_live ps) → length (with_link p.0 o (live_links ps)) ≡ length (cond (is_some o) ((p.0, o) ∷ filter is_live ps) (filter is_live ps))
    by None ih = ih
    by (Some n) ih = omega (arith, ih)

pub cleared-places : (ps : List Place) (ended : ℕ) → ArePlaces ps ended → ArePlaces (filter is_live ps) 0
cleared-places ps ended laws = record {
  unique = IsDistinct-keys_filter nat_eq is_live ps laws.unique;
  counted = omega (arith, ap length (cleared-live ps), all-live ps);
}

-- ======== a handle more ========
few-live : (ps : List Place) → length (live_links ps) ≤ length ps
few-live [] = omega arith
few-live (p ∷ ps) = by p.1 (few-live ps)
  where
    by : (o : Option ℕ) → length (live_links ps) ≤ length ps → length (with_link p.0 o (live_links ps)) ≤ length (p ∷ ps)
    by None ih = omega (arith, ih)
    by (Some n) ih = omega (arith, ih)

-- without the place of a handle that has ended
pub forgotten-live : (h : ℕ) (ps : List Place) → lookup (nat_eq h) (live_links ps) ≡ None → live_links (remove_entry (nat_eq h) ps) ≡ live_links ps
forgotten-live h [] e = refl
forgotten-live h (p ∷ ps) e = by (nat_eq h p.0) refl p.1 e (forgotten-live h ps)
  where
    rest : Option ℕ
    rest = lookup (nat_eq h) (live_links ps)

    by : (b : Bool) → nat_eq h p.0 ≡ b → (o : Option ℕ) → lookup (nat_eq h) (with_link p.0 o (live_links ps)) ≡ None → (rest ≡ None → live_links (remove_entry (nat_eq h) ps) ≡ live_links ps)
        → live_links (cond b ps ((p.0, o) ∷ remove_entry (nat_eq h) ps)) ≡ with_link p.0 o (live_links ps)
    by true is None q ih = refl
    by true is (Some n) q ih = let none : Some n ≡ None = ap (λ b. cond b (Some n) rest) (sym is) ∙ q in absurd (cc)
    by false is None q ih = ih q
    by false is (Some n) q ih = ap (λ (ls : List Link). (p.0, n) ∷ ls) (ih (ap (λ b. cond b (Some n) rest) (sym is) ∙ q))

-- there is one to be taken off the count
pub some-ended : (ps qs : List Place) (ended n : ℕ) → ArePlaces ps ended → live_links qs ≡ live_links ps → length qs + n ≡ length ps → n ≤ ended
some-ended ps qs ended n laws same len = omega (arith, laws.counted, ap length same, len, few-live qs)

live-push : (ps : List Place) (h n : ℕ) → live_links (ps ++ (h, Some n) ∷ []) ≡ live_links ps ++ (h, n) ∷ []
live-push [] h n = refl
live-push (p ∷ ps) h n = by p.1 (live-push ps h n)
  where
    by : (o : Option ℕ) → live_links (ps ++ (h, Some n) ∷ []) ≡ live_links ps ++ (h, n) ∷ [] → with_link p.0 o (live_links (ps ++ (h, Some n) ∷ [])) ≡ with_link p.0 o (live_links ps) ++ (h, n) ∷ []
    by None ih = ih
    by (Some m) ih = ap (λ (ls : List Link). (p.0, m) ∷ ls) ih

-- the handle goes last
pub added-live : (h n : ℕ) (ps qs rs : List Place) → live_links qs ≡ live_links ps → rs ≡ qs ++ (h, Some n) ∷ [] → live_links rs ≡ live_links ps ++ (h, n) ∷ []
added-live h n ps qs rs same is = ap live_links is ∙ live-push qs h n ∙ ap (λ (ls : List Link). ls ++ (h, n) ∷ []) same

pub added-places : (h n : ℕ) (ps qs rs : List Place) (ended gone : ℕ) → ArePlaces ps ended → live_links qs ≡ live_links ps → length qs + gone ≡ length ps → rs ≡ qs ++ (h, Some n) ∷ [] → IsDistinct nat_eq (keys_of rs)
    → ArePlaces rs (ended - gone)
added-places h n ps qs rs ended gone laws same len is unique = record {
  unique = unique;
  counted = omega (arith, laws.counted, some-ended ps qs ended gone laws same len, len, ap length same, ap length is, length-append qs ((h, Some n) ∷ []), ap length (added-live h n ps qs rs same is), length-append (live_links ps) ((h, n) ∷ []));
}
