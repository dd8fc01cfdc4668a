-- Which families can't stand beside others, as names tell it.
use Rattle.std.proofs.Common.{◌≡◌, ℕ, ◌&&◌, ◌||◌, Bool, true, false, List, [], ◌∷◌, ◌++◌, length, take, drop, map, refl, sym, ap, ◌∙◌}
use Rattle.std.proofs.lemmas.Bool.{true≢false}
use Rattle.std.proofs.lemmas.List.{take-append-drop, take_at, drop_at, map-append}
use Rattle.std.proofs.lemmas.List.Folds.{list_any-append}
use Rattle.std.specs.Cmp.Lexicographic.{bytes_decides}
use Rattle.std.specs.List.{list_any}
use Rattle.otel_common.specs.Equality.{bytes_eq}
use Rattle.otel_prometheus.specs.Families.{is_refused}
use Rattle.otel_prometheus.specs.Groups.{sample_names, names_of, sample_names_of}
use Rattle.otel_prometheus.specs.Headings.{sample_ends, may_be_sample, clashes, is_reserved}
use Rattle.otel_prometheus.specs.Laws.{StandApart}
use Rattle.otel_prometheus.specs.declared.families.Family.{Family}
use Rattle.otel_prometheus.specs.declared.headings.Heading.{Heading}

-- ======== tests ========
pub same_test : (a b : Bool) → (a ≡ true → b ≡ true) → (b ≡ true → a ≡ true) → a ≡ b
same_test true true f g = refl
same_test true false f g = sym (f refl)
same_test false true f g = g refl
same_test false false f g = refl

pub both_true : (a b : Bool) → (a && b) ≡ true → (a ≡ true) × (b ≡ true)
both_true true b e = (refl, e)
both_true false b e = absurd (true≢false (sym e))

pub and_true : (a b : Bool) → a ≡ true → b ≡ true → (a && b) ≡ true
and_true true b e f = f
and_true false b e f = e

pub and_false : (a b : Bool) → b ≡ false → (a && b) ≡ false
and_false true b e = e
and_false false b e = refl

pub left_true : (a b : Bool) → a ≡ true → (a || b) ≡ true
left_true true b e = refl
left_true false b e = absurd (true≢false (sym e))

pub right_true : (a b : Bool) → b ≡ true → (a || b) ≡ true
right_true true b e = refl
right_true false b e = e

pub both_false : (a b : Bool) → (a || b) ≡ false → (a ≡ false) × (b ≡ false)
both_false true b e = absurd (true≢false e)
both_false false b e = (refl, e)

pub or_false : (a b : Bool) → (a ≡ true → a ≡ false) → b ≡ false → (a || b) ≡ false
or_false true b e f = absurd (true≢false (e refl))
or_false false b e f = f

and_or : (a b c : Bool) → (a && (b || c)) ≡ ((a && b) || (a && c))
and_or true b c = refl
and_or false b c = refl

regroup : (a b c n s t : Bool) → ((a || b || c) || (n || (s || t))) ≡ ((a || n) || ((b || s) || (c || t)))
regroup true b c n s t = refl
regroup false true c true s t = refl
regroup false true c false s t = refl
regroup false false true true s t = refl
regroup false false true false true t = refl
regroup false false true false false t = refl
regroup false false false n s t = refl

or_pairs : (a b c d : Bool) → ((a || b) || (c || d)) ≡ ((a || c) || (b || d))
or_pairs true b c d = refl
or_pairs false true true d = refl
or_pairs false true false d = refl
or_pairs false false c d = refl

-- ======== lists ========
module _ {A : Type 0} where
  any_none : (xs : List A) → list_any (λ x. false) xs ≡ false
  any_none [] = refl
  any_none (x ∷ xs) = any_none xs

  any_or : (p q : A → Bool) (xs : List A) → list_any (λ x. p x || q x) xs ≡ (list_any p xs || list_any q xs)
  any_or p q [] = refl
  any_or p q (x ∷ xs) = ap (λ t. (p x || q x) || t) (any_or p q xs) ∙ or_pairs (p x) (q x) (list_any p xs) (list_any q xs)

  any_same : (p q : A → Bool) → ((x : A) → p x ≡ q x) → (xs : List A) → list_any p xs ≡ list_any q xs
  any_same p q e [] = refl
  any_same p q e (x ∷ xs) = λ i. e x i || any_same p q e xs i

pub eq_sym : (a b : List ℕ) → bytes_eq a b ≡ bytes_eq b a
eq_sym a b =
    same_test (bytes_eq a b) (bytes_eq b a)
    (λ e. (bytes_decides b a).1 (sym ((bytes_decides a b).0 e)))
    (λ e. (bytes_decides a b).1 (sym ((bytes_decides b a).0 e)))

-- ======== names of samples ========
front_and_end : (l p e : List ℕ) → (bytes_eq p (take (length p) l) && bytes_eq (drop (length p) l) e) ≡ bytes_eq l (p ++ e)
front_and_end l p e =
    same_test (bytes_eq p (take (length p) l) && bytes_eq (drop (length p) l) e) (bytes_eq l (p ++ e))
    (λ h. let k = both_true (bytes_eq p (take (length p) l)) (bytes_eq (drop (length p) l) e) h in
    (bytes_decides l (p ++ e)).1 (sym (take-append-drop (length p) l) ∙ (λ i. sym ((bytes_decides p (take (length p) l)).0 k.0) i ++ (bytes_decides (drop (length p) l) e).0 k.1 i)))
    (λ h. let k : l ≡ p ++ e = (bytes_decides l (p ++ e)).0 h in
    and_true (bytes_eq p (take (length p) l)) (bytes_eq (drop (length p) l) e)
    ((bytes_decides p (take (length p) l)).1 (sym (take_at p e (length p) refl) ∙ sym (ap (take (length p)) k)))
    ((bytes_decides (drop (length p) l) e).1 (ap (drop (length p)) k ∙ drop_at p e (length p) refl)))

front_and_ends : (l p : List ℕ) (es : List (List ℕ)) → (bytes_eq p (take (length p) l) && list_any (bytes_eq (drop (length p) l)) es) ≡ list_any (bytes_eq l) (map (λ e. p ++ e) es)
front_and_ends l p [] = and_false (bytes_eq p (take (length p) l)) false refl
front_and_ends l p (e ∷ es) =
    and_or (bytes_eq p (take (length p) l)) (bytes_eq (drop (length p) l) e) (list_any (bytes_eq (drop (length p) l)) es)
    ∙ (λ i. front_and_end l p e i || front_and_ends l p es i)

sample_is : (a b : Heading) → may_be_sample a b ≡ list_any (bytes_eq b.name) (sample_names a)
sample_is a b = front_and_ends b.name a.name (sample_ends a.kind)

-- ======== names of families ========
abbrev pub named : List ℕ → List Family → Bool
named n fs = list_any (bytes_eq n) (names_of fs)

pub named_append : (n : List ℕ) (fs gs : List Family) → named n (fs ++ gs) ≡ (named n fs || named n gs)
named_append n fs gs = ap (list_any (bytes_eq n)) (map-append (λ f. f.heading.name) fs gs) ∙ list_any-append (bytes_eq n) (names_of fs) (names_of gs)

-- whether one of the names of samples is that of a family
abbrev pub takes : Heading → List Family → Bool
takes h fs = list_any (λ n. named n fs) (sample_names h)

taking : (h : Heading) (f : Family) (fs : List Family) → takes h (f ∷ fs) ≡ (may_be_sample h f.heading || takes h fs)
taking h f fs =
    any_or (λ n. bytes_eq n f.heading.name) (λ n. named n fs) (sample_names h)
    ∙ ap (λ t. t || takes h fs) (any_same (λ n. bytes_eq n f.heading.name) (bytes_eq f.heading.name) (λ n. eq_sym n f.heading.name) (sample_names h) ∙ sym (sample_is h f.heading))

clashes_by_name : (h : Heading) (fs : List Family) → list_any (λ f. clashes f.heading h) fs ≡ (named h.name fs || (list_any (bytes_eq h.name) (sample_names_of fs) || takes h fs))
clashes_by_name h [] = sym (any_none (sample_names h))
clashes_by_name h (f ∷ fs) =
    ap (λ t. clashes f.heading h || t) (clashes_by_name h fs)
    ∙ (regroup (bytes_eq f.heading.name h.name) (may_be_sample f.heading h) (may_be_sample h f.heading) (named h.name fs) (list_any (bytes_eq h.name) (sample_names_of fs)) (takes h fs)
    ∙ (λ i. (eq_sym f.heading.name h.name i || named h.name fs)
    || ((ap (λ t. t || list_any (bytes_eq h.name) (sample_names_of fs)) (sample_is f.heading h) ∙ sym (list_any-append (bytes_eq h.name) (sample_names f.heading) (sample_names_of fs))) i
    || sym (taking h f fs) i)))

pub refused_by_name : (h : Heading) (fs : List Family) → is_refused fs h ≡ (is_reserved h.name || (named h.name fs || (list_any (bytes_eq h.name) (sample_names_of fs) || takes h fs)))
refused_by_name h fs = ap (λ t. is_reserved h.name || t) (clashes_by_name h fs)

pub refused_if_named : (h : Heading) (fs : List Family) → named h.name fs ≡ true → is_refused fs h ≡ true
refused_if_named h fs e =
    refused_by_name h fs
    ∙ right_true (is_reserved h.name) (named h.name fs || (list_any (bytes_eq h.name) (sample_names_of fs) || takes h fs)) (left_true (named h.name fs) (list_any (bytes_eq h.name) (sample_names_of fs) || takes h fs) e)

-- no two of families that stand apart have one name
pub others_named : (n : List ℕ) (before fs : List Family) → StandApart before fs → named n before ≡ true → named n fs ≡ false
others_named n before [] s e = refl
others_named n before (f ∷ fs) s e =
    or_false (bytes_eq n f.heading.name) (named n fs)
    (λ h. absurd (true≢false (sym (refused_if_named f.heading before (ap (λ m. named m before) (sym ((bytes_decides n f.heading.name).0 h)) ∙ e)) ∙ s.0)))
    (others_named n (before ++ f ∷ []) fs s.1 (named_append n before (f ∷ []) ∙ left_true (named n before) (named n (f ∷ [])) e))
