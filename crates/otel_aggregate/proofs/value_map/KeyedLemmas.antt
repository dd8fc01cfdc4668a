-- What a look-up tells of entries.
use Rattle.std.proofs.Common.{ℕ, ◌≡◌, Bool, true, false, cond, ◌||◌, List, [], ◌∷◌, Option, Some, None, is_some, map, length, ◌≤◌, refl, sym, ap, subst, ◌∙◌, nat_eq, true≢false, arith}
use Rattle.std.specs.List.{AllByRecursion, IsDistinct}
use Rattle.std.specs.Map.{lookup, keys_of, values_of}
use Rattle.std.specs.Set.{is_member}
use Rattle.std.specs.Option.{IfNone, IfSome}
use Rattle.std.proofs.Math.Bool.{or_comm}
use Rattle.std.proofs.lemmas.Map.Keys.{IsDistinct-head, IsDistinct-tail}
use Rattle.std.proofs.lemmas.List.{length-map}
use Rattle.std.proofs.lemmas.List.Elements.{All-from_recursion}
use Rattle.std.proofs.lemmas.Map.Views.{IfSome-lookup_from_All}
use Rattle.std.proofs.lemmas.Map.Made.{is_some-lookup, length-le_from_is_member}
use Rattle.std.specs.Cmp.{IsEquivalence}
use Rattle.std.specs.Cmp.Lexicographic.{lists_equiv}
use Rattle.std.proofs.lemmas.Bool.Decides.{nat_tests}
use Rattle.otel_common.specs.Canonical.{canon}
use Rattle.otel_common.specs.Equality.{set_eq, set_eq-Decides, key_value_eq_equiv}
use Rattle.otel_common.specs.declared.attributes.KeyValue.{KeyValue}
use Rattle.otel_model_stream.specs.Sets.{AttributeSet, none_set}
use Rattle.otel_model_stream.specs.Entries.{has}
use Rattle.std.specs.Option.{option_map}
use Rattle.slab.specs.Slab.{Slab, get}
use Rattle.otel_model_stream.specs.Folds.{Fold}
use Rattle.otel_aggregate.specs.declared.value_map.slots.Slot.{Slot}
use Rattle.otel_aggregate.specs.value_map.Slots.{Kept, Look, Keyed, kept_of, look_in, entry_of, entry_at, table_at, HasForm}
use Rattle.otel_aggregate.specs.value_map.Keyed.{Fits, Links, IsConsistent, found, first_of, is_lasting, is_counted}
use Rattle.otel_aggregate.proofs.All.{all-found}
use Rattle.otel_aggregate.specs.value_map.Numbers.{named_in, set_named, AreNamed, AreNumbered, IsNumberOf}

pub same_set : (s t : AttributeSet) → set_eq s t ≡ true → s ≡ t
same_set s t h = (set_eq-Decides s t).0 h

pub set_eq-self : (s : AttributeSet) → set_eq s s ≡ true
set_eq-self s = (set_eq-Decides s s).1 refl

pub set_eq_equiv : IsEquivalence set_eq
set_eq_equiv = lists_equiv key_value_eq_equiv

pub same_number : (n : ℕ) → nat_eq n n ≡ true
same_number n = grind (arith, nat_tests)

-- the test of sets is the same both ways round
pub set_eq-flip : (a b : AttributeSet) → set_eq a b ≡ set_eq b a
set_eq-flip a b = set_eq_equiv.symm a b

pub entry-set : (s : AttributeSet) (o : Option Kept) → (entry_of s o).set ≡ s
entry-set s None = refl
entry-set s (Some k) = refl

-- a set has an entry exactly if it is a key
pub has_lookup : (s : AttributeSet) (look : Look) (es : List Keyed) → has s (map (entry_at look) es) ≡ is_some (lookup (set_eq s) es)
has_lookup s look [] = refl
has_lookup s look (e ∷ es) = ap (λ t. set_eq t s || has s (map (entry_at look) es)) (entry-set e.0 (look e.1)) ∙ ap (λ b. b || has s (map (entry_at look) es)) (set_eq-flip e.0 s) ∙ by (set_eq s e.0) (has_lookup s look es)
  where
    by : (b : Bool) → has s (map (entry_at look) es) ≡ is_some (lookup (set_eq s) es) → (b || has s (map (entry_at look) es)) ≡ is_some (cond b (Some e.1) (lookup (set_eq s) es))
    by true h = refl
    by false h = h

-- a number that is found is none from which all differ
pub lookup-away : (s : AttributeSet) (es : List Keyed) (m n : ℕ) → lookup (set_eq s) es ≡ Some n → AllByRecursion (λ y. nat_eq m y ≡ false) (values_of es) → nat_eq m n ≡ false
lookup-away s es m n e h =
    let apart : ℕ → Type 0 = λ y. nat_eq m y ≡ false in
    subst (λ (o : Option ℕ). IfSome o apart) e (IfSome-lookup_from_All apart (set_eq s) es (All-from_recursion apart (values_of es) h))

-- what holds of each key holds of one that is found
pub lookup-all : (P : Keyed → Type 0) (s : AttributeSet) (es : List Keyed) (n : ℕ) → lookup (set_eq s) es ≡ Some n → AllByRecursion P es → P (s, n)
lookup-all P s es n e h = let found = all-found P (set_eq s) es n e h in subst (λ t. P (t, n)) (sym (same_set s found.0 found.1)) found.2

-- what is found under a list stands under its canonical form
pub found-canon : (look : Look) (none : ℕ) (es gs : List Keyed) (l : List KeyValue) (n : ℕ) → IsConsistent look none es gs → found l es gs ≡ Some n → lookup (set_eq (canon l)) es ≡ Some n
found-canon look none es gs l n laws e = by (lookup (set_eq l) es) refl e
  where
    by : (o : Option ℕ) → lookup (set_eq l) es ≡ o → first_of o (lookup (set_eq l) gs) ≡ Some n → lookup (set_eq (canon l)) es ≡ Some n
    by None q r = lookup-all (Links es) l gs n r laws.linked
    by (Some m) q r =
        let k : lookup (set_eq l) es ≡ Some n = cc in
        subst (λ t. lookup (set_eq t) es ≡ Some n) (sym (lookup-all (Fits look) l es n k laws.fits).canonical) k

pub some_first : (a b : Option ℕ) → is_some (first_of a b) ≡ (is_some a || is_some b)
some_first None b = refl
some_first (Some n) b = refl

-- slots that are as they were have the same entries
pub entries-same : (look other : Look) (n : ℕ) (es : List Keyed) → AllByRecursion (λ y. nat_eq n y ≡ false) (values_of es) → ((m : ℕ) → nat_eq n m ≡ false → other m ≡ look m) → map (entry_at other) es ≡ map (entry_at look) es
entries-same look other n [] h s = refl
entries-same look other n (x ∷ es) h s = λ i. entry_of x.0 (s x.1 h.0 i) ∷ entries-same look other n es h.1 s i

pub fits-as : (look other : Look) (x : Keyed) → is_some (other x.1) ≡ is_some (look x.1) → is_lasting (other x.1) ≡ is_lasting (look x.1) → Fits look x → Fits other x
fits-as look other x f l fit = record { filled = f ∙ fit.filled; lasting = l ∙ fit.lasting; canonical = fit.canonical; some = fit.some }

-- an empty table is kept
pub kept-new : (look : Look) (none : ℕ) → is_some (look none) ≡ true → is_lasting (look none) ≡ true → is_counted (look none) ≡ false → IsConsistent look none [] []
unfolding IsDistinct
kept-new look none filled lasts uncounted = record { none_filled = filled; none_lasts = lasts; none_uncounted = uncounted; apart = (tt, tt); unique = tt; fits = tt; linked = tt; single = tt }

-- ======== numbers ========
-- the set of a number that is found
pub named_in-lookup : (s : AttributeSet) (es : List Keyed) (n : ℕ) → lookup (set_eq s) es ≡ Some n → IsDistinct nat_eq (values_of es) → named_in n es ≡ s
unfolding IsDistinct
named_in-lookup s [] n e d = absurd (cc)
named_in-lookup s (x ∷ es) n e d = by (set_eq s x.0) refl e (λ r. named_in-lookup s es n r d.1)
  where
    by : (b : Bool) → set_eq s x.0 ≡ b → cond b (Some x.1) (lookup (set_eq s) es) ≡ Some n → (lookup (set_eq s) es ≡ Some n → named_in n es ≡ s) → cond (nat_eq n x.1) x.0 (named_in n es) ≡ s
    by true q r ih =
        let k : x.1 ≡ n = cc in
        let here : nat_eq n x.1 ≡ true = grind (arith, nat_tests) in
        ap (λ b. cond b x.0 (named_in n es)) here ∙ sym (same_set s x.0 q)
    by false q r ih =
        let other : nat_eq x.1 n ≡ false = lookup-away s es x.1 n r d.0 in
        let away : nat_eq n x.1 ≡ false = grind (arith, nat_tests) in
        ap (λ b. cond b x.0 (named_in n es)) away ∙ ih r

-- a set that is found has that number
pub number-found : (look : Look) (none : ℕ) (es gs : List Keyed) (s : AttributeSet) (n : ℕ) → IsConsistent look none es gs → lookup (set_eq s) es ≡ Some n → IsNumberOf s n (record { none = none; sets = es })
number-found look none es gs s n laws e =
    let apart : nat_eq none n ≡ false = lookup-away s es none n e (IsDistinct-head nat_eq none (values_of es) laws.apart) in
    let away : nat_eq n none ≡ false = grind (arith, nat_tests) in
    record {
      some = (lookup-all (Fits look) s es n e laws.fits).some;
      number = e;
      named = ap (λ b. cond b none_set (named_in n es)) away ∙ named_in-lookup s es n e (IsDistinct-tail nat_eq none (values_of es) laws.apart);
    }

-- a set that has a number is named by it
pub numbers_name : (look : Look) (none : ℕ) (es gs : List Keyed) → IsConsistent look none es gs → AreNamed (record { none = none; sets = es })
numbers_name look none es gs laws s n e = by (set_eq s none_set) refl e
  where
    by : (b : Bool) → set_eq s none_set ≡ b → cond b (Some none) (lookup (set_eq s) es) ≡ Some n → set_named n (record { none = none; sets = es }) ≡ s
    by true q r =
        let k : none ≡ n = cc in
        let here : nat_eq n none ≡ true = grind (arith, nat_tests) in
        ap (λ b. cond b none_set (named_in n es)) here ∙ sym (same_set s none_set q)
    by false q r = (number-found look none es gs s n laws r).named

-- the sets with entries are those with numbers
pub numbers_placed : (look : Look) (none : ℕ) (es : List Keyed) → AreNumbered (map (entry_at look) es) (record { none = none; sets = es })
numbers_placed look none es s = by (set_eq s none_set) ∙ ap (λ b. set_eq s none_set || b) (sym (has_lookup s look es))
  where
    by : (b : Bool) → is_some (cond b (Some none) (lookup (set_eq s) es)) ≡ (b || is_some (lookup (set_eq s) es))
    by true = refl
    by false = refl

-- the same of what is found, if anything
pub if_found : (look : Look) (none : ℕ) (es gs : List Keyed) (s : AttributeSet) (o : Option ℕ) → IsConsistent look none es gs → (is_some o ≡ true → o ≡ lookup (set_eq s) es) → IfSome o (λ n. IsNumberOf s n (record { none = none; sets = es }))
if_found look none es gs s None laws e = tt
if_found look none es gs s (Some n) laws e = number-found look none es gs s n laws (sym (e refl))

-- a list that is found is known
pub found_known : (look : Look) (es gs : List Keyed) (l : List KeyValue) → is_some (found l es gs) ≡ (is_member set_eq (keys_of gs) l || has l (map (entry_at look) es))
found_known look es gs l =
    some_first (lookup (set_eq l) es) (lookup (set_eq l) gs)
    ∙ (λ i. sym (has_lookup l look es) i || is_some-lookup (set_eq l) gs i)
    ∙ or_comm (has l (map (entry_at look) es)) (is_member set_eq (keys_of gs) l)

-- what a list leads to is the entry of its set
pub found_placed : (look : Look) (none : ℕ) (es gs : List Keyed) (l : List KeyValue) (o : Option ℕ) → IsConsistent look none es gs → o ≡ found l es gs
    → IfSome o (λ _. has (canon l) (map (entry_at look) es) ≡ true) × IfSome o (λ n. IsNumberOf (canon l) n (record { none = none; sets = es }))
found_placed look none es gs l None laws e = (tt, tt)
found_placed look none es gs l (Some n) laws e =
    let there : lookup (set_eq (canon l)) es ≡ Some n = found-canon look none es gs l n laws (sym e) in
    (has_lookup (canon l) look es ∙ ap is_some there, number-found look none es gs (canon l) n laws there)

-- a list whose set isn't found leads to no entry
pub unfound : (look : Look) (none : ℕ) (es gs : List Keyed) (l : List KeyValue) (o : Option ℕ) → IsConsistent look none es gs → o ≡ lookup (set_eq (canon l)) es
    → IfNone o ((is_member set_eq (keys_of gs) l || has l (map (entry_at look) es)) ≡ false)
unfound look none es gs l (Some n) laws e = tt
unfound look none es gs l None laws e = sym (found_known look es gs l) ∙ ap is_some (lost (found l es gs) refl)
  where
    lost : (o : Option ℕ) → found l es gs ≡ o → o ≡ None
    lost None q = refl
    lost (Some n) q = let there : lookup (set_eq (canon l)) es ≡ Some n = found-canon look none es gs l n laws q in absurd (cc)

-- what the empty set's slot has
pub form_kept : {A : Type 0} (meaning : A → Fold) (slots : Slab (Slot A)) (none : ℕ) (es gs : List Keyed) → IsConsistent (look_in meaning slots) none es gs → HasForm meaning (table_at (look_in meaning slots) none es)
form_kept meaning slots none es gs laws = by (get slots none) laws.none_filled laws.none_uncounted
  where
    by : (o : Option (Slot _)) → is_some (option_map (kept_of meaning) o) ≡ true → is_counted (option_map (kept_of meaning) o) ≡ false
        → HasForm meaning (record { none = entry_of none_set (option_map (kept_of meaning) o); entries = map (entry_at (look_in meaning slots)) es })
    by None f u = absurd (true≢false (sym f))
    by (Some slot) f u = (slot.aggregator, λ i. record { set = none_set; counted = u i; updated = slot.updated; fold = meaning slot.aggregator; handles = slot.handles })

-- ======== how many keys ========
-- the set of a list that is linked is a key
pub linked-set : (es gs : List Keyed) (s : AttributeSet) → AllByRecursion (Links es) gs → is_member set_eq (map canon (keys_of gs)) s ≡ true → is_some (lookup (set_eq s) es) ≡ true
linked-set es [] s linked h = absurd (true≢false (sym h))
linked-set es (g ∷ gs) s linked h = by (set_eq s (canon g.0)) refl h (linked-set es gs s linked.1)
  where
    by : (b : Bool) → set_eq s (canon g.0) ≡ b → (b || is_member set_eq (map canon (keys_of gs)) s) ≡ true
        → (is_member set_eq (map canon (keys_of gs)) s ≡ true → is_some (lookup (set_eq s) es) ≡ true) → is_some (lookup (set_eq s) es) ≡ true
    by true q h ih = ap (λ t. is_some (lookup (set_eq t) es)) (same_set s (canon g.0) q) ∙ ap is_some linked.0
    by false q h ih = ih h

-- there are at most as many lists as sets
pub lists_few : (look : Look) (none : ℕ) (es gs : List Keyed) → IsConsistent look none es gs → length gs ≤ length es
lists_few look none es gs laws = omega (arith, few, length-map (keys_of gs) canon, length-map gs (λ (e : Keyed). e.0), length-map es (λ (e : Keyed). e.0))
  where
    few : length (map canon (keys_of gs)) ≤ length (keys_of es)
    few = length-le_from_is_member set_eq_equiv (map canon (keys_of gs)) (keys_of es) laws.single (λ s h. sym (is_some-lookup (set_eq s) es) ∙ linked-set es gs s laws.linked h)
