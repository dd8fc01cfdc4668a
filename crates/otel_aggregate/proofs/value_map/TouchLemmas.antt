-- A change in one slot is a change of one entry.
use Rattle.std.proofs.Common.{ℕ, ◌+◌, ◌≡◌, Bool, true, false, cond, List, [], ◌∷◌, Option, Some, None, is_some, map, refl, sym, ap, subst, ◌∙◌, nat_eq, true≢false, arith}
use Rattle.std.specs.List.{AllByRecursion, IsDistinct, list_any}
use Rattle.std.specs.Map.{lookup, keys_of, values_of}
use Rattle.std.specs.Option.{option_map}
use Rattle.std.proofs.lemmas.Bool.{or_parts}
use Rattle.std.proofs.lemmas.Bool.Decides.{nat_tests}
use Rattle.std.proofs.lemmas.Map.Keys.{IsDistinct-head, IsDistinct-tail}
use Rattle.otel_common.specs.Equality.{set_eq}
use Rattle.otel_model_stream.specs.Sets.{AttributeSet, none_set}
use Rattle.otel_model_stream.specs.Entries.{Entry, on, is_of, at_entry, number_counted}
use Rattle.otel_aggregate.specs.value_map.Slots.{Kept, Look, SameLook, Keyed, at_slot, entry_of, entry_at, table_at}
use Rattle.otel_aggregate.specs.value_map.Keyed.{Fits, IsConsistent, is_lasting, is_counted}
use Rattle.otel_aggregate.specs.value_map.Numbers.{number_of, is_number}
use Rattle.otel_aggregate.proofs.All.{all-map, all-each}
use Rattle.otel_aggregate.proofs.value_map.TableLemmas.{counted_cons}
use Rattle.otel_aggregate.proofs.value_map.KeyedLemmas.{same_set, set_eq-flip, same_number, entry-set, lookup-away, entries-same, fits-as}

module _ (f : Kept → Kept) (g : Entry → Entry) (as_entry : (s : AttributeSet) (k : Kept) → entry_of s (Some (f k)) ≡ g (entry_of s (Some k))) (lasts : (k : Kept) → (f k).lasting ≡ k.lasting) (counts : (k : Kept) → (f k).counted ≡ k.counted)
    (look other : Look) (n : ℕ) (w : SameLook other (at_slot n f look)) where
  elsewhere : (m : ℕ) → nat_eq n m ≡ false → other m ≡ look m
  elsewhere m q = w m ∙ ap (λ b. cond b (option_map f (look m)) (look m)) q

  entry-touched : (s : AttributeSet) → is_some (look n) ≡ true → entry_of s (other n) ≡ g (entry_of s (look n))
  entry-touched s is = ap (entry_of s) (w n ∙ ap (λ b. cond b (option_map f (look n)) (look n)) (same_number n)) ∙ by (look n) is
    where
      by : (o : Option Kept) → is_some o ≡ true → entry_of s (option_map f o) ≡ g (entry_of s o)
      by None q = absurd (true≢false (sym q))
      by (Some k) q = as_entry s k

  -- what the change keeps
  same-touched : {X : Type 0} (p : Option Kept → X) → ((k : Kept) → p (Some (f k)) ≡ p (Some k)) → (m : ℕ) → p (other m) ≡ p (look m)
  same-touched p same m = ap p (w m) ∙ by (nat_eq n m) (look m)
    where
      by : (b : Bool) (o : Option Kept) → p (cond b (option_map f o) o) ≡ p o
      by true None = refl
      by true (Some k) = same k
      by false o = refl

  pub kept-touched : (none : ℕ) (es gs : List Keyed) → IsConsistent look none es gs → IsConsistent other none es gs
  kept-touched none es gs laws = record {
    none_filled = same-touched is_some (λ k. refl) none ∙ laws.none_filled;
    none_lasts = same-touched is_lasting lasts none ∙ laws.none_lasts;
    none_uncounted = same-touched is_counted counts none ∙ laws.none_uncounted;
    apart = laws.apart;
    unique = laws.unique;
    linked = laws.linked;
    single = laws.single;
    fits = all-each (Fits look) (Fits other) (λ x h. fits-as look other x (same-touched is_some (λ k. refl) x.1) (same-touched is_lasting lasts x.1) h) es laws.fits;
  }

  -- where no key is of the set, a change at it changes nothing
  on-none : (s : AttributeSet) (es : List Keyed) → AllByRecursion (λ k. set_eq s k ≡ false) (keys_of es) → map (on s g) (map (entry_at look) es) ≡ map (entry_at look) es
  on-none s [] h = refl
  on-none s (x ∷ es) h =
      let miss : is_of s (entry_at look x) ≡ false = ap (λ t. set_eq t s) (entry-set x.0 (look x.1)) ∙ set_eq-flip x.0 s ∙ h.0 in
      λ i. cond (miss i) (g (entry_at look x)) (entry_at look x) ∷ on-none s es h.1 i

  entries-touched : (s : AttributeSet) (es : List Keyed) → lookup (set_eq s) es ≡ Some n → IsDistinct nat_eq (values_of es) → IsDistinct set_eq (keys_of es) → AllByRecursion (Fits look) es
      → map (entry_at other) es ≡ map (on s g) (map (entry_at look) es)
  unfolding IsDistinct
  entries-touched s [] e d u h = absurd (cc)
  entries-touched s (x ∷ es) e d u h = by (set_eq s x.0) refl e (λ r. entries-touched s es r d.1 u.1 h.1)
    where
      hit : (b : Bool) → set_eq s x.0 ≡ b → is_of s (entry_at look x) ≡ b
      hit b q = ap (λ t. set_eq t s) (entry-set x.0 (look x.1)) ∙ set_eq-flip x.0 s ∙ q

      by : (b : Bool) → set_eq s x.0 ≡ b → cond b (Some x.1) (lookup (set_eq s) es) ≡ Some n → (lookup (set_eq s) es ≡ Some n → map (entry_at other) es ≡ map (on s g) (map (entry_at look) es))
          → entry_at other x ∷ map (entry_at other) es ≡ cond (is_of s (entry_at look x)) (g (entry_at look x)) (entry_at look x) ∷ map (on s g) (map (entry_at look) es)
      by true q r ih =
          let k : n ≡ x.1 = cc in
          let here : entry_of x.0 (other x.1) ≡ g (entry_of x.0 (look x.1)) = subst (λ m. entry_of x.0 (other m) ≡ g (entry_of x.0 (look m))) k (entry-touched x.0 (ap (λ m. is_some (look m)) k ∙ h.0.filled)) in
          let away : AllByRecursion (λ y. nat_eq n y ≡ false) (values_of es) = subst (λ m. AllByRecursion (λ y. nat_eq m y ≡ false) (values_of es)) (sym k) d.0 in
          let others : AllByRecursion (λ y. set_eq s y ≡ false) (keys_of es) = subst (λ t. AllByRecursion (λ y. set_eq t y ≡ false) (keys_of es)) (sym (same_set s x.0 q)) u.0 in
          λ i. (here ∙ ap (λ b. cond b (g (entry_at look x)) (entry_at look x)) (sym (hit true q))) i ∷ (entries-same look other n es away elsewhere ∙ sym (on-none s es others)) i
      by false q r ih =
          let apart : nat_eq x.1 n ≡ false = lookup-away s es x.1 n r d.0 in
          let back : nat_eq n x.1 ≡ false = grind (arith, nat_tests) in
          λ i. (ap (entry_of x.0) (elsewhere x.1 back) ∙ ap (λ b. cond b (g (entry_at look x)) (entry_at look x)) (sym (hit false q))) i ∷ ih r i

  -- the change is one at the entry of the set whose number it is
  pub table-touched : (none : ℕ) (es gs : List Keyed) (s : AttributeSet) → IsConsistent look none es gs → number_of s (record { none = none; sets = es }) ≡ Some n → table_at other none es ≡ at_entry s g (table_at look none es)
  table-touched none es gs s laws e = by (set_eq s none_set) refl e
    where
      by : (b : Bool) → set_eq s none_set ≡ b → cond b (Some none) (lookup (set_eq s) es) ≡ Some n → table_at other none es ≡ at_entry s g (table_at look none es)
      by true q r =
          let k : n ≡ none = cc in
          let is : s ≡ none_set = same_set s none_set q in
          let here : entry_of none_set (other none) ≡ g (entry_of none_set (look none)) = subst (λ m. entry_of none_set (other m) ≡ g (entry_of none_set (look m))) k (entry-touched none_set (ap (λ m. is_some (look m)) k ∙ laws.none_filled)) in
          let hit : is_of s (entry_at look (none_set, none)) ≡ true = ap (λ t. set_eq t s) (entry-set none_set (look none)) ∙ set_eq-flip none_set s ∙ q in
          let away : AllByRecursion (λ y. nat_eq n y ≡ false) (values_of es) = subst (λ m. AllByRecursion (λ y. nat_eq m y ≡ false) (values_of es)) (sym k) (IsDistinct-head nat_eq none (values_of es) laws.apart) in
          let others : AllByRecursion (λ y. set_eq s y ≡ false) (keys_of es) = subst (λ t. AllByRecursion (λ y. set_eq t y ≡ false) (keys_of es)) (sym is) (all-map (Fits look) (λ k. set_eq none_set k ≡ false) (λ (x : Keyed). x.0) (λ x fit. set_eq-flip none_set x.0 ∙ fit.some) es laws.fits) in
          λ i. record {
            none = (here ∙ ap (λ b. cond b (g (entry_at look (none_set, none))) (entry_at look (none_set, none))) (sym hit)) i;
            entries = (entries-same look other n es away elsewhere ∙ sym (on-none s es others)) i;
          }
      by false q r =
          let apart : nat_eq none n ≡ false = lookup-away s es none n r (IsDistinct-head nat_eq none (values_of es) laws.apart) in
          let back : nat_eq n none ≡ false = grind (arith, nat_tests) in
          let miss : is_of s (entry_at look (none_set, none)) ≡ false = ap (λ t. set_eq t s) (entry-set none_set (look none)) ∙ set_eq-flip none_set s ∙ q in
          let rest = entries-touched s es r (IsDistinct-tail nat_eq none (values_of es) laws.apart) laws.unique laws.fits in
          λ i. record {
            none = (ap (entry_of none_set) (elsewhere none back) ∙ ap (λ b. cond b (g (entry_at look (none_set, none))) (entry_at look (none_set, none))) (sym miss)) i;
            entries = rest i;
          }

  -- no change where no entry has the number
  pub table-untouched : (none : ℕ) (es : List Keyed) → is_number n (record { none = none; sets = es }) ≡ false → table_at other none es ≡ table_at look none es
  table-untouched none es e =
      let q = or_parts (nat_eq n none) (list_any (λ (k : Keyed). nat_eq n k.1) es) e in
      λ i. record { none = ap (entry_of none_set) (elsewhere none q.0) i; entries = entries-same look other n es (apart es q.1) elsewhere i }
    where
      apart : (es : List Keyed) → list_any (λ (k : Keyed). nat_eq n k.1) es ≡ false → AllByRecursion (λ y. nat_eq n y ≡ false) (values_of es)
      apart [] h = tt
      apart (k ∷ ks) h = let q = or_parts (nat_eq n k.1) (list_any (λ (k : Keyed). nat_eq n k.1) ks) h in (q.0, apart ks q.1)

  -- what is counted stays
  pub counted-touched : (es : List Keyed) → number_counted (map (entry_at other) es) ≡ number_counted (map (entry_at look) es)
  counted-touched [] = refl
  counted-touched (x ∷ es) =
      counted_cons (entry_at other x) (map (entry_at other) es)
      ∙ (λ i. cond (same-touched (λ o. (entry_of x.0 o).counted) counts x.1 i) 1 0 + counted-touched es i)
      ∙ sym (counted_cons (entry_at look x) (map (entry_at look) es))
