-- What a draining collection shows of one set, and how many handles its entry has.
use Rattle.std.proofs.Common.{ℕ, ◌≡◌, List, [], ◌∷◌, ◌++◌, map, filter, Bool, true, false, cond, ◌||◌, ◌&&◌, Option, Some, None, is_some, refl, ap, sym, ◌∙◌, true≢false}
use Rattle.std.proofs.Math.Bool.{and-false}
use Rattle.std.specs.List.{AllByRecursion, IsDistinct}
use Rattle.std.specs.Map.{lookup, keys_of}
use Rattle.std.specs.Option.{option_map}
use Rattle.otel_common.specs.Equality.{set_eq}
use Rattle.otel_model_stream.specs.Sets.{AttributeSet, none_set}
use Rattle.otel_model_stream.specs.Entries.{Entry, point_of_entry, points}
use Rattle.otel_model_stream.specs.Observed.{fold_in}
use Rattle.otel_aggregate.specs.value_map.Slots.{Kept, Look, Keyed, entry_of, entry_at, table_at}
use Rattle.otel_aggregate.specs.value_map.Keyed.{Fits, IsConsistent}
use Rattle.otel_aggregate.specs.value_map.Numbers.{number_of, handles_in, handles_at}
use Rattle.otel_aggregate.proofs.value_map.TableLemmas.{shown_of}
use Rattle.otel_aggregate.proofs.value_map.KeyedLemmas.{same_set, set_eq-flip, entry-set, lookup-all}

hit : (s : AttributeSet) (look : Look) (x : Keyed) → set_eq (entry_at look x).set s ≡ set_eq s x.0
hit s look x = ap (λ t. set_eq t s) (entry-set x.0 (look x.1)) ∙ set_eq-flip x.0 s

-- the point of a set is that of its entry, if it has one
fold_in-lookup : (s : AttributeSet) (look : Look) (es : List Keyed) → fold_in (shown_of true (map (entry_at look) es)) s ≡ option_map (λ n. (entry_at look (s, n)).fold) (lookup (set_eq s) es)
fold_in-lookup s look [] = refl
fold_in-lookup s look (x ∷ es) = ap (λ b. cond b (Some (entry_at look x).fold) (fold_in (shown_of true (map (entry_at look) es)) s)) (hit s look x) ∙ by (set_eq s x.0) refl (fold_in-lookup s look es)
  where
    by : (b : Bool) → set_eq s x.0 ≡ b → fold_in (shown_of true (map (entry_at look) es)) s ≡ option_map (λ n. (entry_at look (s, n)).fold) (lookup (set_eq s) es)
        → cond b (Some (entry_at look x).fold) (fold_in (shown_of true (map (entry_at look) es)) s) ≡ option_map (λ n. (entry_at look (s, n)).fold) (cond b (Some x.1) (lookup (set_eq s) es))
    by true q ih = ap (λ (t : AttributeSet). Some (entry_at look (t, x.1)).fold) (sym (same_set s x.0 q))
    by false q ih = ih

pub fold_in-absent : (s : AttributeSet) (look : Look) (es : List Keyed) → lookup (set_eq s) es ≡ None → fold_in (shown_of true (map (entry_at look) es)) s ≡ None
fold_in-absent s look es e = fold_in-lookup s look es ∙ ap (option_map (λ n. (entry_at look (s, n)).fold)) e

pub fold_in-at : (s : AttributeSet) (look : Look) (es : List Keyed) (n : ℕ) → lookup (set_eq s) es ≡ Some n → AllByRecursion (Fits look) es → fold_in (shown_of true (map (entry_at look) es)) s ≡ option_map (λ (k : Kept). k.fold) (look n)
fold_in-at s look es n e h = fold_in-lookup s look es ∙ ap (option_map (λ n. (entry_at look (s, n)).fold)) e ∙ filled (look n) (lookup-all (Fits look) s es n e h).filled
  where
    filled : (o : Option Kept) → is_some o ≡ true → Some (entry_of s o).fold ≡ option_map (λ (k : Kept). k.fold) o
    filled None q = absurd (true≢false (sym q))
    filled (Some k) q = refl

-- no key is the empty set
none-absent : (look : Look) (s : AttributeSet) (es : List Keyed) → AllByRecursion (Fits look) es → set_eq s none_set ≡ true → lookup (set_eq s) es ≡ None
none-absent look s [] h e = refl
none-absent look s (x ∷ es) h e =
    let is : s ≡ none_set = same_set s none_set e in
    ap (λ b. cond b (Some x.1) (lookup (set_eq s) es)) (ap (λ t. set_eq t x.0) is ∙ set_eq-flip none_set x.0 ∙ h.0.some) ∙ none-absent look s es h.1 e

module _ (look : Look) (none : ℕ) (es gs : List Keyed) (laws : IsConsistent look none es gs) (s : AttributeSet) where
  after_none : (b : Bool) (e : Entry) (rest : List Entry) (c : Bool) → set_eq e.set s ≡ c → fold_in (map point_of_entry (cond b (e ∷ []) [] ++ rest)) s ≡ cond (b && c) (Some e.fold) (fold_in (map point_of_entry rest) s)
  after_none true e rest true q = ap (λ c. cond c (Some e.fold) (fold_in (map point_of_entry rest) s)) q
  after_none true e rest false q = ap (λ c. cond c (Some e.fold) (fold_in (map point_of_entry rest) s)) q
  after_none false e rest c q = refl

  pub shown-none : set_eq s none_set ≡ true → fold_in (points true (table_at look none es)) s ≡ cond (entry_at look (none_set, none)).updated (Some (entry_at look (none_set, none)).fold) None
  shown-none e =
      after_none (entry_at look (none_set, none)).updated (entry_at look (none_set, none)) (filter (λ (x : Entry). true || x.updated) (map (entry_at look) es)) true (hit s look (none_set, none) ∙ e)
      ∙ by (entry_at look (none_set, none)).updated
    where
      by : (b : Bool) → cond (b && true) (Some (entry_at look (none_set, none)).fold) (fold_in (shown_of true (map (entry_at look) es)) s) ≡ cond b (Some (entry_at look (none_set, none)).fold) None
      by true = refl
      by false = fold_in-absent s look es (none-absent look s es laws.fits e)

  pub shown-some : set_eq s none_set ≡ false → fold_in (points true (table_at look none es)) s ≡ fold_in (shown_of true (map (entry_at look) es)) s
  shown-some e =
      after_none (entry_at look (none_set, none)).updated (entry_at look (none_set, none)) (filter (λ (x : Entry). true || x.updated) (map (entry_at look) es)) false (hit s look (none_set, none) ∙ e)
      ∙ ap (λ b. cond b (Some (entry_at look (none_set, none)).fold) (fold_in (shown_of true (map (entry_at look) es)) s)) (and-false (entry_at look (none_set, none)).updated)

-- the handles in the slot of a set are those of its entry
handles-among : (s : AttributeSet) (look : Look) (es : List Keyed) (n : ℕ) → lookup (set_eq s) es ≡ Some n → handles_in s (map (entry_at look) es) ≡ (entry_at look (s, n)).handles
handles-among s look [] n e = absurd (cc)
handles-among s look (x ∷ es) n e = ap (λ b. cond b (entry_at look x).handles (handles_in s (map (entry_at look) es))) (hit s look x) ∙ by (set_eq s x.0) refl e (handles-among s look es n)
  where
    by : (b : Bool) → set_eq s x.0 ≡ b → cond b (Some x.1) (lookup (set_eq s) es) ≡ Some n → (lookup (set_eq s) es ≡ Some n → handles_in s (map (entry_at look) es) ≡ (entry_at look (s, n)).handles)
        → cond b (entry_at look x).handles (handles_in s (map (entry_at look) es)) ≡ (entry_at look (s, n)).handles
    by true q r ih = let k : x.1 ≡ n = cc in λ i. (entry_at look (sym (same_set s x.0 q) i, k i)).handles
    by false q r ih = ih r

pub handles-kept : (look : Look) (none : ℕ) (es gs : List Keyed) (s : AttributeSet) (n : ℕ) → IsConsistent look none es gs → number_of s (record { none = none; sets = es }) ≡ Some n → option_map (λ (k : Kept). k.handles) (look n) ≡ Some (handles_at s (table_at look none es))
handles-kept look none es gs s n laws e = by (set_eq s none_set) refl e
  where
    filled : (o : Option Kept) → is_some o ≡ true → option_map (λ (k : Kept). k.handles) o ≡ Some (entry_of s o).handles
    filled None q = absurd (true≢false (sym q))
    filled (Some k) q = refl

    first : (b : Bool) → set_eq s none_set ≡ b → Some (cond b (entry_at look (none_set, none)).handles (handles_in s (map (entry_at look) es))) ≡ Some (handles_at s (table_at look none es))
    first b q = ap (λ c. Some (cond c (entry_at look (none_set, none)).handles (handles_in s (map (entry_at look) es)))) (sym (hit s look (none_set, none) ∙ q))

    by : (b : Bool) → set_eq s none_set ≡ b → cond b (Some none) (lookup (set_eq s) es) ≡ Some n → option_map (λ (k : Kept). k.handles) (look n) ≡ Some (handles_at s (table_at look none es))
    by true q r =
        let k : none ≡ n = cc in
        filled (look n) (ap (λ m. is_some (look m)) (sym k) ∙ laws.none_filled) ∙ (λ i. Some (entry_at look (same_set s none_set q i, sym k i)).handles) ∙ first true q
    by false q r = filled (look n) (lookup-all (Fits look) s es n r laws.fits).filled ∙ ap Some (sym (handles-among s look es n r)) ∙ first false q

-- where no set stands twice, one has no key before its own
pub absent-before : (es : List Keyed) (s : AttributeSet) (rest : List AttributeSet) → IsDistinct set_eq (keys_of es ++ s ∷ rest) → lookup (set_eq s) es ≡ None
unfolding IsDistinct
absent-before [] s rest d = refl
absent-before (x ∷ es) s rest d = ap (λ b. cond b (Some x.1) (lookup (set_eq s) es)) (set_eq-flip s x.0 ∙ among (keys_of es) d.0) ∙ absent-before es s rest d.1
  where
    among : (ks : List AttributeSet) → AllByRecursion (λ y. set_eq x.0 y ≡ false) (ks ++ s ∷ rest) → set_eq x.0 s ≡ false
    among [] h = h.0
    among (k ∷ ks) h = among ks h.1
