-- What a collection leaves in the slots, and of the keys.
use Rattle.std.proofs.Common.{ℕ, ◌≡◌, Bool, true, false, cond, ◌||◌, List, [], ◌∷◌, Option, Some, None, is_some, map, filter, refl, sym, ap, subst, ◌∙◌, nat_eq, nat_lt, true≢false}
use Rattle.std.specs.List.{AllByRecursion, IsDistinct}
use Rattle.std.specs.Map.{lookup, keys_of}
use Rattle.std.specs.Option.{option_map}
use Rattle.std.proofs.lemmas.Bool.{or_right}
use Rattle.std.proofs.lemmas.Map.Made.{IsDistinct-keys_filter}
use Rattle.std.proofs.lemmas.Simd.{map-map}
use Rattle.std.proofs.lemmas.Map.Entries.{lookup-filter-values, option_filter}
use Rattle.otel_common.specs.Canonical.{canon}
use Rattle.otel_common.specs.Equality.{set_eq}
use Rattle.otel_common.specs.declared.attributes.KeyValue.{KeyValue}
use Rattle.otel_model_stream.specs.Sets.{AttributeSet, none_set, over_set}
use Rattle.otel_model_stream.specs.Entries.{Entry, has, stays, reset, evicted_table}
use Rattle.otel_aggregate.specs.value_map.Slots.{Kept, Look, Keyed, remains, forgotten, left_of, entry_of, entry_at, table_at}
use Rattle.otel_aggregate.specs.value_map.Keyed.{Fits, Links, IsConsistent, is_lasting, is_counted}
use Rattle.otel_aggregate.specs.value_map.Numbers.{KeepLeft}
use Rattle.otel_aggregate.proofs.All.{all-passing, all-left, distinct-left}
use Rattle.otel_aggregate.proofs.value_map.KeyedLemmas.{set_eq_equiv, set_eq-flip, has_lookup, fits-as, kept-new}

-- what is filled is left
abbrev pub is_left : Look → Keyed → Bool
is_left other e = is_some (other e.1)

module _ (look other : Look) (w : (n : ℕ) → other n ≡ left_of (look n)) where
  entry-left : (s : AttributeSet) (n : ℕ) → is_some (look n) ≡ true → is_lasting (look n) ≡ set_eq s over_set
      → (is_some (other n) ≡ stays (entry_of s (look n))) × (stays (entry_of s (look n)) ≡ true → entry_of s (other n) ≡ reset (entry_of s (look n)))
  entry-left s n is lasts = by (look n) refl
    where
      two : (b : Bool) (k : Kept) (o : Option Kept) → o ≡ cond b (Some k) None → is_some o ≡ b
      two true k o q = ap is_some q
      two false k o q = ap is_some q

      by : (o : Option Kept) → look n ≡ o → (is_some (other n) ≡ stays (entry_of s o)) × (stays (entry_of s o) ≡ true → entry_of s (other n) ≡ reset (entry_of s o))
      by None q = absurd (true≢false (sym is ∙ ap is_some q))
      by (Some k) q =
          let same : k.lasting ≡ set_eq s over_set = sym (ap is_lasting q) ∙ lasts in
          let keep : remains k ≡ stays (entry_of s (Some k)) = ap (λ b. k.updated || (nat_lt 0 k.handles || b)) same in
          let new : other n ≡ cond (remains k) (Some (forgotten k)) None = w n ∙ ap left_of q in (
            two (remains k) (forgotten k) (other n) new ∙ keep,
            λ h. ap (entry_of s) (new ∙ ap (λ b. cond b (Some (forgotten k)) None) (keep ∙ h)),
          )

  -- the overflow set keeps its slot
  pub over-left : (es : List Keyed) → AllByRecursion (Fits look) es → lookup (set_eq over_set) (filter (is_left other) es) ≡ lookup (set_eq over_set) es
  over-left [] h = refl
  over-left (x ∷ es) h = by (set_eq over_set x.0) (is_left other x) refl refl (over-left es h.1)
    where
      stay : set_eq over_set x.0 ≡ true → is_left other x ≡ true
      stay q = (entry-left x.0 x.1 h.0.filled h.0.lasting).0 ∙ lasts (look x.1)
        where
          lasts : (o : Option Kept) → stays (entry_of x.0 o) ≡ true
          lasts None = set_eq-flip x.0 over_set ∙ q
          lasts (Some k) = or_right k.updated _ (or_right (nat_lt 0 k.handles) _ (set_eq-flip x.0 over_set ∙ q))

      by : (b c : Bool) → set_eq over_set x.0 ≡ b → is_left other x ≡ c → lookup (set_eq over_set) (filter (is_left other) es) ≡ lookup (set_eq over_set) es
          → lookup (set_eq over_set) (cond (is_left other x) (x ∷ filter (is_left other) es) (filter (is_left other) es)) ≡ cond (set_eq over_set x.0) (Some x.1) (lookup (set_eq over_set) es)
      by true true q p ih = rw (p, q) refl
      by true false q p ih = absurd (true≢false (sym (stay q) ∙ p))
      by false true q p ih = rw (p, q) ih
      by false false q p ih = rw (p, q) ih

  entries-left : (es : List Keyed) → AllByRecursion (Fits look) es → map (entry_at other) (filter (is_left other) es) ≡ map reset (filter stays (map (entry_at look) es))
  entries-left [] h = refl
  entries-left (x ∷ es) h =
      let facts = entry-left x.0 x.1 h.0.filled h.0.lasting in
      by (stays (entry_at look x)) facts.0 facts.1 (entries-left es h.1)
    where
      rest : List Keyed
      rest = filter (is_left other) es

      old : List Entry
      old = filter stays (map (entry_at look) es)

      by : (b : Bool) → is_left other x ≡ b → (b ≡ true → entry_at other x ≡ reset (entry_at look x)) → map (entry_at other) rest ≡ map reset old
          → map (entry_at other) (cond (is_left other x) (x ∷ rest) rest) ≡ map reset (cond b (entry_at look x ∷ old) old)
      by true p f ih = ap (λ b. map (entry_at other) (cond b (x ∷ rest) rest)) p ∙ (λ i. f refl i ∷ ih i)
      by false p f ih = ap (λ b. map (entry_at other) (cond b (x ∷ rest) rest)) p ∙ ih

  -- what forgetting keeps
  same-left : (f : Option Kept → Bool) → ((k : Kept) → f (Some (forgotten k)) ≡ f (Some k)) → (n : ℕ) → is_some (other n) ≡ true → f (other n) ≡ f (look n)
  same-left f same n s = by (look n) (w n)
    where
      deep : (k : Kept) (b : Bool) → other n ≡ cond b (Some (forgotten k)) None → f (other n) ≡ f (Some k)
      deep k true r = ap f r ∙ same k
      deep k false r = absurd (true≢false (sym s ∙ ap is_some r))

      by : (o : Option Kept) → other n ≡ left_of o → f (other n) ≡ f o
      by None q = ap f q
      by (Some k) q = deep k (remains k) q

  none-left : (none : ℕ) → is_some (look none) ≡ true → is_lasting (look none) ≡ true → (is_some (other none) ≡ true) × (entry_of none_set (other none) ≡ reset (entry_of none_set (look none)))
  none-left none is lasts = by (look none) refl
    where
      by : (o : Option Kept) → look none ≡ o → (is_some (other none) ≡ true) × (entry_of none_set (other none) ≡ reset (entry_of none_set o))
      by None q = absurd (true≢false (sym is ∙ ap is_some q))
      by (Some k) q =
          let keep : remains k ≡ true = or_right k.updated _ (or_right (nat_lt 0 k.handles) k.lasting (sym (ap is_lasting q) ∙ lasts)) in
          let new : other none ≡ Some (forgotten k) = w none ∙ ap left_of q ∙ ap (λ b. cond b (Some (forgotten k)) None) keep in
          (ap is_some new, ap (entry_of none_set) new)

  module _ (none : ℕ) (es gs : List Keyed) (laws : IsConsistent look none es gs) where
    lookup-left : (s : AttributeSet) (n : ℕ) → lookup (set_eq s) es ≡ Some n → lookup (set_eq s) (filter (is_left other) es) ≡ option_filter (λ m. is_some (other m)) (Some n)
    lookup-left s n e = lookup-filter-values set_eq_equiv (λ m. is_some (other m)) s es laws.unique ∙ ap (option_filter (λ m. is_some (other m))) e

    pub table-left : table_at other none (filter (is_left other) es) ≡ evicted_table (table_at look none es)
    table-left = λ i. record { none = (none-left none laws.none_filled laws.none_lasts).1 i; entries = entries-left es laws.fits i }

    pub kept-left : IsConsistent other none (filter (is_left other) es) (filter (is_left other) gs)
    unfolding IsDistinct
    kept-left =
        let n = none-left none laws.none_filled laws.none_lasts in
        record {
          none_filled = n.0;
          none_lasts = same-left is_lasting (λ k. refl) none n.0 ∙ laws.none_lasts;
          none_uncounted = same-left is_counted (λ k. refl) none n.0 ∙ laws.none_uncounted;
          apart = (all-left (λ y. nat_eq none y ≡ false) (λ (e : Keyed). e.1) (is_left other) es laws.apart.0, distinct-left nat_eq (λ (e : Keyed). e.1) (is_left other) es laws.apart.1);
          unique = IsDistinct-keys_filter set_eq (is_left other) es laws.unique;
          fits = all-passing (Fits look) (Fits other) (is_left other) (λ x q h. fits-as look other x (q ∙ sym h.filled) (same-left is_lasting (λ k. refl) x.1 q) h) es laws.fits;
          linked = all-passing (Links es) (Links (filter (is_left other) es)) (is_left other) (λ g q h. lookup-left (canon g.0) g.1 h ∙ ap (λ b. cond b (Some g.1) None) q) gs laws.linked;
          single = subst (IsDistinct set_eq) (sym (map-map canon (λ (g : Keyed). g.0) (filter (is_left other) gs))) (distinct-left set_eq (λ (g : Keyed). canon g.0) (is_left other) gs (subst (IsDistinct set_eq) (map-map canon (λ (g : Keyed). g.0) gs) laws.single));
        }

    -- an entry that is left keeps its number
    pub numbers-left : KeepLeft (map (entry_at other) (filter (is_left other) es)) (record { none = none; sets = es }) (record { none = none; sets = filter (is_left other) es })
    numbers-left s n e stands = by (set_eq s none_set) e stands
      where
        gone : (b : Bool) → is_some (cond b (Some n) None) ≡ true → cond b (Some n) None ≡ Some n
        gone true q = refl
        gone false q = absurd (true≢false (sym q))

        by : (b : Bool) → cond b (Some none) (lookup (set_eq s) es) ≡ Some n → (b || has s (map (entry_at other) (filter (is_left other) es))) ≡ true → cond b (Some none) (lookup (set_eq s) (filter (is_left other) es)) ≡ Some n
        by true q h = q
        by false q h =
            let there = lookup-left s n q in
            there ∙ gone (is_some (other n)) (sym (ap is_some there) ∙ sym (has_lookup s other (filter (is_left other) es)) ∙ h)

    -- the lists that are left are those whose sets have entries
    pub lists-left : (hs : List Keyed) → AllByRecursion (Links es) hs
        → keys_of (filter (is_left other) hs) ≡ filter (λ l. has (canon l) (map (entry_at other) (filter (is_left other) es))) (keys_of hs)
    lists-left [] h = refl
    lists-left (g ∷ hs) h = by (is_left other g) refl (lists-left hs h.1)
      where
        entry : has (canon g.0) (map (entry_at other) (filter (is_left other) es)) ≡ is_some (option_filter (λ m. is_some (other m)) (Some g.1))
        entry = has_lookup (canon g.0) other (filter (is_left other) es) ∙ ap is_some (lookup-left (canon g.0) g.1 h.0)

        those : List (List KeyValue)
        those = filter (λ l. has (canon l) (map (entry_at other) (filter (is_left other) es))) (keys_of hs)

        by : (b : Bool) → is_left other g ≡ b → keys_of (filter (is_left other) hs) ≡ those
            → keys_of (cond b (g ∷ filter (is_left other) hs) (filter (is_left other) hs)) ≡ cond (has (canon g.0) (map (entry_at other) (filter (is_left other) es))) (g.0 ∷ those) those
        by true q ih = ap (λ (l : List (List KeyValue)). g.0 ∷ l) ih ∙ ap (λ b. cond b (g.0 ∷ those) those) (sym (entry ∙ ap (λ b. is_some (cond b (Some g.1) None)) q))
        by false q ih = ih ∙ ap (λ b. cond b (g.0 ∷ those) those) (sym (entry ∙ ap (λ b. is_some (cond b (Some g.1) None)) q))

-- where all are forgotten but the empty set's
module _ (look other : Look) (none : ℕ) (es gs : List Keyed) (laws : IsConsistent look none es gs) (w : other none ≡ option_map forgotten (look none)) where
  pub kept-drained : IsConsistent other none [] []
  kept-drained = kept-new other none (ap is_some w ∙ (by (look none)).0 ∙ laws.none_filled) (ap is_lasting w ∙ (by (look none)).1 ∙ laws.none_lasts) (ap is_counted w ∙ (by (look none)).2 ∙ laws.none_uncounted)
    where
      by : (o : Option Kept) → (is_some (option_map forgotten o) ≡ is_some o) × (is_lasting (option_map forgotten o) ≡ is_lasting o) × (is_counted (option_map forgotten o) ≡ is_counted o)
      by None = (refl, refl, refl)
      by (Some k) = (refl, refl, refl)
