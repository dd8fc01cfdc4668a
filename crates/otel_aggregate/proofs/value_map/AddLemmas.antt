-- A new key and its slot.
use Rattle.std.proofs.Common.{ℕ, ◌≡◌, Bool, true, false, cond, ◌||◌, List, [], ◌∷◌, ◌++◌, Option, Some, None, is_some, map, refl, sym, ap, subst, ◌∙◌, nat_eq, true≢false, eqb-true}
use Rattle.std.specs.List.{AllByRecursion, IsDistinct, list_any}
use Rattle.std.specs.Map.{lookup, keys_of, values_of}
use Rattle.std.specs.Option.{option_or}
use Rattle.std.specs.Bool.{then_some}
use Rattle.std.specs.Set.{is_member}
use Rattle.std.proofs.lemmas.Bool.{false_from_ne_true}
use Rattle.std.proofs.lemmas.Cmp.{nat_eq_equiv}
use Rattle.std.proofs.lemmas.List.{map-append}
use Rattle.std.proofs.lemmas.Map.Keys.{IsDistinct-push}
use Rattle.std.proofs.lemmas.Map.Made.{is_some-lookup}
use Rattle.otel_common.specs.Canonical.{canon}
use Rattle.otel_common.specs.Equality.{set_eq}
use Rattle.otel_model_stream.specs.Sets.{AttributeSet, none_set, over_set}
use Rattle.otel_aggregate.specs.value_map.Slots.{Kept, Look, SameLook, Keyed, with_slot, entry_of, entry_at, table_at}
use Rattle.otel_aggregate.specs.value_map.Keyed.{Fits, Links, IsConsistent, IsNew, IsSpelling, is_lasting, is_counted, with_spelling}
use Rattle.otel_aggregate.specs.value_map.Numbers.{KeepNumbers}
use Rattle.otel_aggregate.proofs.All.{all-map, all-each, all-append}
use Rattle.otel_aggregate.proofs.value_map.KeyedLemmas.{set_eq-self, set_eq-flip, same_set, set_eq_equiv, same_number, entries-same, fits-as, linked-set}

any_none : (n : ℕ) (ys : List ℕ) → AllByRecursion (λ y. nat_eq n y ≡ false) ys → list_any (nat_eq n) ys ≡ false
any_none n [] h = refl
any_none n (y ∷ ys) h = ap (λ b. b || list_any (nat_eq n) ys) h.0 ∙ any_none n ys h.1

-- a filled slot is none that is free
fits-apart : (look : Look) (n m : ℕ) → is_some (look m) ≡ true → look n ≡ None → nat_eq n m ≡ false
fits-apart look n m filled vacant = false_from_ne_true (nat_eq n m) (λ q. true≢false (sym filled ∙ ap is_some (ap look (sym (eqb-true n m q)) ∙ vacant)))

fits-same : (look other : Look) (n : ℕ) (es : List Keyed) → AllByRecursion (λ y. nat_eq n y ≡ false) (values_of es) → ((m : ℕ) → nat_eq n m ≡ false → other m ≡ look m) → AllByRecursion (Fits look) es → AllByRecursion (Fits other) es
fits-same look other n [] h s fits = tt
fits-same look other n (x ∷ es) h s fits = (fits-as look other x (ap is_some (s x.1 h.0)) (ap is_lasting (s x.1 h.0)) fits.0, fits-same look other n es h.1 s fits.1)

lookup-push : (s : AttributeSet) (es : List Keyed) (y : Keyed) (m : ℕ) → lookup (set_eq s) es ≡ Some m → lookup (set_eq s) (es ++ y ∷ []) ≡ Some m
lookup-push s [] y m e = absurd (cc)
lookup-push s (x ∷ es) y m e = by (set_eq s x.0) e (lookup-push s es y m)
  where
    by : (b : Bool) → cond b (Some x.1) (lookup (set_eq s) es) ≡ Some m → (lookup (set_eq s) es ≡ Some m → lookup (set_eq s) (es ++ y ∷ []) ≡ Some m) → cond b (Some x.1) (lookup (set_eq s) (es ++ y ∷ [])) ≡ Some m
    by true r ih = r
    by false r ih = ih r

pub lookup-pushed : (s : AttributeSet) (es : List Keyed) (n : ℕ) → lookup (set_eq s) es ≡ None → lookup (set_eq s) (es ++ (s, n) ∷ []) ≡ Some n
lookup-pushed s [] n e = ap (λ b. cond b (Some n) None) (set_eq-self s)
lookup-pushed s (x ∷ es) n e = by (set_eq s x.0) e (lookup-pushed s es n)
  where
    by : (b : Bool) → cond b (Some x.1) (lookup (set_eq s) es) ≡ None → (lookup (set_eq s) es ≡ None → lookup (set_eq s) (es ++ (s, n) ∷ []) ≡ Some n) → cond b (Some x.1) (lookup (set_eq s) (es ++ (s, n) ∷ [])) ≡ Some n
    by true r ih = absurd (cc)
    by false r ih = ih r

lookup-other : (s : AttributeSet) (es : List Keyed) (y : Keyed) → set_eq s y.0 ≡ false → lookup (set_eq s) (es ++ y ∷ []) ≡ lookup (set_eq s) es
lookup-other s [] y q = ap (λ b. cond b (Some y.1) None) q
lookup-other s (x ∷ es) y q = ap (λ o. cond (set_eq s x.0) (Some x.1) o) (lookup-other s es y q)

-- the overflow set has the new number if it is the new set
pub over-pushed : (lasting : Bool) (set : AttributeSet) (es : List Keyed) (n : ℕ) → lasting ≡ set_eq set over_set → lookup (set_eq set) es ≡ None → lookup (set_eq over_set) (es ++ (set, n) ∷ []) ≡ option_or (then_some lasting n) (lookup (set_eq over_set) es)
over-pushed true set es n q absent = subst (λ s. lookup (set_eq s) (es ++ (set, n) ∷ []) ≡ Some n) (same_set set over_set (sym q)) (lookup-pushed set es n absent)
over-pushed false set es n q absent = lookup-other over_set es (set, n) (set_eq-flip over_set set ∙ sym q)

-- what entries had a number keep it
pub numbers-pushed : (none : ℕ) (es : List Keyed) (y : Keyed) → KeepNumbers (record { none = none; sets = es }) (record { none = none; sets = es ++ y ∷ [] })
numbers-pushed none es y s m e = by (set_eq s none_set) e
  where
    by : (b : Bool) → cond b (Some none) (lookup (set_eq s) es) ≡ Some m → cond b (Some none) (lookup (set_eq s) (es ++ y ∷ [])) ≡ Some m
    by true r = r
    by false r = lookup-push s es y m r

module _ (look other : Look) (none : ℕ) (es gs : List Keyed) (set : AttributeSet) (n : ℕ) (k : Kept)
    (laws : IsConsistent look none es gs) (vacant : look n ≡ None) (w : SameLook other (with_slot n k look)) (lasts : k.lasting ≡ set_eq set over_set) (new : IsNew es set) where
  rest_same : (m : ℕ) → nat_eq n m ≡ false → other m ≡ look m
  rest_same m q = w m ∙ ap (λ b. cond b (Some k) (look m)) q

  at_new : other n ≡ Some k
  at_new = w n ∙ ap (λ b. cond b (Some k) (look n)) (same_number n)

  away : AllByRecursion (λ y. nat_eq n y ≡ false) (values_of es)
  away = all-map (Fits look) (λ y. nat_eq n y ≡ false) (λ (e : Keyed). e.1) (λ x fit. fits-apart look n x.1 fit.filled vacant) es laws.fits

  none_away : nat_eq n none ≡ false
  none_away = fits-apart look n none laws.none_filled vacant

  pub table-added : table_at other none (es ++ (set, n) ∷ []) ≡ record (table_at look none es) { entries = map (entry_at look) es ++ entry_of set (Some k) ∷ [] }
  table-added = λ i. record {
    none = entry_of none_set (rest_same none none_away i);
    entries = (map-append (entry_at other) es ((set, n) ∷ []) ∙ (λ j. entries-same look other n es away rest_same j ++ entry_of set (at_new j) ∷ [])) i;
  }

  kept-keyed : IsConsistent other none (es ++ (set, n) ∷ []) gs
  kept-keyed = record {
    none_filled = ap is_some (rest_same none none_away) ∙ laws.none_filled;
    none_lasts = ap is_lasting (rest_same none none_away) ∙ laws.none_lasts;
    none_uncounted = ap is_counted (rest_same none none_away) ∙ laws.none_uncounted;
    apart = subst (IsDistinct nat_eq) (ap (λ l. none ∷ l) (sym (map-append (λ (e : Keyed). e.1) es ((set, n) ∷ []))))
        (IsDistinct-push nat_eq_equiv (none ∷ values_of es) n laws.apart (any_none n (none ∷ values_of es) (none_away, away)));
    unique = subst (IsDistinct set_eq) (sym (map-append (λ (e : Keyed). e.0) es ((set, n) ∷ [])))
        (IsDistinct-push set_eq_equiv (keys_of es) set laws.unique (sym (is_some-lookup (set_eq set) es) ∙ ap is_some new.absent));
    fits = all-append (Fits other) es ((set, n) ∷ []) (fits-same look other n es away rest_same laws.fits)
        (record { filled = ap is_some at_new; lasting = ap is_lasting at_new ∙ lasts; canonical = new.canonical; some = new.some }, tt);
    linked = all-each (Links es) (Links (es ++ (set, n) ∷ [])) (λ g. lookup-push (canon g.0) es (set, n) g.1) gs laws.linked;
    single = laws.single;
  }

  -- no list is of the new set
  unlisted : is_member set_eq (map canon (keys_of gs)) set ≡ false
  unlisted = false_from_ne_true _ (λ h. true≢false (sym (linked-set es gs set laws.linked h) ∙ ap is_some new.absent))

  pub kept-added : (list : Option AttributeSet) → IsSpelling gs set list → IsConsistent other none (es ++ (set, n) ∷ []) (with_spelling list n gs)
  kept-added None can = kept-keyed
  kept-added (Some l) can = record {
    none_filled = kept-keyed.none_filled;
    none_lasts = kept-keyed.none_lasts;
    none_uncounted = kept-keyed.none_uncounted;
    apart = kept-keyed.apart;
    unique = kept-keyed.unique;
    fits = kept-keyed.fits;
    linked = all-append (Links (es ++ (set, n) ∷ [])) gs ((l, n) ∷ []) kept-keyed.linked
        (subst (λ s. lookup (set_eq s) (es ++ (set, n) ∷ []) ≡ Some n) (sym can.0) (lookup-pushed set es n new.absent), tt);
    single = subst (IsDistinct set_eq) (sym (ap (map canon) (map-append (λ (e : Keyed). e.0) gs ((l, n) ∷ [])) ∙ map-append canon (keys_of gs) (l ∷ [])))
        (IsDistinct-push set_eq_equiv (map canon (keys_of gs)) (canon l) laws.single (ap (is_member set_eq (map canon (keys_of gs))) can.0 ∙ unlisted));
  }
