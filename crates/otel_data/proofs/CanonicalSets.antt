-- Where a point's attributes are canonical, they are the set of a list exactly if they are the list's canonical form.
use Rattle.std.specs.Prelude.{◌≡◌, ℕ, Bool, true, false, cond, ◌&&◌, ◌||◌, T, List, [], ◌∷◌, map, Option, Some, None, ◌⊎◌, is_some}
use Rattle.std.proofs.Common.{refl, sym, ap, subst, ◌∙◌, inl, inr, true≢false}
use Rattle.std.proofs.lemmas.Bool.{and_parts, and_from, or_right}
use Rattle.std.specs.Cmp.{both_ways, Equal-is}
use Rattle.std.specs.Cmp.Lexicographic.{nat_list_cmp_total, bytes_decides}
use Rattle.std.specs.FinMap.Entries.{is_sorted, below_all}
use Rattle.std.specs.List.{find, list_all}
use Rattle.std.specs.Option.{option_map}
use Rattle.std.specs.Ordering.{eq_by_cmp, is_eq, is_lt}
use Rattle.std.specs.declared.cmp.Ordering.TheVariants.{Less, Equal, Greater}
use Rattle.std.proofs.lemmas.Cmp.{tied_itself}
use Rattle.otel_common.specs.Canonical.{canon, key_cmp, pair_of}
use Rattle.otel_common.specs.Equality.{bytes_eq, key_value_eq-Decides, set_eq, set_eq-Decides}
use Rattle.otel_common.specs.declared.attributes.KeyValue.{KeyValue}
use Rattle.otel_common.specs.declared.attributes.Value.{Value}
use Rattle.otel_common.proofs.CanonLaws.{canon-unique, canon-sorted, key_cmp-IsAntisymmetric, value_at, value_at-canon}
use Rattle.otel_data.specs.Values.{is_this, is_first, has_key, is_set}

T_first : (a b : Bool) → T (a && b) → T a
T_first true b p = tt
T_first false b p = p

T_second : (a b : Bool) → T (a && b) → T b
T_second true b p = p
T_second false b p = absurd p

-- a key ties with another exactly if it is that key
same_test : (q k : List ℕ) → eq_by_cmp key_cmp q k ≡ bytes_eq k q
same_test q k = both_ways _ _
    (λ t. (bytes_decides k q).1 (sym (key_cmp-IsAntisymmetric q k ((Equal-is (key_cmp q k)).0 t))))
    (λ e. ap (λ x. eq_by_cmp key_cmp x k) (sym ((bytes_decides k q).0 e)) ∙ ap is_eq (tied_itself nat_list_cmp_total k))

itself : (k : List ℕ) → bytes_eq k k ≡ true
itself k = (bytes_decides k k).1 refl

-- the first attribute of this key
abbrev found : List ℕ → List KeyValue → Option KeyValue
found q l = find (λ given. bytes_eq given.key q) l

abbrev read : Option KeyValue → Option Value
read o = option_map (λ p. p.value) o

reads : (q : List ℕ) (l : List KeyValue) → value_at q l ≡ read (found q l)
reads q [] = refl
reads q (p ∷ l) =
    ap (λ b. cond b (Some p.value) (value_at q l)) (same_test q p.key)
    ∙ elim (bytes_eq p.key q) as (λ b. cond b (Some p.value) (value_at q l) ≡ read (cond b (Some p) (found q l))) [ true ↦ refl | false ↦ reads q l ]

is_this_from : (own : KeyValue) (o : Option KeyValue) → is_this own o ≡ true → o ≡ Some own
is_this_from own None h = absurd (true≢false (sym h))
is_this_from own (Some given) h = ap (λ g. Some g) ((key_value_eq-Decides given own).0 h)

-- ======== a set is the canonical form ========
agree : (l s : List KeyValue) → list_all (is_first l) s ≡ true → (q : List ℕ) → (found q s ≡ found q l) ⊎ ((found q s ≡ None) × (has_key s q ≡ false))
agree l [] h q = inr (refl, refl)
agree l (x ∷ s) h q =
    let parts : (is_first l x ≡ true) × (list_all (is_first l) s ≡ true) = and_parts _ _ h in
    elim (bytes_eq x.key q) as (λ b. bytes_eq x.key q ≡ b → (cond b (Some x) (found q s) ≡ found q l) ⊎ ((cond b (Some x) (found q s) ≡ None) × ((b || has_key s q) ≡ false))) [
      | true ↦ λ e. inl (sym (subst (λ k. found k l ≡ Some x) ((bytes_decides x.key q).0 e) (is_this_from x (found x.key l) parts.0)))
      | false ↦ λ e. agree l s parts.1 q
    ] refl

absent : (s l : List KeyValue) → list_all (λ given. has_key s given.key) l ≡ true → (q : List ℕ) → has_key s q ≡ false → found q l ≡ None
absent s [] h q n = refl
absent s (y ∷ l) h q n =
    let parts : (has_key s y.key ≡ true) × (list_all (λ given. has_key s given.key) l ≡ true) = and_parts _ _ h in
    elim (bytes_eq y.key q) as (λ b. bytes_eq y.key q ≡ b → cond b (Some y) (found q l) ≡ None) [
      | true ↦ λ e. absurd (true≢false (sym (subst (λ k. has_key s k ≡ true) ((bytes_decides y.key q).0 e) parts.0) ∙ n))
      | false ↦ λ e. absent s l parts.1 q n
    ] refl

answers : (l s : List KeyValue) → is_set l s ≡ true → (q : List ℕ) → value_at q s ≡ value_at q l
answers l s h q =
    let parts : (list_all (is_first l) s ≡ true) × (list_all (λ given. has_key s given.key) l ≡ true) = and_parts _ _ h in
    let same : found q s ≡ found q l = elim (agree l s parts.0 q) [ inl e ↦ e | inr p ↦ p.0 ∙ sym (absent s l parts.1 q p.1) ] in
    reads q s ∙ ap read same ∙ sym (reads q l)

-- ======== the canonical form is a set ========
first_from : (l : List KeyValue) (x : KeyValue) → read (found x.key l) ≡ Some x.value → is_this x (found x.key l) ≡ true
first_from [] x h = cc
first_from (y ∷ l) x h =
    elim (bytes_eq y.key x.key) as (λ b. bytes_eq y.key x.key ≡ b → read (cond b (Some y) (found x.key l)) ≡ Some x.value → is_this x (cond b (Some y) (found x.key l)) ≡ true) [
      | true ↦ λ e k.
          let key : y.key ≡ x.key = (bytes_decides y.key x.key).0 e in
          let value : y.value ≡ x.value = cc in
          (key_value_eq-Decides y x).1 (λ i. record { key = key i; value = value i })
      | false ↦ λ e k. first_from l x k
    ] refl h

not_tied : (k q : List ℕ) → T (is_lt (key_cmp k q)) → bytes_eq q k ≡ false
not_tied k q h = sym (same_test k q) ∙ elim (key_cmp k q) as (λ o. T (is_lt o) → is_eq o ≡ false) [ Less ↦ λ _. refl | Equal ↦ λ t. absurd t | Greater ↦ λ t. absurd t ] h

below_none : (k : List ℕ) (s : List KeyValue) → T (below_all key_cmp k (map pair_of s)) → found k s ≡ None
below_none k [] h = refl
below_none k (y ∷ s) h = ap (λ b. cond b (Some y) (found k s)) (not_tied k y.key (T_first _ _ h)) ∙ below_none k s (T_second _ _ h)

firsts : (l s : List KeyValue) → T (is_sorted key_cmp (map pair_of s)) → ((q : List ℕ) → (found q s ≡ None) ⊎ (read (found q s) ≡ read (found q l))) → list_all (is_first l) s ≡ true
firsts l [] up h = refl
firsts l (x ∷ s) up h =
    let own : found x.key (x ∷ s) ≡ Some x = ap (λ b. cond b (Some x) (found x.key s)) (itself x.key) in
    let here : read (found x.key l) ≡ Some x.value = elim (h x.key) [ inl e ↦ cc | inr e ↦ sym e ∙ ap read own ] in
    and_from _ _ (first_from l x here)
    (firsts l s (T_second _ _ up)
    (λ q. elim (bytes_eq x.key q) as (λ b. bytes_eq x.key q ≡ b → (cond b (Some x) (found q s) ≡ None) ⊎ (read (cond b (Some x) (found q s)) ≡ read (found q l)) → (found q s ≡ None) ⊎ (read (found q s) ≡ read (found q l))) [
      | true ↦ λ e k. inl (subst (λ q. found q s ≡ None) ((bytes_decides x.key q).0 e) (below_none x.key s (T_first _ _ up)))
      | false ↦ λ e k. k
    ] refl (h q)))

all_keys : (s l : List KeyValue) → ((q : List ℕ) → has_key l q ≡ true → has_key s q ≡ true) → list_all (λ given. has_key s given.key) l ≡ true
all_keys s [] h = refl
all_keys s (y ∷ l) h =
    and_from _ _ (h y.key (ap (λ b. b || has_key l y.key) (itself y.key)))
    (all_keys s l (λ q e. h q (or_right (bytes_eq y.key q) (has_key l q) e)))

has_value : (q : List ℕ) (l : List KeyValue) → has_key l q ≡ is_some (read (found q l))
has_value q [] = refl
has_value q (y ∷ l) = elim (bytes_eq y.key q) as (λ b. (b || has_key l q) ≡ is_some (read (cond b (Some y) (found q l)))) [ true ↦ refl | false ↦ has_value q l ]

same_values : (l : List KeyValue) (q : List ℕ) → read (found q (canon l)) ≡ read (found q l)
same_values l q = sym (reads q (canon l)) ∙ value_at-canon l q ∙ reads q l

canon_is_set : (l : List KeyValue) → is_set l (canon l) ≡ true
canon_is_set l =
    and_from _ _ (firsts l (canon l) (canon-sorted l) (λ q. inr (same_values l q)))
    (all_keys (canon l) l (λ q e. has_value q (canon l) ∙ ap is_some (same_values l q) ∙ sym (has_value q l) ∙ e))

pub canonical_set : (recorded attributes : List KeyValue) → is_set attributes (canon recorded) ≡ set_eq (canon recorded) (canon attributes)
canonical_set recorded attributes = both_ways _ _
    (λ h. (set_eq-Decides (canon recorded) (canon attributes)).1 (canon-unique attributes (canon recorded) (canon-sorted recorded) (answers attributes (canon recorded) h)))
    (λ h. subst (λ s. is_set attributes s ≡ true) (sym ((set_eq-Decides (canon recorded) (canon attributes)).0 h)) (canon_is_set attributes))
