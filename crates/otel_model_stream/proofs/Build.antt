-- The machine's state, made from places, measurements and live handles; and what each step of the machine does to it.
use Rattle.std.proofs.Common.{◌≡◌, Some, ℕ, suc, ◌+◌, ◌-◌, List, [], ◌∷◌, ◌++◌, map, length, Bool, true, false, cond, not, ◌||◌, ◌&&◌, refl, sym, ap, ◌∙◌, arith}
use Rattle.std.specs.Prelude.{filter, ◌==◌, nat_lt, count_by}
use Rattle.std.proofs.lemmas.Bool.{or_parts, true≢false}
use Rattle.std.proofs.lemmas.List.{append-nil, map-append}
use Rattle.std.proofs.lemmas.List.Elements.{filter-append}
use Rattle.std.proofs.lemmas.List.Folds.{list_any-append}
use Rattle.std.proofs.lemmas.List.Sums.{sum_by_push, sum_by-cons}
use Rattle.otel_common.specs.Equality.{set_eq}
use Rattle.otel_model_stream.specs.Sets.{AttributeSet, none_set, over_set}
use Rattle.otel_model_stream.specs.Folds.{Aggregate, Amount, empty_of, sample_of, fold_of}
use Rattle.otel_model_stream.specs.Events.{Handles, held_by, without}
use Rattle.otel_model_stream.specs.Entries.{Entry, Table, new_entry, has, number_counted, entries_with_place, entry_for, on, write, take_handle, drop_handle, at_entry}
use Rattle.otel_model_stream.specs.Machine.{Machine, hold, let_go}
use Rattle.otel_model_stream.specs.Windows.{is_in, sets_that_count, is_hit, is_held, values_of}
use Rattle.otel_model_stream.proofs.Sets.{set_eq_self, over_apart}
use Rattle.otel_model_stream.proofs.Lists.{is_in_same, same_sym, or_true, or_false}
use Rattle.otel_model_stream.proofs.FoldLaws.{fold_of-none, fold_of-push}
use Rattle.otel_model_stream.proofs.Places.{Grown, grown_by, grown}

abbrev pub Pairs : Type 0
Pairs = List (AttributeSet × Amount)

-- the entry of x
abbrev pub item : Aggregate → Bool → Pairs → Handles → AttributeSet → Entry
item σ c rs hs x = record {
  set = x;
  counted = c;
  updated = is_hit rs x;
  fold = fold_of σ (values_of rs x);
  handles = count_by (λ p. set_eq p.1 x) hs;
}

abbrev pub counts : Bool → AttributeSet → Bool
counts u x = not (u && set_eq x over_set)

abbrev pub entry : Aggregate → Bool → Pairs → Handles → AttributeSet → Entry
entry σ u rs hs x = item σ (counts u x) rs hs x

abbrev pub table_of : Aggregate → List AttributeSet → Bool → Pairs → Handles → Table
table_of σ p u rs hs = record { none = item σ false rs hs none_set; entries = map (entry σ u rs hs) p }

abbrev pub built : Aggregate → List AttributeSet → Bool → Pairs → Handles → Machine
built σ p u rs hs = record { table = table_of σ p u rs hs; live = hs }

-- the set of the entry that s uses, where p have places
abbrev pub target : List AttributeSet → AttributeSet → AttributeSet
target p s = cond (set_eq s none_set) none_set (cond (is_in s p) s over_set)

-- ======== lists of entries ========
pub has_built : (σ : Aggregate) (u : Bool) (rs : Pairs) (hs : Handles) (s : AttributeSet) (p : List AttributeSet) → has s (map (entry σ u rs hs) p) ≡ is_in s p
has_built σ u rs hs s [] = refl
has_built σ u rs hs s (x ∷ p) = ap (λ b. set_eq x s || b) (has_built σ u rs hs s p)

pub count_built : (σ : Aggregate) (u : Bool) (rs : Pairs) (hs : Handles) (p : List AttributeSet) → number_counted (map (entry σ u rs hs) p) ≡ length (sets_that_count u p)
count_built σ u rs hs [] = refl
count_built σ u rs hs (x ∷ p) = go (not (u && set_eq x over_set)) (count_built σ u rs hs p)
  where
    go : (b : Bool) → number_counted (map (entry σ u rs hs) p) ≡ length (sets_that_count u p)
        → length (cond b (entry σ u rs hs x ∷ filter (λ e. e.counted) (map (entry σ u rs hs) p)) (filter (λ e. e.counted) (map (entry σ u rs hs) p))) ≡ length (cond b (x ∷ sets_that_count u p) (sets_that_count u p))
    go true ih = ap suc ih
    go false ih = ih

pub goal_built : (σ : Aggregate) (p : List AttributeSet) (u : Bool) (rs : Pairs) (hs : Handles) (s : AttributeSet) → entry_for s (map (entry σ u rs hs) p) ≡ target p s
goal_built σ p u rs hs s = ap (λ b. cond (set_eq s none_set) none_set (cond b s over_set)) (has_built σ u rs hs s p)

-- ======== one record more ========
pub values_push : (rs : Pairs) (g : AttributeSet) (v : Amount) (x : AttributeSet) → values_of (rs ++ (g, v) ∷ []) x ≡ values_of rs x ++ cond (set_eq g x) (v ∷ []) []
values_push rs g v x =
    ap (map (λ (r : AttributeSet × Amount). r.1)) (filter-append (λ (r : AttributeSet × Amount). set_eq r.0 x) rs ((g, v) ∷ []))
    ∙ (map-append (λ (r : AttributeSet × Amount). r.1) (filter (λ r. set_eq r.0 x) rs) (filter (λ r. set_eq r.0 x) ((g, v) ∷ [])) ∙ ap (λ l. values_of rs x ++ l) (one (set_eq g x)))
  where
    one : (b : Bool) → map (λ (r : AttributeSet × Amount). r.1) (cond b ((g, v) ∷ []) []) ≡ cond b (v ∷ []) []
    one true = refl
    one false = refl

pub hit_push : (rs : Pairs) (g : AttributeSet) (v : Amount) (x : AttributeSet) → is_hit (rs ++ (g, v) ∷ []) x ≡ (is_hit rs x || set_eq g x)
hit_push rs g v x = list_any-append (λ (r : AttributeSet × Amount). set_eq r.0 x) rs ((g, v) ∷ []) ∙ ap (λ b. is_hit rs x || b) (or_false (set_eq g x))

pub held_push : (hs : Handles) (h : ℕ) (g x : AttributeSet) → count_by (λ p. set_eq p.1 x) (hs ++ (h, g) ∷ []) ≡ count_by (λ p. set_eq p.1 x) hs + cond (set_eq g x) 1 0
held_push hs h g x = sum_by_push (λ (p : ℕ × AttributeSet). cond (set_eq p.1 x) 1 0) hs (h, g)

map_both : {A B C : Type 0} (f : B → C) (g : A → B) (h : A → C) (xs : List A) → ((x : A) → f (g x) ≡ h x) → map f (map g xs) ≡ map h xs
map_both f g h [] e = refl
map_both f g h (x ∷ xs) e = λ i. e x i ∷ map_both f g h xs e i

-- a measurement that goes to g, at the entry of x
written : (σ : Aggregate) (c : Bool) (rs : Pairs) (hs : Handles) (g : AttributeSet) (v : Amount) (x : AttributeSet) → on g (write (sample_of σ v)) (item σ c rs hs x) ≡ item σ c (rs ++ (g, v) ∷ []) hs x
written σ c rs hs g v x =
    go (set_eq x g) (hit_push rs g v x ∙ ap (λ b. is_hit rs x || b) (same_sym g x)) (values_push rs g v x ∙ ap (λ b. values_of rs x ++ cond b (v ∷ []) []) (same_sym g x))
  where
    go : (b : Bool) → is_hit (rs ++ (g, v) ∷ []) x ≡ (is_hit rs x || b) → values_of (rs ++ (g, v) ∷ []) x ≡ values_of rs x ++ cond b (v ∷ []) []
        → cond b (write (sample_of σ v) (item σ c rs hs x)) (item σ c rs hs x) ≡ item σ c (rs ++ (g, v) ∷ []) hs x
    go true e f = λ i. record { set = x; counted = c; updated = sym (e ∙ or_true (is_hit rs x)) i; fold = sym (ap (fold_of σ) f ∙ fold_of-push σ (values_of rs x) v) i; handles = count_by (λ p. set_eq p.1 x) hs }
    go false e f = λ i. record { set = x; counted = c; updated = sym (e ∙ or_false (is_hit rs x)) i; fold = sym (ap (fold_of σ) (f ∙ append-nil (values_of rs x))) i; handles = count_by (λ p. set_eq p.1 x) hs }

pub writes : (σ : Aggregate) (p : List AttributeSet) (u : Bool) (rs : Pairs) (hs : Handles) (g : AttributeSet) (v : Amount) → at_entry g (write (sample_of σ v)) (table_of σ p u rs hs) ≡ table_of σ p u (rs ++ (g, v) ∷ []) hs
writes σ p u rs hs g v = λ i. record {
  none = written σ false rs hs g v none_set i;
  entries = map_both (on g (write (sample_of σ v))) (entry σ u rs hs) (entry σ u (rs ++ (g, v) ∷ []) hs) p (λ x. written σ (counts u x) rs hs g v x) i;
}

-- ======== handles ========
taken : (σ : Aggregate) (c : Bool) (rs : Pairs) (hs : Handles) (h : ℕ) (g x : AttributeSet) → on g take_handle (item σ c rs hs x) ≡ item σ c rs (hs ++ (h, g) ∷ []) x
taken σ c rs hs h g x = go (set_eq x g) (held_push hs h g x ∙ ap (λ b. count_by (λ p. set_eq p.1 x) hs + cond b 1 0) (same_sym g x))
  where
    go : (b : Bool) → count_by (λ p. set_eq p.1 x) (hs ++ (h, g) ∷ []) ≡ count_by (λ p. set_eq p.1 x) hs + cond b 1 0
        → cond b (take_handle (item σ c rs hs x)) (item σ c rs hs x) ≡ item σ c rs (hs ++ (h, g) ∷ []) x
    go true e = λ i. record { set = x; counted = c; updated = is_hit rs x; fold = fold_of σ (values_of rs x); handles = sym e i }
    go false e = let e' : count_by (λ p. set_eq p.1 x) hs ≡ count_by (λ p. set_eq p.1 x) (hs ++ (h, g) ∷ []) = omega arith in
        λ i. record { set = x; counted = c; updated = is_hit rs x; fold = fold_of σ (values_of rs x); handles = e' i }

pub holds : (σ : Aggregate) (p : List AttributeSet) (u : Bool) (rs : Pairs) (hs : Handles) (h : ℕ) (g : AttributeSet) → hold h g (built σ p u rs hs) ≡ built σ p u rs (hs ++ (h, g) ∷ [])
holds σ p u rs hs h g = λ i. record {
  table = record {
    none = taken σ false rs hs h g none_set i;
    entries = map_both (on g take_handle) (entry σ u rs hs) (entry σ u rs (hs ++ (h, g) ∷ [])) p (λ x. taken σ (counts u x) rs hs h g x) i;
  };
  live = hs ++ (h, g) ∷ [];
}

some_same : (x y : AttributeSet) → Some x ≡ Some y → x ≡ y
some_same x y e = cc

released : (h : ℕ) (g x : AttributeSet) (hs : Handles) → held_by h hs ≡ Some g → count_by (λ p. set_eq p.1 x) (without h hs) + cond (set_eq g x) 1 0 ≡ count_by (λ p. set_eq p.1 x) hs
released h g x [] e = absurd (cc)
released h g x (q ∷ hs) e = go (q.0 == h) e (released h g x hs)
  where
    go : (b : Bool) → cond b (Some q.1) (held_by h hs) ≡ Some g → (held_by h hs ≡ Some g → count_by (λ p. set_eq p.1 x) (without h hs) + cond (set_eq g x) 1 0 ≡ count_by (λ p. set_eq p.1 x) hs)
        → count_by (λ p. set_eq p.1 x) (cond b hs (q ∷ without h hs)) + cond (set_eq g x) 1 0 ≡ count_by (λ p. set_eq p.1 x) (q ∷ hs)
    go true e ih = ap (λ z. count_by (λ p. set_eq p.1 x) hs + cond (set_eq z x) 1 0) (sym (some_same _ _ e)) ∙ omega (arith, sum_by-cons (λ (p : ℕ × AttributeSet). cond (set_eq p.1 x) 1 0) q hs)
    go false e ih = omega (arith, ih e, sum_by-cons (λ (p : ℕ × AttributeSet). cond (set_eq p.1 x) 1 0) q hs, sum_by-cons (λ (p : ℕ × AttributeSet). cond (set_eq p.1 x) 1 0) q (without h hs))

dropped : (σ : Aggregate) (c : Bool) (rs : Pairs) (hs : Handles) (h : ℕ) (g x : AttributeSet) → held_by h hs ≡ Some g → on g drop_handle (item σ c rs hs x) ≡ item σ c rs (without h hs) x
dropped σ c rs hs h g x e = go (set_eq x g) (ap (λ b. count_by (λ p. set_eq p.1 x) (without h hs) + cond b 1 0) (same_sym x g) ∙ released h g x hs e)
  where
    go : (b : Bool) → count_by (λ p. set_eq p.1 x) (without h hs) + cond b 1 0 ≡ count_by (λ p. set_eq p.1 x) hs
        → cond b (drop_handle (item σ c rs hs x)) (item σ c rs hs x) ≡ item σ c rs (without h hs) x
    go true e = let e' : count_by (λ p. set_eq p.1 x) hs - 1 ≡ count_by (λ p. set_eq p.1 x) (without h hs) = omega arith in
        λ i. record { set = x; counted = c; updated = is_hit rs x; fold = fold_of σ (values_of rs x); handles = e' i }
    go false e = let e' : count_by (λ p. set_eq p.1 x) hs ≡ count_by (λ p. set_eq p.1 x) (without h hs) = omega arith in
        λ i. record { set = x; counted = c; updated = is_hit rs x; fold = fold_of σ (values_of rs x); handles = e' i }

pub lets_go : (σ : Aggregate) (p : List AttributeSet) (u : Bool) (rs : Pairs) (hs : Handles) (h : ℕ) (g : AttributeSet) → held_by h hs ≡ Some g → let_go (Some g) h (built σ p u rs hs) ≡ built σ p u rs (without h hs)
lets_go σ p u rs hs h g e = λ i. record {
  table = record {
    none = dropped σ false rs hs h g none_set e i;
    entries = map_both (on g drop_handle) (entry σ u rs hs) (entry σ u rs (without h hs)) p (λ x. dropped σ (counts u x) rs hs h g x e) i;
  };
  live = without h hs;
}

-- ======== a new place ========
-- every goal is the empty set or has a place
abbrev pub AreHitsPlaced : List AttributeSet → Pairs → Type 0
AreHitsPlaced p rs = (x : AttributeSet) → set_eq x none_set ≡ false → is_in x p ≡ false → is_hit rs x ≡ false

abbrev pub AreHandlesPlaced : List AttributeSet → Handles → Type 0
AreHandlesPlaced p hs = (x : AttributeSet) → set_eq x none_set ≡ false → is_in x p ≡ false → is_held hs x ≡ false

pub no_values : (rs : Pairs) (x : AttributeSet) → is_hit rs x ≡ false → values_of rs x ≡ []
no_values [] x e = refl
no_values (r ∷ rs) x e = let q = or_parts (set_eq r.0 x) (is_hit rs x) e in rw q.0 (no_values rs x q.1)

pub no_handles : (hs : Handles) (x : AttributeSet) → is_held hs x ≡ false → count_by (λ p. set_eq p.1 x) hs ≡ 0
no_handles [] x e = refl
no_handles (r ∷ hs) x e =
    let q = or_parts (set_eq r.1 x) (is_held hs x) e in
    sum_by-cons (λ (p : ℕ × AttributeSet). cond (set_eq p.1 x) 1 0) r hs ∙ rw (q.0, no_handles hs x q.1) refl

fresh_is : (σ : Aggregate) (c d : Bool) (rs : Pairs) (hs : Handles) (x : AttributeSet) → is_hit rs x ≡ false → is_held hs x ≡ false → c ≡ d → new_entry (empty_of σ) x c ≡ item σ d rs hs x
fresh_is σ c d rs hs x e f same = λ i. record { set = x; counted = same i; updated = sym e i; fold = sym (ap (fold_of σ) (no_values rs x e) ∙ fold_of-none σ) i; handles = sym (no_handles hs x f) i }

-- where the overflow set has no place, the flag is not looked at
flag_unread : (σ : Aggregate) (u v : Bool) (rs : Pairs) (hs : Handles) (p : List AttributeSet) → is_in over_set p ≡ false → map (entry σ u rs hs) p ≡ map (entry σ v rs hs) p
flag_unread σ u v rs hs [] e = refl
flag_unread σ u v rs hs (x ∷ p) e =
    let q = or_parts (set_eq x over_set) (is_in over_set p) e in
    let both : (a b c : Bool) → c ≡ false → not (a && c) ≡ not (b && c) = off in
    λ i. item σ (both u v (set_eq x over_set) q.0 i) rs hs x ∷ flag_unread σ u v rs hs p q.1 i
  where
    off : (a b c : Bool) → c ≡ false → not (a && c) ≡ not (b && c)
    off true true c e = refl
    off true false c e = ap not e
    off false true c e = sym (ap not e)
    off false false c e = refl

counts_new : (u : Bool) (s : AttributeSet) (p : List AttributeSet) → (u ≡ true → is_in over_set p ≡ true) → is_in s p ≡ false → counts u s ≡ true
counts_new false s p h e = refl
counts_new true s p h e = go (set_eq s over_set) (λ f. sym (is_in_same s over_set p f ∙ h refl) ∙ e)
  where
    go : (b : Bool) → (b ≡ true → true ≡ false) → not b ≡ true
    go true f = absurd (true≢false (f refl))
    go false f = refl

-- the machine's entries for the places and the flag
abbrev pub entries_for : Aggregate → Pairs → Handles → Grown → List Entry
entries_for σ rs hs q = map (entry σ q.1 rs hs) q.0

-- the machine's entries by the same four tests
abbrev placed_by : (a b c d : Bool) → Aggregate → AttributeSet → List Entry → List Entry
placed_by a b c d σ s es = cond a es (cond b es (cond c (es ++ new_entry (empty_of σ) s true ∷ []) (cond d es (es ++ new_entry (empty_of σ) over_set false ∷ []))))

pub places_one : (σ : Aggregate) (limit : ℕ) (s : AttributeSet) (p : List AttributeSet) (u : Bool) (rs : Pairs) (hs : Handles) → (u ≡ true → is_in over_set p ≡ true) → AreHitsPlaced p rs → AreHandlesPlaced p hs
    → entries_with_place limit (empty_of σ) s (map (entry σ u rs hs) p) ≡ entries_for σ rs hs (grown limit s p u)
places_one σ limit s p u rs hs over hits helds =
    (λ i. placed_by (set_eq s none_set) (has_built σ u rs hs s p i) (nat_lt (count_built σ u rs hs p i) limit) (has_built σ u rs hs over_set p i) σ s (map (entry σ u rs hs) p))
    ∙ go (set_eq s none_set) (is_in s p) (nat_lt (length (sets_that_count u p)) limit) (is_in over_set p) counted_place overflow_place
  where
    counted_place : set_eq s none_set ≡ false → is_in s p ≡ false → map (entry σ u rs hs) p ++ new_entry (empty_of σ) s true ∷ [] ≡ map (entry σ u rs hs) (p ++ s ∷ [])
    counted_place a b =
        ap (λ e. map (entry σ u rs hs) p ++ e ∷ []) (fresh_is σ true (counts u s) rs hs s (hits s a b) (helds s a b) (sym (counts_new u s p over b)))
        ∙ sym (map-append (entry σ u rs hs) p (s ∷ []))

    overflow_place : is_in over_set p ≡ false → map (entry σ u rs hs) p ++ new_entry (empty_of σ) over_set false ∷ [] ≡ map (entry σ true rs hs) (p ++ over_set ∷ [])
    overflow_place m =
        (λ i. flag_unread σ u true rs hs p m i ++ fresh_is σ false (counts true over_set) rs hs over_set (hits over_set over_apart m) (helds over_set over_apart m) (sym (ap not (set_eq_self over_set))) i ∷ [])
        ∙ sym (map-append (entry σ true rs hs) p (over_set ∷ []))

    go : (a b c d : Bool) → (a ≡ false → b ≡ false → map (entry σ u rs hs) p ++ new_entry (empty_of σ) s true ∷ [] ≡ map (entry σ u rs hs) (p ++ s ∷ []))
        → (d ≡ false → map (entry σ u rs hs) p ++ new_entry (empty_of σ) over_set false ∷ [] ≡ map (entry σ true rs hs) (p ++ over_set ∷ []))
        → placed_by a b c d σ s (map (entry σ u rs hs) p) ≡ entries_for σ rs hs (grown_by a b c d s p u)
    go true b c d f g = refl
    go false true c d f g = refl
    go false false true d f g = f refl refl
    go false false false true f g = refl
    go false false false false f g = g refl
