-- What counts of handles, and places for their sets, are kept by.
use Rattle.std.proofs.Common.{◌-◌, ◌≡◌, ℕ, ◌+◌, ◌^◌, ◌<◌, ◌≤◌, Bool, true, false, cond, ◌||◌, List, [], ◌∷◌, ◌++◌, map, filter, length, Some, refl, sym, ap, subst, ◌∙◌, nat_lt, true≢false, arith}
use Rattle.std.specs.Prelude.{◌==◌}
use Rattle.std.specs.List.{AllByRecursion}
use Rattle.std.proofs.lemmas.List.Folds.{list_any-append}
use Rattle.std.proofs.lemmas.List.Sums.{count_by-le-length, sum_by_push, sum_by-cons}
use Rattle.std.proofs.lemmas.Bool.{cond_both, or_left, or_right}
use Rattle.std.proofs.lemmas.Bool.Decides.{nat_tests}
use Rattle.otel_common.specs.Equality.{set_eq}
use Rattle.otel_model_stream.specs.Sets.{AttributeSet, none_set, over_set}
use Rattle.otel_model_stream.specs.Folds.{Fold, Sample}
use Rattle.otel_model_stream.specs.Events.{Handles, held_by, without}
use Rattle.otel_model_stream.specs.Entries.{Entry, Table, new_entry, is_of, has, number_counted, place, on, write, take_handle, drop_handle, reset, at_entry, stays, evicted_table}
use Rattle.otel_aggregate.specs.value_map.Numbers.{is_placed, handles_in, handles_at}
use Rattle.otel_aggregate.proofs.All.{all-map, all-each, all-append, all-filter}
use Rattle.otel_aggregate.proofs.value_map.KeyedLemmas.{same_set, set_eq-self, set_eq-flip}
use Rattle.otel_aggregate.specs.Links.{handles_at_set, IsCounted, AreHeld}

-- a set that has a place
abbrev pub IsPlacedIn : List Entry → ℕ × AttributeSet → Type 0
IsPlacedIn es p = is_placed p.1 es ≡ true

-- ======== counts ========
-- a handle more
counted-push : (x g : AttributeSet) (h : ℕ) (hs : Handles) → handles_at_set x (hs ++ (h, g) ∷ []) ≡ handles_at_set x hs + cond (set_eq g x) 1 0
counted-push x g h hs = sum_by_push (λ (p : ℕ × AttributeSet). cond (set_eq p.1 x) 1 0) hs (h, g)

counted-cons : (x : AttributeSet) (p : ℕ × AttributeSet) (hs : Handles) → handles_at_set x (p ∷ hs) ≡ cond (set_eq p.1 x) 1 0 + handles_at_set x hs
counted-cons x p hs = sum_by-cons (λ (q : ℕ × AttributeSet). cond (set_eq q.1 x) 1 0) p hs

-- one less
counted-without : (x g : AttributeSet) (h : ℕ) (hs : Handles) → held_by h hs ≡ Some g → handles_at_set x (without h hs) + cond (set_eq g x) 1 0 ≡ handles_at_set x hs
counted-without x g h [] e = absurd (cc)
counted-without x g h (q ∷ hs) e = by (q.0 == h) e (counted-without x g h hs)
  where
    by : (b : Bool) → cond b (Some q.1) (held_by h hs) ≡ Some g → (held_by h hs ≡ Some g → handles_at_set x (without h hs) + cond (set_eq g x) 1 0 ≡ handles_at_set x hs)
        → handles_at_set x (cond b hs (q ∷ without h hs)) + cond (set_eq g x) 1 0 ≡ handles_at_set x (q ∷ hs)
    by true e ih = let k : q.1 ≡ g = cc in ap (λ z. handles_at_set x hs + cond (set_eq z x) 1 0) (sym k) ∙ omega (arith, counted-cons x q hs)
    by false e ih = omega (arith, ih e, counted-cons x q hs, counted-cons x q (without h hs))

-- a handle at a set
counted-there : (x : AttributeSet) (p : ℕ × AttributeSet) (hs : Handles) → set_eq p.1 x ≡ true → 0 < handles_at_set x (p ∷ hs)
counted-there x p hs e = let one : handles_at_set x (p ∷ hs) ≡ 1 + handles_at_set x hs = counted-cons x p hs ∙ ap (λ b. cond b 1 0 + handles_at_set x hs) e in omega (arith, one)

-- no handle is at a set without a place
counted-none : (x : AttributeSet) (es : List Entry) (hs : Handles) → is_placed x es ≡ false → AllByRecursion (IsPlacedIn es) hs → handles_at_set x hs ≡ 0
counted-none x es [] away h = refl
counted-none x es (p ∷ hs) away h = counted-cons x p hs ∙ by (set_eq p.1 x) refl (counted-none x es hs away h.1)
  where
    by : (b : Bool) → set_eq p.1 x ≡ b → handles_at_set x hs ≡ 0 → cond b 1 0 + handles_at_set x hs ≡ 0
    by true q ih = absurd (true≢false (sym h.0 ∙ ap (λ (s : AttributeSet). is_placed s es) (same_set p.1 x q) ∙ away))
    by false q ih = omega arith

-- ======== few ========
few-counted : (x : AttributeSet) (hs : Handles) (es : List Entry) → AllByRecursion (IsCounted hs) es → handles_in x es ≤ length hs
few-counted x hs [] h = omega arith
few-counted x hs (e ∷ es) h =
    cond_both (is_of x e) e.handles (handles_in x es) (λ n. n ≤ length hs) (λ q. omega (arith, h.0, count_by-le-length (λ (p : ℕ × AttributeSet). set_eq p.1 e.set) hs)) (λ q. few-counted x hs es h.1)

pub held-few : (t : Table) (hs : Handles) → AreHeld t hs → length hs < 2 ^ 63 → (x : AttributeSet) → handles_at x t < 2 ^ 64 - 1
held-few t hs held few x = omega (arith, few-counted x hs (t.none ∷ t.entries) (held.none, held.entries))

-- ======== a change of an entry ========
-- what keeps the set
pub has-on : (f : Entry → Entry) → ((e : Entry) → (f e).set ≡ e.set) → (g s : AttributeSet) (es : List Entry) → has s (map (on g f) es) ≡ has s es
has-on f same g s [] = refl
has-on f same g s (e ∷ es) =
    let one = cond_both (is_of g e) (f e) e (λ x. is_of s x ≡ is_of s e) (λ q. ap (λ (x : AttributeSet). set_eq x s) (same e)) (λ q. refl) in
    λ i. one i || has-on f same g s es i

placed-on : (f : Entry → Entry) → ((e : Entry) → (f e).set ≡ e.set) → (g : AttributeSet) (es : List Entry) (hs : Handles) → AllByRecursion (IsPlacedIn es) hs → AllByRecursion (IsPlacedIn (map (on g f) es)) hs
placed-on f same g es hs h = all-each (IsPlacedIn es) (IsPlacedIn (map (on g f) es)) (λ p q. ap (λ b. set_eq p.1 none_set || b) (has-on f same g p.1 es) ∙ q) hs h

-- a record
pub held-written : (t : Table) (hs : Handles) (g : AttributeSet) (v : Sample) → AreHeld t hs → AreHeld (at_entry g (write v) t) hs
held-written t hs g v held = record {
  none = one t.none held.none;
  entries = all-map (IsCounted hs) (IsCounted hs) (on g (write v)) one t.entries held.entries;
  placed = placed-on (write v) (λ e. refl) g t.entries hs held.placed;
}
  where
    one : (e : Entry) → IsCounted hs e → IsCounted hs (on g (write v) e)
    one e c = cond_both (is_of g e) (write v e) e (IsCounted hs) (λ q. c) (λ q. c)

-- a handle more
pub held-taken : (t : Table) (hs : Handles) (h : ℕ) (g : AttributeSet) → is_placed g t.entries ≡ true → AreHeld t hs → AreHeld (at_entry g take_handle t) (hs ++ (h, g) ∷ [])
held-taken t hs h g there held = record {
  none = one t.none held.none;
  entries = all-map (IsCounted hs) (IsCounted (hs ++ (h, g) ∷ [])) (on g take_handle) one t.entries held.entries;
  placed = all-append (IsPlacedIn (map (on g take_handle) t.entries)) hs ((h, g) ∷ []) (placed-on take_handle (λ e. refl) g t.entries hs held.placed)
      (ap (λ b. set_eq g none_set || b) (has-on take_handle (λ e. refl) g g t.entries) ∙ there, tt);
}
  where
    one : (e : Entry) → IsCounted hs e → IsCounted (hs ++ (h, g) ∷ []) (on g take_handle e)
    one e c = by (is_of g e) (counted-push e.set g h hs ∙ ap (λ b. handles_at_set e.set hs + cond b 1 0) (set_eq-flip g e.set))
      where
        by : (b : Bool) → handles_at_set e.set (hs ++ (h, g) ∷ []) ≡ handles_at_set e.set hs + cond b 1 0 → IsCounted (hs ++ (h, g) ∷ []) (cond b (take_handle e) e)
        by true q = ap (λ n. n + 1) c ∙ sym q
        by false q = omega (arith, c, q)

-- one less
pub held-dropped : (t : Table) (hs : Handles) (h : ℕ) (g : AttributeSet) → held_by h hs ≡ Some g → AreHeld t hs → AreHeld (at_entry g drop_handle t) (without h hs)
held-dropped t hs h g e held = record {
  none = one t.none held.none;
  entries = all-map (IsCounted hs) (IsCounted (without h hs)) (on g drop_handle) one t.entries held.entries;
  placed = placed-on drop_handle (λ e. refl) g t.entries (without h hs) (drop hs held.placed);
}
  where
    one : (x : Entry) → IsCounted hs x → IsCounted (without h hs) (on g drop_handle x)
    one x c = by (is_of g x) (ap (λ b. handles_at_set x.set (without h hs) + cond b 1 0) (set_eq-flip x.set g) ∙ counted-without x.set g h hs e)
      where
        by : (b : Bool) → handles_at_set x.set (without h hs) + cond b 1 0 ≡ handles_at_set x.set hs → IsCounted (without h hs) (cond b (drop_handle x) x)
        by true q = omega (arith, c, q)
        by false q = omega (arith, c, q)

    drop : (ps : Handles) → AllByRecursion (IsPlacedIn t.entries) ps → AllByRecursion (IsPlacedIn t.entries) (without h ps)
    drop [] a = tt
    drop (p ∷ ps) a = cond_both (p.0 == h) ps (p ∷ without h ps) (AllByRecursion (IsPlacedIn t.entries)) (λ q. a.1) (λ q. (a.0, drop ps a.1))

-- ======== a place ========
placed-push : (es : List Entry) (e : Entry) (hs : Handles) → AllByRecursion (IsPlacedIn es) hs → AllByRecursion (IsPlacedIn (es ++ e ∷ [])) hs
placed-push es e hs h = all-each (IsPlacedIn es) (IsPlacedIn (es ++ e ∷ [])) (λ p q. by p (set_eq p.1 none_set) (has p.1 es) (list_any-append (is_of p.1) es (e ∷ [])) q) hs h
  where
    by : (p : ℕ × AttributeSet) (a b : Bool) → has p.1 (es ++ e ∷ []) ≡ (b || (is_of p.1 e || false)) → (a || b) ≡ true → (a || has p.1 (es ++ e ∷ [])) ≡ true
    by p true b q r = refl
    by p false true q r = q
    by p false false q r = absurd (true≢false (sym r))

-- an entry without handles more, of a set that had none
held-push : (none : Entry) (es : List Entry) (hs : Handles) (empty : Fold) (s : AttributeSet) (counted : Bool) → is_placed s es ≡ false
    → AreHeld (record { none = none; entries = es }) hs → AreHeld (record { none = none; entries = es ++ new_entry empty s counted ∷ [] }) hs
held-push none es hs empty s counted away held = record {
  none = held.none;
  entries = all-append (IsCounted hs) es (new_entry empty s counted ∷ []) held.entries (sym (counted-none s es hs away held.placed), tt);
  placed = placed-push es (new_entry empty s counted) hs held.placed;
}

pub held-placed : (limit : ℕ) (empty : Fold) (s : AttributeSet) (t : Table) (hs : Handles) → AreHeld t hs → AreHeld (place limit empty s t) hs
held-placed limit empty s t hs held = by (set_eq s none_set) (has s t.entries) (nat_lt (number_counted t.entries) limit) (has over_set t.entries) refl refl refl
  where
    by : (a b c d : Bool) → set_eq s none_set ≡ a → has s t.entries ≡ b → has over_set t.entries ≡ d
        → AreHeld (record {
          none = t.none;
          entries = cond a t.entries (cond b t.entries (cond c (t.entries ++ new_entry empty s true ∷ []) (cond d t.entries (t.entries ++ new_entry empty over_set false ∷ []))));
        }) hs
    by true b c d p q r = held
    by false true c d p q r = held
    by false false true d p q r = held-push t.none t.entries hs empty s true (λ i. p i || q i) held
    by false false false true p q r = held
    by false false false false p q r = held-push t.none t.entries hs empty over_set false r held

-- ======== a collection ========
-- an entry that a handle holds stays
has-left : (s : AttributeSet) (hs : Handles) (es : List Entry) → 0 < handles_at_set s hs → AllByRecursion (IsCounted hs) es → has s es ≡ true → has s (map reset (filter stays es)) ≡ true
has-left s hs [] some h there = there
has-left s hs (e ∷ es) some h there = by (is_of s e) (stays e) refl refl there (has-left s hs es some h.1)
  where
    by : (a b : Bool) → is_of s e ≡ a → stays e ≡ b → (a || has s es) ≡ true → (has s es ≡ true → has s (map reset (filter stays es)) ≡ true)
        → has s (map reset (cond b (e ∷ filter stays es) (filter stays es))) ≡ true
    by true true p q r ih = ap (λ c. c || has s (map reset (filter stays es))) p
    by true false p q r ih =
        let held : 0 < e.handles = subst (λ (x : AttributeSet). 0 < handles_at_set x hs → 0 < e.handles) (same_set e.set s p) (λ n. omega (arith, h.0)) some in
        let more : nat_lt 0 e.handles ≡ true = grind (arith, nat_tests) in
        absurd (true≢false (sym (or_right e.updated (nat_lt 0 e.handles || set_eq e.set over_set) (or_left _ (set_eq e.set over_set) more)) ∙ q))
    by false true p q r ih = or_right (is_of s e) (has s (map reset (filter stays es))) (ih r)
    by false false p q r ih = ih r

-- a set at which a handle is live is placed still
placed-left : (all : Handles) (es : List Entry) → AllByRecursion (IsCounted all) es → (hs : Handles) → ((s : AttributeSet) → handles_at_set s hs ≤ handles_at_set s all) → AllByRecursion (IsPlacedIn es) hs → AllByRecursion (IsPlacedIn (map reset (filter stays es))) hs
placed-left all es counted [] le h = tt
placed-left all es counted (p ∷ hs) le h = (by (set_eq p.1 none_set) h.0, placed-left all es counted hs (λ s. omega (arith, le s, counted-cons s p hs)) h.1)
  where
    some : 0 < handles_at_set p.1 all
    some = omega (arith, le p.1, counted-there p.1 p hs (set_eq-self p.1))

    by : (a : Bool) → (a || has p.1 es) ≡ true → (a || has p.1 (map reset (filter stays es))) ≡ true
    by true q = refl
    by false q = has-left p.1 all es some counted q

pub placed-evicted : (t : Table) (hs : Handles) → AreHeld t hs → AllByRecursion (IsPlacedIn (evicted_table t).entries) hs
placed-evicted t hs held = placed-left hs t.entries held.entries hs (λ s. omega arith) held.placed

pub held-evicted : (t : Table) (hs : Handles) → AreHeld t hs → AreHeld (evicted_table t) hs
held-evicted t hs held = record { none = held.none; entries = all-map (IsCounted hs) (IsCounted hs) reset (λ e c. c) (filter stays t.entries) (all-filter (IsCounted hs) stays t.entries held.entries); placed = placed-evicted t hs held }
