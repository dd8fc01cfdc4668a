-- Places are distinct, and those that count are within the limit.
use Rattle.std.proofs.Common.{◌≡◌, ℕ, suc, ◌+◌, ◌≤◌, List, [], ◌∷◌, ◌++◌, length, Bool, true, false, cond, not, ◌||◌, ◌&&◌, refl, sym, ap, ◌∙◌, subst, arith, length-append}
use Rattle.std.specs.Prelude.{filter, nat_lt}
use Rattle.std.proofs.lemmas.Bool.{or_parts, ltb-true, and_parts}
use Rattle.std.proofs.lemmas.List.{append-nil}
use Rattle.std.proofs.lemmas.List.Elements.{filter-append}
use Rattle.otel_common.specs.Equality.{set_eq}
use Rattle.otel_model_stream.specs.Sets.{AttributeSet, none_set, over_set}
use Rattle.otel_model_stream.specs.Folds.{Amount}
use Rattle.otel_model_stream.specs.Events.{Record, Bind, RecordBound, Unbind, Kind, Delta, Cumulative, Drained}
use Rattle.otel_model_stream.specs.Windows.{Start, Window, is_in, sets_that_count, places_of, uncounted_of, live_of, records_of, is_hit, is_held, first, next, cut, more}
use Rattle.otel_model_stream.proofs.Sets.{set_eq_true, set_eq_self, over_apart}
use Rattle.otel_model_stream.proofs.Lists.{is_in-append, same_sym}
use Rattle.otel_model_stream.proofs.Places.{grown_by, IsLawful, counted_all}
use Rattle.otel_model_stream.proofs.Moves.{Facts, facts, mention_facts, facts_record, facts_bind, facts_through, facts_let_go}
use Rattle.otel_model_stream.proofs.Sound.{starting, facts_start}

abbrev pub IsDistinct : List AttributeSet → Type 0
IsDistinct [] = Unit {0}
IsDistinct (x ∷ xs) = (is_in x xs ≡ false) × IsDistinct xs

pub record IsTidy (limit : ℕ) (f : Facts) : Type 0 where
  pub distinct : IsDistinct (none_set ∷ f.0)
  pub few : length (sets_that_count f.1 f.0) ≤ limit

turned : (x y : AttributeSet) → set_eq x y ≡ false → set_eq y x ≡ false
turned x y e = same_sym y x ∙ e

distinct_push : (p : List AttributeSet) (y : AttributeSet) → IsDistinct p → is_in y p ≡ false → IsDistinct (p ++ y ∷ [])
distinct_push [] y d m = (refl, tt)
distinct_push (x ∷ p) y d m =
    let q = or_parts (set_eq x y) (is_in y p) m in
    (is_in-append x p (y ∷ []) ∙ (λ i. d.0 i || (turned x y q.0 i || false)), distinct_push p y d.1 q.1)

-- with the empty set in front
abbrev AreDistinctPlaces : List AttributeSet → Type 0
AreDistinctPlaces p = IsDistinct (none_set ∷ p)

push : (p : List AttributeSet) (y : AttributeSet) → AreDistinctPlaces p → set_eq y none_set ≡ false → is_in y p ≡ false → AreDistinctPlaces (p ++ y ∷ [])
push p y d n m = distinct_push (none_set ∷ p) y d (λ i. turned y none_set n i || m i)

one_more : (u : Bool) (p : List AttributeSet) (s : AttributeSet) → length (sets_that_count u (p ++ s ∷ [])) ≤ length (sets_that_count u p) + 1
one_more u p s = rw (filter-append (λ x. not (u && set_eq x over_set)) p (s ∷ []), length-append (sets_that_count u p) (sets_that_count u (s ∷ []))) (short (not (u && set_eq s over_set)))
  where
    short : (b : Bool) → length (sets_that_count u p) + length (cond b (s ∷ []) []) ≤ length (sets_that_count u p) + 1
    short true = omega arith
    short false = omega arith

over_more : (u : Bool) (p : List AttributeSet) → is_in over_set p ≡ false → length (sets_that_count true (p ++ over_set ∷ [])) ≡ length (sets_that_count u p)
over_more u p m =
    ap length (filter-append (λ x. not (true && set_eq x over_set)) p (over_set ∷ []) ∙ (ap (λ b. sets_that_count true p ++ cond (not b) (over_set ∷ []) []) (set_eq_self over_set) ∙ (append-nil (sets_that_count true p) ∙ counted_all true p (λ _. m))))
    ∙ ap length (sym (counted_all u p (λ _. m)))

tidy_mention : (limit : ℕ) (s : AttributeSet) (f : Facts) → IsTidy limit f → IsTidy limit (mention_facts limit s f)
tidy_mention limit s f t = go (set_eq s none_set) (is_in s f.0) (nat_lt (length (sets_that_count f.1 f.0)) limit) (is_in over_set f.0) refl refl refl refl
  where
    go : (a b c d : Bool) → set_eq s none_set ≡ a → is_in s f.0 ≡ b → nat_lt (length (sets_that_count f.1 f.0)) limit ≡ c → is_in over_set f.0 ≡ d
        → IsTidy limit ((grown_by a b c d s f.0 f.1).0, (grown_by a b c d s f.0 f.1).1, f.2, f.3)
    go true b c d e g h k = record { distinct = t.distinct; few = t.few }
    go false true c d e g h k = record { distinct = t.distinct; few = t.few }
    go false false true d e g h k = record { distinct = push f.0 s t.distinct e g; few = omega (arith, one_more f.1 f.0 s, ltb-true (length (sets_that_count f.1 f.0)) limit h) }
    go false false false true e g h k = record { distinct = t.distinct; few = t.few }
    go false false false false e g h k = record { distinct = push f.0 over_set t.distinct over_apart k; few = omega (arith, over_more f.1 f.0 k, t.few) }

pub tidy_record : (limit : ℕ) (w : Window) (s : AttributeSet) (v : Amount) → IsLawful w.start → IsTidy limit (facts limit w) → IsTidy limit (facts limit (more w (Record s v)))
tidy_record limit w s v l t = subst (IsTidy limit) (sym (facts_record limit w s v l)) (let m = tidy_mention limit s (facts limit w) t in record { distinct = m.distinct; few = m.few })

pub tidy_bind : (limit : ℕ) (w : Window) (h : ℕ) (s : AttributeSet) → IsLawful w.start → IsTidy limit (facts limit w) → IsTidy limit (facts limit (more w (Bind h s)))
tidy_bind limit w h s l t = subst (IsTidy limit) (sym (facts_bind limit w h s l)) (let m = tidy_mention limit s (facts limit w) t in record { distinct = m.distinct; few = m.few })

pub tidy_through : (limit : ℕ) (w : Window) (h : ℕ) (v : Amount) → IsLawful w.start → IsTidy limit (facts limit w) → IsTidy limit (facts limit (more w (RecordBound h v)))
tidy_through limit w h v l t = subst (IsTidy limit) (sym (facts_through limit w h v l)) (record { distinct = t.distinct; few = t.few })

pub tidy_let_go : (limit : ℕ) (w : Window) (h : ℕ) → IsLawful w.start → IsTidy limit (facts limit w) → IsTidy limit (facts limit (more w (Unbind h)))
tidy_let_go limit w h l t = subst (IsTidy limit) (sym (facts_let_go limit w h l)) (record { distinct = t.distinct; few = t.few })

-- ======== a filter ========
not_in_filter : (f : AttributeSet → Bool) (x : AttributeSet) (p : List AttributeSet) → is_in x p ≡ false → is_in x (filter f p) ≡ false
not_in_filter f x [] m = refl
not_in_filter f x (y ∷ p) m = let q = or_parts (set_eq y x) (is_in x p) m in go (f y) q.0 (not_in_filter f x p q.1)
  where
    go : (b : Bool) → set_eq y x ≡ false → is_in x (filter f p) ≡ false → is_in x (cond b (y ∷ filter f p) (filter f p)) ≡ false
    go true e ih = λ i. e i || ih i
    go false e ih = ih

distinct_filter : (f : AttributeSet → Bool) (p : List AttributeSet) → IsDistinct p → IsDistinct (filter f p)
distinct_filter f [] d = tt
distinct_filter f (y ∷ p) d = go (f y) (not_in_filter f y p d.0) (distinct_filter f p d.1)
  where
    go : (b : Bool) → is_in y (filter f p) ≡ false → IsDistinct (filter f p) → IsDistinct (cond b (y ∷ filter f p) (filter f p))
    go true m ih = (m, ih)
    go false m ih = ih

fewer : (g f : AttributeSet → Bool) (p : List AttributeSet) → length (filter g (filter f p)) ≤ length (filter g p)
fewer g f [] = omega arith
fewer g f (y ∷ p) = go (f y) (fewer g f p)
  where
    inner : (b : Bool) (m n : List AttributeSet) → length m ≤ length n → length (cond b (y ∷ m) m) ≤ length (cond b (y ∷ n) n)
    inner true m n h = omega arith
    inner false m n h = h

    wider : (b : Bool) (m n : List AttributeSet) → length m ≤ length n → length m ≤ length (cond b (y ∷ n) n)
    wider true m n h = omega arith
    wider false m n h = h

    go : (b : Bool) → length (filter g (filter f p)) ≤ length (filter g p) → length (filter g (cond b (y ∷ filter f p) (filter f p))) ≤ length (cond (g y) (y ∷ filter g p) (filter g p))
    go true ih = inner (g y) (filter g (filter f p)) (filter g p) ih
    go false ih = wider (g y) (filter g (filter f p)) (filter g p) ih

pub tidy_start : (limit : ℕ) (start : Start) → IsDistinct (none_set ∷ start.sets) → length (sets_that_count start.uncounted start.sets) ≤ limit → IsTidy limit (facts limit (starting start))
tidy_start limit start d f = subst (IsTidy limit) (sym (facts_start limit start)) (record { distinct = d; few = f })

pub tidy_cut : (kind : Kind) (limit : ℕ) (w : Window) → IsTidy limit (facts limit w) → IsTidy limit (facts limit (cut kind limit w))
tidy_cut Delta limit w t = tidy_start limit (next limit w) (
  not_in_filter (λ x. is_hit (records_of limit w) x || (is_held (live_of limit w) x || set_eq x over_set)) none_set (places_of limit w) t.distinct.0,
  distinct_filter (λ x. is_hit (records_of limit w) x || (is_held (live_of limit w) x || set_eq x over_set)) (places_of limit w) t.distinct.1,
)
    (omega (arith, fewer (λ x. not (uncounted_of limit w && set_eq x over_set)) (λ x. is_hit (records_of limit w) x || (is_held (live_of limit w) x || set_eq x over_set)) (places_of limit w), t.few))
tidy_cut Cumulative limit w t = t
tidy_cut Drained limit w t = tidy_start limit first (refl, tt) (omega arith)

-- ======== how many points ========
pub places_few : (u : Bool) (p : List AttributeSet) → IsDistinct p → length p ≤ length (sets_that_count u p) + 1
places_few u [] d = omega arith
places_few u (x ∷ p) d = go (u && set_eq x over_set) refl (places_few u p d.1)
  where
    go : (b : Bool) → (u && set_eq x over_set) ≡ b → length p ≤ length (sets_that_count u p) + 1 → suc (length p) ≤ length (cond (not b) (x ∷ sets_that_count u p) (sets_that_count u p)) + 1
    go false e ih = omega arith
    go true e ih =
        let q = and_parts u (set_eq x over_set) e in
        let same : length (sets_that_count u p) ≡ length p = ap length (counted_all u p (λ _. ap (λ z. is_in z p) (sym (set_eq_true x over_set q.1)) ∙ d.0)) in
        omega arith
