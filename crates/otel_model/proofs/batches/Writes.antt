-- Two writes in one table, where another one follows.
use Rattle.std.proofs.Common.{◌≡◌, ℕ, zero, suc, ◌+◌, ℤ, List, [], ◌∷◌, map, Bool, true, false, cond, Option, Some, None, refl, sym, ap, ◌∙◌, arith}
use Rattle.std.specs.Int.{int_min, int_max}
use Rattle.std.proofs.lemmas.Int.{ints, int_min_is, int_max_is}
use Rattle.otel_model_stream.specs.Sets.{AttributeSet}
use Rattle.otel_model_stream.specs.Folds.{Sample, Fold, Total, Last, Spreads, Spread, wrap, lesser, greater, counted_in, record_spread, record_fold}
use Rattle.otel_model_stream.specs.Entries.{Entry, Table, is_of, on, write, at_entry}
use Rattle.otel_model.proofs.Gather.{map_both}
use Rattle.otel_model.proofs.batches.Tables.{Keeps, is_of-on}

-- ======== folds ========
-- a fold without what the next measurement does away with: a last value
abbrev pub blur_fold : Fold → Fold
blur_fold (Total n) = Total n
blur_fold (Last n) = Last 0
blur_fold (Spreads s) = Spreads s

blur-record : (f : Fold) (v : Sample) → record_fold (blur_fold f) v ≡ record_fold f v
blur-record (Total n) v = refl
blur-record (Last n) v = refl
blur-record (Spreads s) v = refl

blur-blur : (f : Fold) → blur_fold (blur_fold f) ≡ blur_fold f
blur-blur (Total n) = refl
blur-blur (Last n) = refl
blur-blur (Spreads s) = refl

lesser_twice : (o : Option ℤ) (x y : ℤ) → lesser (lesser o x) y ≡ lesser (lesser o y) x
lesser_twice None x y = ap Some (omega (arith, ints, int_min_is x y, int_min_is y x))
lesser_twice (Some z) x y = ap Some (omega (arith, ints, int_min_is z x, int_min_is (int_min z x) y, int_min_is z y, int_min_is (int_min z y) x))

greater_twice : (o : Option ℤ) (x y : ℤ) → greater (greater o x) y ≡ greater (greater o y) x
greater_twice None x y = ap Some (omega (arith, ints, int_max_is x y, int_max_is y x))
greater_twice (Some z) x y = ap Some (omega (arith, ints, int_max_is z x, int_max_is (int_max z x) y, int_max_is z y, int_max_is (int_max z y) x))

counted_twice : (ns : List ℕ) (i j : ℕ) → counted_in (counted_in ns i) j ≡ counted_in (counted_in ns j) i
counted_twice [] i j = refl
counted_twice (n ∷ ns) zero zero = refl
counted_twice (n ∷ ns) zero (suc j) = refl
counted_twice (n ∷ ns) (suc i) zero = refl
counted_twice (n ∷ ns) (suc i) (suc j) = ap (λ l. n ∷ l) (counted_twice ns i j)

pub wrap_twice : (n a b : ℕ) → wrap (wrap (n + a) + b) ≡ wrap (wrap (n + b) + a)
wrap_twice n a b = omega arith

-- what is kept only if a test says so, after two changes in either order
kept_twice : {A : Type 0} (b : Bool) (f g : A → A) (x : A) → f (g x) ≡ g (f x) → cond b (f (cond b (g x) x)) (cond b (g x) x) ≡ cond b (g (cond b (f x) x)) (cond b (f x) x)
kept_twice true f g x e = e
kept_twice false f g x e = refl

spread_twice : (s : Spread) (u w : Sample) → record_spread (record_spread s u) w ≡ record_spread (record_spread s w) u
spread_twice s u w = λ i. record {
  has_min_max = s.has_min_max;
  has_sum = s.has_sum;
  count = wrap (wrap (s.count + 1) + 1);
  sum = kept_twice s.has_sum (λ n. wrap (n + w.bits)) (λ n. wrap (n + u.bits)) s.sum (wrap_twice s.sum u.bits w.bits) i;
  least = kept_twice s.has_min_max (λ o. lesser o w.wide) (λ o. lesser o u.wide) s.least (lesser_twice s.least u.wide w.wide) i;
  greatest = kept_twice s.has_min_max (λ o. greater o w.wide) (λ o. greater o u.wide) s.greatest (greater_twice s.greatest u.wide w.wide) i;
  counts = counted_twice s.counts u.bucket w.bucket i;
}

record_twice : (f : Fold) (u w : Sample) → blur_fold (record_fold (record_fold f u) w) ≡ blur_fold (record_fold (record_fold f w) u)
record_twice (Total n) u w = ap Total (wrap_twice n u.bits w.bits)
record_twice (Last n) u w = refl
record_twice (Spreads s) u w = ap Spreads (spread_twice s u w)

-- ======== entries ========
-- the entry as updated, without what the next measurement does away with
abbrev pub blurred : Entry → Entry
blurred e = record e { updated = true; fold = blur_fold e.fold }

pub write-keeps : (v : Sample) → Keeps (write v)
write-keeps v = record { set = λ e. refl; counted = λ e. refl }

pub blurred-keeps : Keeps blurred
blurred-keeps = record { set = λ e. refl; counted = λ e. refl }

-- one change after another, by the tests of the first entry
abbrev at : Bool → (Entry → Entry) → Entry → Entry
at b f e = cond b (f e) e

two : (g h : AttributeSet) (f k : Entry → Entry) → Keeps k → (e : Entry) → on g f (on h k e) ≡ at (is_of g e) f (at (is_of h e) k e)
two g h f k kk e = λ i. at (is_of-on g h k kk e i) f (on h k e)

three : (g h j : AttributeSet) (f k m : Entry → Entry) → Keeps k → Keeps m → (e : Entry) → on g f (on h k (on j m e)) ≡ at (is_of g e) f (at (is_of h e) k (at (is_of j e) m e))
three g h j f k m kk km e =
    (λ i. at (is_of-on g h k kk (on j m e) i) f (on h k (on j m e)))
    ∙ (λ i. at (is_of-on g j m km e i) f (at (is_of-on h j m km e i) k (on j m e)))

-- a write does away with what blurring does
cleared_at : (a : Bool) (v : Sample) (e : Entry) → at a (write v) (at a blurred e) ≡ at a (write v) e
cleared_at true v e = λ i. record e { updated = true; fold = blur-record e.fold v i }
cleared_at false v e = refl

blurred_at : (a b : Bool) (w : Sample) (e : Entry) → at a blurred (at b (write w) (at a blurred e)) ≡ at a blurred (at b (write w) e)
blurred_at true true w e = λ i. record e { updated = true; fold = blur_fold (blur-record e.fold w i) }
blurred_at true false w e = λ i. record e { updated = true; fold = blur-blur e.fold i }
blurred_at false b w e = refl

swapped_at : (a b : Bool) (u w : Sample) (e : Entry) → at a blurred (at b (write w) (at a (write u) e)) ≡ at a blurred (at a (write u) (at b (write w) e))
swapped_at true true u w e = λ i. record e { updated = true; fold = record_twice e.fold u w i }
swapped_at true false u w e = refl
swapped_at false true u w e = refl
swapped_at false false u w e = refl

-- ======== tables ========
map_three : {A : Type 0} (f k m l : A → A) (es : List A) → ((e : A) → f (k (m e)) ≡ l e) → map f (map k (map m es)) ≡ map l es
map_three f k m l [] h = refl
map_three f k m l (e ∷ es) h = λ i. h e i ∷ map_three f k m l es h i

pub cleared_table : (g : AttributeSet) (v : Sample) (t : Table) → at_entry g (write v) (at_entry g blurred t) ≡ at_entry g (write v) t
cleared_table g v t = λ i. record { none = one t.none i; entries = map_both (on g (write v)) (on g blurred) (on g (write v)) t.entries one i }
  where
    one : (e : Entry) → on g (write v) (on g blurred e) ≡ on g (write v) e
    one e = two g g (write v) blurred blurred-keeps e ∙ cleared_at (is_of g e) v e

pub blurred_table : (g h : AttributeSet) (w : Sample) (t : Table) → at_entry g blurred (at_entry h (write w) (at_entry g blurred t)) ≡ at_entry g blurred (at_entry h (write w) t)
blurred_table g h w t = λ i. record {
  none = one t.none i;
  entries = (map_three (on g blurred) (on h (write w)) (on g blurred) once t.entries one ∙ sym (map_both (on g blurred) (on h (write w)) once t.entries (λ e. refl))) i;
}
  where
    once : Entry → Entry
    once e = on g blurred (on h (write w) e)

    one : (e : Entry) → on g blurred (on h (write w) (on g blurred e)) ≡ once e
    one e = three g h g blurred (write w) blurred (write-keeps w) blurred-keeps e ∙ (blurred_at (is_of g e) (is_of h e) w e ∙ sym (two g h blurred (write w) (write-keeps w) e))

pub swapped_table : (g h : AttributeSet) (u w : Sample) (t : Table)
    → at_entry g blurred (at_entry h (write w) (at_entry g (write u) t)) ≡ at_entry g blurred (at_entry g (write u) (at_entry h (write w) t))
swapped_table g h u w t = λ i. record {
  none = one t.none i;
  entries = (map_three (on g blurred) (on h (write w)) (on g (write u)) other t.entries one ∙ sym (map_three (on g blurred) (on g (write u)) (on h (write w)) other t.entries (λ e. refl))) i;
}
  where
    other : Entry → Entry
    other e = on g blurred (on g (write u) (on h (write w) e))

    one : (e : Entry) → on g blurred (on h (write w) (on g (write u) e)) ≡ other e
    one e =
        three g h g blurred (write w) (write u) (write-keeps w) (write-keeps u) e
        ∙ (swapped_at (is_of g e) (is_of h e) u w e ∙ sym (three g g h blurred (write u) (write w) (write-keeps u) (write-keeps w) e))

pub blurred_twice : (g : AttributeSet) (t : Table) → at_entry g blurred (at_entry g blurred t) ≡ at_entry g blurred t
blurred_twice g t = λ i. record { none = one t.none i; entries = map_both (on g blurred) (on g blurred) (on g blurred) t.entries one i }
  where
    same : (b : Bool) (e : Entry) → at b blurred (at b blurred e) ≡ at b blurred e
    same true e = λ i. record e { updated = true; fold = blur-blur e.fold i }
    same false e = refl

    one : (e : Entry) → on g blurred (on g blurred e) ≡ on g blurred e
    one e = two g g blurred blurred blurred-keeps e ∙ same (is_of g e) e
