-- Places and writes in the table of one stream.
use Rattle.std.proofs.Common.{◌≡◌, ⊎_elim, ℕ, suc, ◌+◌, ◌≤◌, List, [], ◌∷◌, ◌++◌, map, length, Bool, true, false, cond, not, ◌||◌, ◌&&◌, refl, sym, ap, ◌∙◌, arith, length-append}
use Rattle.std.specs.Prelude.{filter, nat_lt}
use Rattle.std.proofs.lemmas.Bool.{true≢false, false≢true, or_cases, or_left, or_right, false_from_ne_true, ltb-false, le-ltb}
use Rattle.std.proofs.lemmas.List.{map-append}
use Rattle.std.proofs.lemmas.List.Elements.{filter-append}
use Rattle.std.proofs.lemmas.List.Folds.{list_any-append}
use Rattle.otel_common.specs.Equality.{set_eq}
use Rattle.otel_model_stream.specs.Sets.{AttributeSet, none_set, over_set}
use Rattle.otel_model_stream.specs.Folds.{Fold}
use Rattle.otel_model_stream.specs.Entries.{Entry, Table, new_entry, is_of, has, number_counted, entries_with_place, entry_for, on, at_entry, place}
use Rattle.otel_model.specs.Places.{is_settled}
use Rattle.otel_model_stream.proofs.Sets.{set_eq_true, set_eq_self, over_apart}

-- ======== words ========
-- whether the table has an entry of the set g
abbrev pub is_there : AttributeSet → List Entry → Bool
is_there g es = set_eq g none_set || has g es

-- a change of an entry that leaves its set, and whether it is counted
pub record Keeps (f : Entry → Entry) : Type 0 where
  pub set : (e : Entry) → (f e).set ≡ e.set
  pub counted : (e : Entry) → (f e).counted ≡ e.counted

-- ======== a change of one entry ========
on-keeps : {A : Type 0} (get : Entry → A) (g : AttributeSet) (f : Entry → Entry) → ((e : Entry) → get (f e) ≡ get e) → (e : Entry) → get (on g f e) ≡ get e
on-keeps get g f k e = go (is_of g e)
  where
    go : (b : Bool) → get (cond b (f e) e) ≡ get e
    go true = k e
    go false = refl

pub is_of-on : (s g : AttributeSet) (f : Entry → Entry) → Keeps f → (e : Entry) → is_of s (on g f e) ≡ is_of s e
is_of-on s g f k e = on-keeps (is_of s) g f (λ e i. set_eq (k.set e i) s) e

pub has-on : (s g : AttributeSet) (f : Entry → Entry) → Keeps f → (es : List Entry) → has s (map (on g f) es) ≡ has s es
has-on s g f k [] = refl
has-on s g f k (e ∷ es) = λ i. is_of-on s g f k e i || has-on s g f k es i

counted-on : (g : AttributeSet) (f : Entry → Entry) → Keeps f → (es : List Entry) → number_counted (map (on g f) es) ≡ number_counted es
counted-on g f k [] = refl
counted-on g f k (e ∷ es) = (λ i. counted_first (on-keeps (λ e. e.counted) g f k.counted e i) (on g f e) (map (on g f) es)) ∙ go e.counted (counted-on g f k es)
  where
    counted_first : Bool → Entry → List Entry → ℕ
    counted_first b e es = length (cond b (e ∷ filter (λ (x : Entry). x.counted) es) (filter (λ (x : Entry). x.counted) es))

    go : (b : Bool) → number_counted (map (on g f) es) ≡ number_counted es → counted_first b (on g f e) (map (on g f) es) ≡ counted_first b e es
    go true ih = ap suc ih
    go false ih = ih

pub there-on : (x g : AttributeSet) (f : Entry → Entry) → Keeps f → (es : List Entry) → is_there x (map (on g f) es) ≡ is_there x es
there-on x g f k es = ap (λ b. set_eq x none_set || b) (has-on x g f k es)

pub entry_for-on : (s g : AttributeSet) (f : Entry → Entry) → Keeps f → (es : List Entry) → entry_for s (map (on g f) es) ≡ entry_for s es
entry_for-on s g f k es = ap (λ b. cond (set_eq s none_set) none_set (cond b s over_set)) (has-on s g f k es)

pub settled-on : (limit : ℕ) (s g : AttributeSet) (f : Entry → Entry) → Keeps f → (es : List Entry) → is_settled limit s (map (on g f) es) ≡ is_settled limit s es
settled-on limit s g f k es = λ i. set_eq s none_set || (has-on s g f k es i || (not (nat_lt (counted-on g f k es i) limit) && has-on over_set g f k es i))

-- ======== one more entry ========
has-more : (s : AttributeSet) (es : List Entry) (e : Entry) → has s es ≡ true → has s (es ++ e ∷ []) ≡ true
has-more s es e h = list_any-append (is_of s) es (e ∷ []) ∙ or_left (has s es) (is_of s e || false) h

has-new : (es : List Entry) (e : Entry) → has e.set (es ++ e ∷ []) ≡ true
has-new es e = list_any-append (is_of e.set) es (e ∷ []) ∙ or_right (has e.set es) (set_eq e.set e.set || false) (or_left (set_eq e.set e.set) false (set_eq_self e.set))

counted-more : (es : List Entry) (e : Entry) → number_counted (es ++ e ∷ []) ≡ number_counted es + number_counted (e ∷ [])
counted-more es e = ap length (filter-append (λ (x : Entry). x.counted) es (e ∷ [])) ∙ length-append (filter (λ (x : Entry). x.counted) es) (filter (λ (x : Entry). x.counted) (e ∷ []))

full-more : (limit : ℕ) (es : List Entry) (e : Entry) → nat_lt (number_counted es) limit ≡ false → nat_lt (number_counted (es ++ e ∷ [])) limit ≡ false
full-more limit es e h =
    let low : limit ≤ number_counted es = ltb-false (number_counted es) limit h in
    le-ltb (number_counted (es ++ e ∷ [])) limit (omega (arith, counted-more es e))

-- a set that has an entry is settled, and so is each one where the limit is reached and the overflow entry is there
by_entry : (a b c d : Bool) → b ≡ true → (a || (b || (not c && d))) ≡ true
by_entry true b c d e = refl
by_entry false b c d e = λ i. e i || (not c && d)

by_limit : (a b c d : Bool) → c ≡ false → d ≡ true → (a || (b || (not c && d))) ≡ true
by_limit true b c d e f = refl
by_limit false true c d e f = refl
by_limit false false c d e f = λ i. not (e i) && f i

settled-more : (limit : ℕ) (s : AttributeSet) (es : List Entry) (e : Entry) → is_settled limit s es ≡ true → is_settled limit s (es ++ e ∷ []) ≡ true
settled-more limit s es e = go (set_eq s none_set) (has s es) (nat_lt (number_counted es) limit) (has over_set es) refl refl refl
  where
    more : List Entry
    more = es ++ e ∷ []

    go : (a b c d : Bool) → has s es ≡ b → nat_lt (number_counted es) limit ≡ c → has over_set es ≡ d → (a || (b || (not c && d))) ≡ true
        → (a || (has s more || (not (nat_lt (number_counted more) limit) && has over_set more))) ≡ true
    go true b c d eb ec ed h = refl
    go false true c d eb ec ed h = by_entry false (has s more) (nat_lt (number_counted more) limit) (has over_set more) (has-more s es e eb)
    go false false true d eb ec ed h = absurd (false≢true h)
    go false false false d eb ec ed h = by_limit false (has s more) (nat_lt (number_counted more) limit) (has over_set more) (full-more limit es e ec) (has-more over_set es e (ed ∙ h))

there-more : (x : AttributeSet) (es : List Entry) (e : Entry) → is_there x es ≡ true → is_there x (es ++ e ∷ []) ≡ true
there-more x es e h =
    ⊎_elim (λ n. or_left (set_eq x none_set) (has x (es ++ e ∷ [])) n) (λ m. or_right (set_eq x none_set) (has x (es ++ e ∷ [])) (has-more x es e m))
    (or_cases (set_eq x none_set) (has x es) h)

module _ (limit : ℕ) (empty : Fold) where
  -- what a place does to the entries, by the four tests
  abbrev grown : Bool → Bool → Bool → Bool → AttributeSet → List Entry → List Entry
  grown a b c d s es = cond a es (cond b es (cond c (es ++ new_entry empty s true ∷ []) (cond d es (es ++ new_entry empty over_set false ∷ []))))

  -- what holds of the entries, and of them with one more, holds after a place
  grown_keeps : (P : List Entry → Type 0) (a b c d : Bool) (s : AttributeSet) (es : List Entry) → P es → ((e : Entry) → P (es ++ e ∷ [])) → P (grown a b c d s es)
  grown_keeps P true b c d s es old more = old
  grown_keeps P false true c d s es old more = old
  grown_keeps P false false true d s es old more = more (new_entry empty s true)
  grown_keeps P false false false true s es old more = old
  grown_keeps P false false false false s es old more = more (new_entry empty over_set false)

  pub settled_stays : (s t : AttributeSet) (es : List Entry) → is_settled limit s es ≡ true → is_settled limit s (entries_with_place limit empty t es) ≡ true
  settled_stays s t es h = grown_keeps (λ l. is_settled limit s l ≡ true) (set_eq t none_set) (has t es) (nat_lt (number_counted es) limit) (has over_set es) t es h (λ e. settled-more limit s es e h)

  pub there_stays : (x t : AttributeSet) (es : List Entry) → is_there x es ≡ true → is_there x (entries_with_place limit empty t es) ≡ true
  there_stays x t es h = grown_keeps (λ l. is_there x l ≡ true) (set_eq t none_set) (has t es) (nat_lt (number_counted es) limit) (has over_set es) t es h (λ e. there-more x es e h)

  has_stays : (x t : AttributeSet) (es : List Entry) → has x es ≡ true → has x (entries_with_place limit empty t es) ≡ true
  has_stays x t es h = grown_keeps (λ l. has x l ≡ true) (set_eq t none_set) (has t es) (nat_lt (number_counted es) limit) (has over_set es) t es h (λ e. has-more x es e h)

  pub settled_rests : (s : AttributeSet) (es : List Entry) → is_settled limit s es ≡ true → entries_with_place limit empty s es ≡ es
  settled_rests s es h = go (set_eq s none_set) (has s es) (nat_lt (number_counted es) limit) (has over_set es) h
    where
      go : (a b c d : Bool) → (a || (b || (not c && d))) ≡ true → grown a b c d s es ≡ es
      go true b c d h = refl
      go false true c d h = refl
      go false false true d h = absurd (false≢true h)
      go false false false true h = refl
      go false false false false h = absurd (false≢true h)

  pub settled_once : (s : AttributeSet) (es : List Entry) → is_settled limit s (entries_with_place limit empty s es) ≡ true
  settled_once s es = go (set_eq s none_set) (has s es) (nat_lt (number_counted es) limit) (has over_set es) refl refl refl refl
    where
      there : (l : List Entry) → has s l ≡ true → is_settled limit s l ≡ true
      there l e = by_entry (set_eq s none_set) (has s l) (nat_lt (number_counted l) limit) (has over_set l) e

      full : (l : List Entry) → nat_lt (number_counted l) limit ≡ false → has over_set l ≡ true → is_settled limit s l ≡ true
      full l e f = by_limit (set_eq s none_set) (has s l) (nat_lt (number_counted l) limit) (has over_set l) e f

      go : (a b c d : Bool) → set_eq s none_set ≡ a → has s es ≡ b → nat_lt (number_counted es) limit ≡ c → has over_set es ≡ d → is_settled limit s (grown a b c d s es) ≡ true
      go true b c d ea eb ec ed = or_left (set_eq s none_set) (has s es || (not (nat_lt (number_counted es) limit) && has over_set es)) ea
      go false true c d ea eb ec ed = there es eb
      go false false true d ea eb ec ed = there (es ++ new_entry empty s true ∷ []) (has-new es (new_entry empty s true))
      go false false false true ea eb ec ed = full es ec ed
      go false false false false ea eb ec ed = full (es ++ new_entry empty over_set false ∷ []) (full-more limit es (new_entry empty over_set false) ec) (has-new es (new_entry empty over_set false))

  -- a set that is settled uses the same entry after any place
  pub entry_stays : (t s : AttributeSet) (es : List Entry) → is_settled limit t es ≡ true → entry_for t (entries_with_place limit empty s es) ≡ entry_for t es
  entry_stays t s es h = go (set_eq t none_set) (has t es) (nat_lt (number_counted es) limit) (has over_set es) refl refl refl h
    where
      -- where the limit is reached and the overflow entry is there, a place changes nothing
      rests : (a b : Bool) → grown a b false true s es ≡ es
      rests true b = refl
      rests false true = refl
      rests false false = refl

      go : (a b c d : Bool) → has t es ≡ b → nat_lt (number_counted es) limit ≡ c → has over_set es ≡ d → (a || (b || (not c && d))) ≡ true
          → cond a none_set (cond (has t (entries_with_place limit empty s es)) t over_set) ≡ cond a none_set (cond (has t es) t over_set)
      go true b c d eb ec ed h = refl
      go false true c d eb ec ed h = ap (λ b. cond b t over_set) (has_stays t s es eb ∙ sym eb)
      go false false true d eb ec ed h = absurd (false≢true h)
      go false false false d eb ec ed h = ap (λ l. cond (has t l) t over_set) ((λ i. grown (set_eq s none_set) (has s es) (ec i) ((ed ∙ h) i) s es) ∙ rests (set_eq s none_set) (has s es))

  -- and that entry is there
  pub settled_there : (t : AttributeSet) (es : List Entry) → is_settled limit t es ≡ true → is_there (entry_for t es) es ≡ true
  settled_there t es h = go (set_eq t none_set) (has t es) (nat_lt (number_counted es) limit) refl refl h
    where
      go : (a b c : Bool) → set_eq t none_set ≡ a → has t es ≡ b → (a || (b || (not c && has over_set es))) ≡ true → is_there (cond a none_set (cond b t over_set)) es ≡ true
      go true b c ea eb h = or_left (set_eq none_set none_set) (has none_set es) (set_eq_self none_set)
      go false true c ea eb h = or_right (set_eq t none_set) (has t es) eb
      go false false true ea eb h = absurd (false≢true h)
      go false false false ea eb h = or_right (set_eq over_set none_set) (has over_set es) h

  -- a set that has no entry isn't one that is there
  not_there : (s g : AttributeSet) (es : List Entry) → is_there g es ≡ true → set_eq s none_set ≡ false → has s es ≡ false → set_eq s g ≡ false
  not_there s g es there n m = false_from_ne_true (set_eq s g) (λ same.
      ⊎_elim (λ k. true≢false (sym (ap (λ z. set_eq z none_set) (set_eq_true s g same) ∙ k) ∙ n))
      (λ k. true≢false (sym (ap (λ z. has z es) (set_eq_true s g same) ∙ k) ∙ m))
      (or_cases (set_eq g none_set) (has g es) there))

  -- a place and a change of an entry that is there, in either order
  pub apart : (s g : AttributeSet) (f : Entry → Entry) → Keeps f → (es : List Entry) → is_there g es ≡ true
      → entries_with_place limit empty s (map (on g f) es) ≡ map (on g f) (entries_with_place limit empty s es)
  apart s g f k es there =
      (λ i. grown (set_eq s none_set) (has-on s g f k es i) (nat_lt (counted-on g f k es i) limit) (has-on over_set g f k es i) s (map (on g f) es))
      ∙ go (set_eq s none_set) (has s es) (nat_lt (number_counted es) limit) (has over_set es) refl refl refl
    where
      more : (e : Entry) → set_eq e.set g ≡ false → map (on g f) es ++ e ∷ [] ≡ map (on g f) (es ++ e ∷ [])
      more e n = (λ i. map (on g f) es ++ cond (sym n i) (f e) e ∷ []) ∙ sym (map-append (on g f) es (e ∷ []))

      go : (a b c d : Bool) → set_eq s none_set ≡ a → has s es ≡ b → has over_set es ≡ d → grown a b c d s (map (on g f) es) ≡ map (on g f) (grown a b c d s es)
      go true b c d ea eb ed = refl
      go false true c d ea eb ed = refl
      go false false true d ea eb ed = more (new_entry empty s true) (not_there s g es there ea eb)
      go false false false true ea eb ed = refl
      go false false false false ea eb ed = more (new_entry empty over_set false) (not_there over_set g es there over_apart ed)

  -- the same of the table
  pub apart_table : (s g : AttributeSet) (f : Entry → Entry) → Keeps f → (t : Table) → is_there g t.entries ≡ true → place limit empty s (at_entry g f t) ≡ at_entry g f (place limit empty s t)
  apart_table s g f k t there = λ i. record { none = on g f t.none; entries = apart s g f k t.entries there i }
