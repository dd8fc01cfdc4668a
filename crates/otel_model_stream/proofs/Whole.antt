-- The machine agrees with the windows, for every list of events.
use Rattle.std.proofs.Common.{◌≡◌, ◌⊎◌, inl, inr, ⊎_elim, ℕ, ◌+◌, List, [], ◌∷◌, ◌++◌, map, Bool, true, false, cond, ◌||◌, refl, sym, ap, ◌∙◌, arith}
use Rattle.std.specs.Prelude.{filter, nat_lt, count_by}
use Rattle.std.proofs.lemmas.Bool.{false≢true, true≢false, cases_Bool, lt-ltb, or_cases, false_from_ne_true}
use Rattle.std.proofs.lemmas.List.Sums.{sum_by-cons}
use Rattle.otel_common.specs.Equality.{set_eq}
use Rattle.otel_model_stream.specs.Sets.{AttributeSet, none_set, over_set}
use Rattle.otel_model_stream.specs.Folds.{Aggregate}
use Rattle.otel_model_stream.specs.Events.{Event, Record, Bind, RecordBound, Unbind, Collect, Kind, Delta, Cumulative, Drained, Handles}
use Rattle.otel_model_stream.specs.Entries.{Entry, reset, stays, point_of_entry}
use Rattle.otel_model_stream.specs.Machine.{Machine, begin, machine_after_collection, points, run, answers}
use Rattle.otel_model_stream.specs.Windows.{Window, is_in, sets_that_count, places_of, uncounted_of, live_of, records_of, is_hit, is_held, values_of, point, points_of, first, next, cut, opening, more, window, collections}
use Rattle.otel_model_stream.proofs.Sets.{set_eq_true, set_eq_self}
use Rattle.otel_model_stream.proofs.Lists.{or_true}
use Rattle.otel_model_stream.proofs.Clearing.{cleared_list}
use Rattle.otel_model_stream.proofs.FoldLaws.{fold_of-none}
use Rattle.otel_model_stream.proofs.Build.{Pairs, item, counts, entry}
use Rattle.otel_model_stream.proofs.Steps.{summary, IsSound}
use Rattle.otel_model_stream.proofs.Moves.{made_of, step_record, step_bind, step_through, step_let_go}
use Rattle.otel_model_stream.proofs.Sound.{sound_record, sound_bind, sound_through, sound_let_go, facts_start, sound_start}

-- ======== a collection ========
nothing : (n : ℕ) → 0 + n ≡ n
nothing n = omega arith

-- some handle is counted exactly if one is held
some_held : (hs : Handles) (x : AttributeSet) → nat_lt 0 (count_by (λ p. set_eq p.1 x) hs) ≡ is_held hs x
some_held [] x = refl
some_held (q ∷ hs) x = ap (λ n. nat_lt 0 n) (sum_by-cons (λ (p : ℕ × AttributeSet). cond (set_eq p.1 x) 1 0) q hs) ∙ go (set_eq q.1 x) (some_held hs x)
  where
    go : (b : Bool) → nat_lt 0 (count_by (λ p. set_eq p.1 x) hs) ≡ is_held hs x → nat_lt 0 (cond b 1 0 + count_by (λ p. set_eq p.1 x) hs) ≡ (b || is_held hs x)
    go true ih = lt-ltb 0 (1 + count_by (λ p. set_eq p.1 x) hs) (omega arith)
    go false ih = ap (λ n. nat_lt 0 n) (nothing (count_by (λ p. set_eq p.1 x) hs)) ∙ ih

-- what stays in the next window
abbrev pub stays_in : Pairs → Handles → AttributeSet → Bool
stays_in rs hs x = is_hit rs x || (is_held hs x || set_eq x over_set)

-- a reset entry is one without records
reset_item : (σ : Aggregate) (c : Bool) (rs : Pairs) (hs : Handles) (x : AttributeSet) → reset (item σ c rs hs x) ≡ item σ c [] hs x
reset_item σ c rs hs x = λ i. record { set = x; counted = c; updated = false; fold = (cleared_list σ (values_of rs x) ∙ sym (fold_of-none σ)) i; handles = count_by (λ p. set_eq p.1 x) hs }

kept_entries : (σ : Aggregate) (u : Bool) (rs : Pairs) (hs : Handles) (p : List AttributeSet) → map reset (filter stays (map (entry σ u rs hs) p)) ≡ map (entry σ u [] hs) (filter (stays_in rs hs) p)
kept_entries σ u rs hs [] = refl
kept_entries σ u rs hs (x ∷ p) =
    ap (λ b. map reset (cond (is_hit rs x || (b || set_eq x over_set)) (entry σ u rs hs x ∷ filter stays (map (entry σ u rs hs) p)) (filter stays (map (entry σ u rs hs) p)))) (some_held hs x)
    ∙ go (stays_in rs hs x) (kept_entries σ u rs hs p)
  where
    go : (b : Bool) → map reset (filter stays (map (entry σ u rs hs) p)) ≡ map (entry σ u [] hs) (filter (stays_in rs hs) p)
        → map reset (cond b (entry σ u rs hs x ∷ filter stays (map (entry σ u rs hs) p)) (filter stays (map (entry σ u rs hs) p))) ≡ map (entry σ u [] hs) (cond b (x ∷ filter (stays_in rs hs) p) (filter (stays_in rs hs) p))
    go true ih = λ i. reset_item σ (counts u x) rs hs x i ∷ ih i
    go false ih = ih

shown_hits : (σ : Aggregate) (u : Bool) (rs : Pairs) (hs : Handles) (p : List AttributeSet) → map point_of_entry (filter (λ e. false || e.updated) (map (entry σ u rs hs) p)) ≡ map (point σ rs) (filter (is_hit rs) p)
shown_hits σ u rs hs [] = refl
shown_hits σ u rs hs (x ∷ p) = go (is_hit rs x) (shown_hits σ u rs hs p)
  where
    go : (b : Bool) → map point_of_entry (filter (λ e. false || e.updated) (map (entry σ u rs hs) p)) ≡ map (point σ rs) (filter (is_hit rs) p)
        → map point_of_entry (cond b (entry σ u rs hs x ∷ filter (λ e. false || e.updated) (map (entry σ u rs hs) p)) (filter (λ e. false || e.updated) (map (entry σ u rs hs) p))) ≡ map (point σ rs) (cond b (x ∷ filter (is_hit rs) p) (filter (is_hit rs) p))
    go true ih = ap (λ l. point σ rs x ∷ l) ih
    go false ih = ih

shown_all : (σ : Aggregate) (u : Bool) (rs : Pairs) (hs : Handles) (p : List AttributeSet) → map point_of_entry (filter (λ e. true || e.updated) (map (entry σ u rs hs) p)) ≡ map (point σ rs) p
shown_all σ u rs hs [] = refl
shown_all σ u rs hs (x ∷ p) = ap (λ l. point σ rs x ∷ l) (shown_all σ u rs hs p)

-- the empty set's point stands first, if it has one
shown_first : (σ : Aggregate) (rs : Pairs) (hs : Handles) (es : List Entry) (l : List AttributeSet) → map point_of_entry es ≡ map (point σ rs) l
    → map point_of_entry (filter (λ e. e.updated) (item σ false rs hs none_set ∷ []) ++ es) ≡ map (point σ rs) (filter (is_hit rs) (none_set ∷ []) ++ l)
shown_first σ rs hs es l same = go (is_hit rs none_set)
  where
    go : (b : Bool) → map point_of_entry (cond b (item σ false rs hs none_set ∷ []) [] ++ es) ≡ map (point σ rs) (cond b (none_set ∷ []) [] ++ l)
    go true = ap (λ ps. point σ rs none_set ∷ ps) same
    go false = same

pub same_points : (σ : Aggregate) (kind : Kind) (limit : ℕ) (w : Window) → points kind (summary σ limit w) ≡ points_of σ kind limit w
same_points σ Delta limit w = shown_first σ (records_of limit w) (live_of limit w) _ _ (shown_hits σ (uncounted_of limit w) (records_of limit w) (live_of limit w) (places_of limit w))
same_points σ Cumulative limit w = shown_first σ (records_of limit w) (live_of limit w) _ _ (shown_all σ (uncounted_of limit w) (records_of limit w) (live_of limit w) (places_of limit w))
same_points σ Drained limit w = shown_first σ (records_of limit w) (live_of limit w) _ _ (shown_all σ (uncounted_of limit w) (records_of limit w) (live_of limit w) (places_of limit w))

pub same_cut : (σ : Aggregate) (kind : Kind) (limit : ℕ) (w : Window) → machine_after_collection kind (summary σ limit w) ≡ summary σ limit (cut kind limit w)
same_cut σ Delta limit w =
    (λ i. record {
      table = record {
        none = reset_item σ false (records_of limit w) (live_of limit w) none_set i;
        entries = kept_entries σ (uncounted_of limit w) (records_of limit w) (live_of limit w) (places_of limit w) i;
      };
      live = live_of limit w;
    })
    ∙ ap (made_of σ) (sym (facts_start limit (next limit w)))
same_cut σ Cumulative limit w = refl
same_cut σ Drained limit w =
    (λ i. record {
      table = record {
        none = record { set = none_set; counted = false; updated = false; fold = (cleared_list σ (values_of (records_of limit w) none_set) ∙ sym (fold_of-none σ)) i; handles = 0 };
        entries = [];
      };
      live = [];
    })
    ∙ ap (made_of σ) (sym (facts_start limit first))

is_in_filter : (f : AttributeSet → Bool) (x : AttributeSet) (p : List AttributeSet) → f x ≡ true → is_in x p ≡ true → is_in x (filter f p) ≡ true
is_in_filter f x [] e m = m
is_in_filter f x (y ∷ p) e m = go (f y) (λ d. ap f (set_eq_true y x d) ∙ e) (or_cases (set_eq y x) (is_in x p) m) (is_in_filter f x p e)
  where
    go : (b : Bool) → (set_eq y x ≡ true → b ≡ true) → (set_eq y x ≡ true) ⊎ (is_in x p ≡ true) → (is_in x p ≡ true → is_in x (filter f p) ≡ true) → is_in x (cond b (y ∷ filter f p) (filter f p)) ≡ true
    go true g w ih = ⊎_elim (λ d. ap (λ b. b || is_in x (filter f p)) d) (λ m. ap (λ b. set_eq y x || b) (ih m) ∙ or_true (set_eq y x)) w
    go false g w ih = ⊎_elim (λ d. absurd (false≢true (g d))) ih w

pub sound_cut : (kind : Kind) (limit : ℕ) (w : Window) → IsSound limit w → IsSound limit (cut kind limit w)
sound_cut Delta limit w a = sound_start limit (next limit w)
    (λ u. is_in_filter (stays_in (records_of limit w) (live_of limit w)) over_set (places_of limit w)
    (ap (λ b. is_hit (records_of limit w) over_set || b) (ap (λ c. is_held (live_of limit w) over_set || c) (set_eq_self over_set) ∙ or_true (is_held (live_of limit w) over_set)) ∙ or_true (is_hit (records_of limit w) over_set)) (a.over u))
    (λ x e m. false_from_ne_true (is_held (live_of limit w) x) (λ h. kept x e m h (cases_Bool (is_in x (places_of limit w)))))
  where
    kept : (x : AttributeSet) → set_eq x none_set ≡ false → is_in x (filter (stays_in (records_of limit w) (live_of limit w)) (places_of limit w)) ≡ false → is_held (live_of limit w) x ≡ true → (is_in x (places_of limit w) ≡ true) ⊎ (is_in x (places_of limit w) ≡ false) → ⊥
    kept x e m h (inl p) = true≢false (sym (is_in_filter (stays_in (records_of limit w) (live_of limit w)) x (places_of limit w)
        (ap (λ b. is_hit (records_of limit w) x || (b || set_eq x over_set)) h ∙ or_true (is_hit (records_of limit w) x)) p) ∙ m)
    kept x e m h (inr p) = true≢false (sym h ∙ a.helds x e p)
sound_cut Cumulative limit w a = a
sound_cut Drained limit w a = sound_start limit first (λ e. absurd (false≢true e)) (λ x e m. refl)

-- ======== all events ========
pub whole : (σ : Aggregate) (kind : Kind) (limit : ℕ) (w : Window) (es : List Event) → IsSound limit w
    → (run σ kind limit (summary σ limit w) es ≡ summary σ limit (window kind limit w es)) × (answers σ kind limit (summary σ limit w) es ≡ collections σ kind limit w es)
whole σ kind limit w [] a = (refl, refl)
whole σ kind limit w (Record s v ∷ es) a =
    let q = whole σ kind limit (more w (Record s v)) es (sound_record limit w s v a) in
    let e = step_record σ limit w s v a in
    (ap (λ m. run σ kind limit m es) e ∙ q.0, ap (λ m. answers σ kind limit m es) e ∙ q.1)
whole σ kind limit w (Bind h s ∷ es) a =
    let q = whole σ kind limit (more w (Bind h s)) es (sound_bind limit w h s a) in
    let e = step_bind σ limit w h s a in
    (ap (λ m. run σ kind limit m es) e ∙ q.0, ap (λ m. answers σ kind limit m es) e ∙ q.1)
whole σ kind limit w (RecordBound h v ∷ es) a =
    let q = whole σ kind limit (more w (RecordBound h v)) es (sound_through limit w h v a) in
    let e = step_through σ limit w h v a in
    (ap (λ m. run σ kind limit m es) e ∙ q.0, ap (λ m. answers σ kind limit m es) e ∙ q.1)
whole σ kind limit w (Unbind h ∷ es) a =
    let q = whole σ kind limit (more w (Unbind h)) es (sound_let_go limit w h a) in
    let e = step_let_go σ limit w h a in
    (ap (λ m. run σ kind limit m es) e ∙ q.0, ap (λ m. answers σ kind limit m es) e ∙ q.1)
whole σ kind limit w (Collect ∷ es) a =
    let q = whole σ kind limit (cut kind limit w) es (sound_cut kind limit w a) in
    let e = same_cut σ kind limit w in
    (ap (λ m. run σ kind limit m es) e ∙ q.0, (λ i. same_points σ kind limit w i ∷ (ap (λ m. answers σ kind limit m es) e ∙ q.1) i))

-- the sets of the summary's entries, and of those that are counted
sets_of : (σ : Aggregate) (u : Bool) (rs : Pairs) (hs : Handles) (p : List AttributeSet) → map (λ (e : Entry). e.set) (map (entry σ u rs hs) p) ≡ p
sets_of σ u rs hs [] = refl
sets_of σ u rs hs (x ∷ p) = ap (λ l. x ∷ l) (sets_of σ u rs hs p)

counted_sets : (σ : Aggregate) (u : Bool) (rs : Pairs) (hs : Handles) (p : List AttributeSet) → map (λ (e : Entry). e.set) (filter (λ e. e.counted) (map (entry σ u rs hs) p)) ≡ sets_that_count u p
counted_sets σ u rs hs [] = refl
counted_sets σ u rs hs (x ∷ p) = go (counts u x) (counted_sets σ u rs hs p)
  where
    go : (b : Bool) → map (λ (e : Entry). e.set) (filter (λ e. e.counted) (map (entry σ u rs hs) p)) ≡ sets_that_count u p
        → map (λ (e : Entry). e.set) (cond b (entry σ u rs hs x ∷ filter (λ e. e.counted) (map (entry σ u rs hs) p)) (filter (λ e. e.counted) (map (entry σ u rs hs) p))) ≡ cond b (x ∷ sets_that_count u p) (sets_that_count u p)
    go true ih = ap (λ l. x ∷ l) ih
    go false ih = ih

-- ======== from the start ========
pub sound_opening : (limit : ℕ) → IsSound limit opening
sound_opening limit = sound_start limit first (λ e. absurd (false≢true e)) (λ x e m. refl)

pub summary_opening : (σ : Aggregate) (limit : ℕ) → begin σ ≡ summary σ limit opening
summary_opening σ limit =
    (λ i. record { table = record { none = record { set = none_set; counted = false; updated = false; fold = sym (fold_of-none σ) i; handles = 0 }; entries = [] }; live = [] })
    ∙ ap (made_of σ) (sym (facts_start limit first))

pub run_is : (σ : Aggregate) (kind : Kind) (limit : ℕ) (es : List Event) → run σ kind limit (begin σ) es ≡ summary σ limit (window kind limit opening es)
run_is σ kind limit es = ap (λ m. run σ kind limit m es) (summary_opening σ limit) ∙ (whole σ kind limit opening es (sound_opening limit)).0

pub points_of_run : (σ : Aggregate) (kind : Kind) (limit : ℕ) (es : List Event) → points kind (run σ kind limit (begin σ) es) ≡ points_of σ kind limit (window kind limit opening es)
points_of_run σ kind limit es = ap (points kind) (run_is σ kind limit es) ∙ same_points σ kind limit (window kind limit opening es)

pub points_are : (σ : Aggregate) (kind : Kind) (limit : ℕ) (es : List Event) → answers σ kind limit (begin σ) es ≡ collections σ kind limit opening es
points_are σ kind limit es = ap (λ m. answers σ kind limit m es) (summary_opening σ limit) ∙ (whole σ kind limit opening es (sound_opening limit)).1

pub places_are : (σ : Aggregate) (kind : Kind) (limit : ℕ) (es : List Event) → map (λ (e : Entry). e.set) (run σ kind limit (begin σ) es).table.entries ≡ places_of limit (window kind limit opening es)
places_are σ kind limit es =
    ap (λ (m : Machine). map (λ (e : Entry). e.set) m.table.entries) (run_is σ kind limit es)
    ∙ sets_of σ (uncounted_of limit (window kind limit opening es)) (records_of limit (window kind limit opening es)) (live_of limit (window kind limit opening es)) (places_of limit (window kind limit opening es))

pub counted_are : (σ : Aggregate) (kind : Kind) (limit : ℕ) (es : List Event) → map (λ (e : Entry). e.set) (filter (λ e. e.counted) (run σ kind limit (begin σ) es).table.entries) ≡ sets_that_count (uncounted_of limit (window kind limit opening es)) (places_of limit (window kind limit opening es))
counted_are σ kind limit es =
    ap (λ (m : Machine). map (λ (e : Entry). e.set) (filter (λ e. e.counted) m.table.entries)) (run_is σ kind limit es)
    ∙ counted_sets σ (uncounted_of limit (window kind limit opening es)) (records_of limit (window kind limit opening es)) (live_of limit (window kind limit opening es)) (places_of limit (window kind limit opening es))
