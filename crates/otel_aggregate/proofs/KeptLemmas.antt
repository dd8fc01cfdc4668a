-- What a stream of any aggregate keeps stays of its form and number type.
use Rattle.std.proofs.Common.{◌≡◌, ◌∙◌, refl, ap, sym, subst, ℕ, Bool, true, false, cond, List, [], ◌∷◌, filter, Option, Some, None, is_some, true≢false}
use Rattle.std.specs.Prelude.{Box}
use Rattle.std.specs.declared.alloc.Global.{Global}
use Rattle.std.specs.Prelude.{ℤ, ◌||◌, nat_lt}
use Rattle.std.proofs.lemmas.Bool.{cond_both}
use Rattle.std.specs.List.{AllByRecursion}
use Rattle.otel_common.specs.Equality.{set_eq}
use Rattle.otel_model_stream.specs.Sets.{AttributeSet, none_set, over_set}
use Rattle.otel_model_stream.specs.Folds.{Sample, Fold, Total, Last, Spreads, record_fold, clear_fold, empty_of, lesser, greater}
use Rattle.otel_model_stream.specs.Entries.{Entry, Point, Table, new_entry, is_of, has, number_counted, entries_with_place, entry_for, on, write, place, take_handle, drop_handle, reset, stays, points, point_of_entry}
use Rattle.otel_model_stream.specs.Maps.{MapState, new_map, bound_map, updated_bound, unbound_map, evicted_map, drained_map}
use Rattle.otel_aggregate.specs.value_map.Contents.{MapContents}
use Rattle.otel_aggregate.specs.declared.settings.AnySettings.{AnySettings}
use Rattle.otel_aggregate.specs.declared.settings.AnySettings.TheVariants as kinds
use Rattle.otel_aggregate.specs.Any.{Form, form_of, aggregate_of, drains_of}
use Rattle.otel_aggregate.specs.Kept.{IsWithin, IsWithinIfSome, IsKept, AreKept, IsKeptMap, IsReportedOf, AreShowable, state_of}
use Rattle.otel_aggregate.specs.Links.{Link}
use Rattle.otel_aggregate.proofs.All.{all-map, all-append, all-filter}

-- ======== folds ========
within-lesser : (s : Bool) (o : Option ℤ) (z : ℤ) → IsWithin s z → IsWithinIfSome s o → IsWithinIfSome s (lesser o z)
within-lesser s None z w h = w
within-lesser s (Some y) z w h = cond_both _ z y (IsWithin s) (λ q. w) (λ q. h)

within-greater : (s : Bool) (o : Option ℤ) (z : ℤ) → IsWithin s z → IsWithinIfSome s o → IsWithinIfSome s (greater o z)
within-greater s None z w h = w
within-greater s (Some y) z w h = cond_both _ y z (IsWithin s) (λ q. h) (λ q. w)

kept-recorded : (s : Bool) (k : Form) (f : Fold) (v : Sample) → IsWithin s v.wide → IsKept s k f → IsKept s k (record_fold f v)
kept-recorded s k (Total n) v w h = h
kept-recorded s k (Last n) v w h = h
kept-recorded s k (Spreads x) v w h = (h.0, (cond_both x.has_min_max _ _ (IsWithinIfSome s) (λ q. within-lesser s x.least v.wide w h.1.0) (λ q. h.1.0), cond_both x.has_min_max _ _ (IsWithinIfSome s) (λ q. within-greater s x.greatest v.wide w h.1.1) (λ q. h.1.1)))

kept-cleared : (s : Bool) (k : Form) (f : Fold) → IsKept s k f → IsKept s k (clear_fold f)
kept-cleared s k (Total n) h = h
kept-cleared s k (Last n) h = h
kept-cleared s k (Spreads x) h = (h.0, (tt, tt))

-- ======== entries ========
abbrev KeepsOf : Bool → Form → Entry → Type 0
KeepsOf s k e = IsKept s k e.fold

abbrev All : Bool → Form → List Entry → Type 0
All s k es = AllByRecursion (KeepsOf s k) es

all-placed : (s : Bool) (k : Form) (limit : ℕ) (empty : Fold) (set : AttributeSet) (es : List Entry) → IsKept s k empty → All s k es → All s k (entries_with_place limit empty set es)
all-placed s k limit empty set es none all =
    cond_both (set_eq set none_set) _ _ (All s k) (λ q. all) (λ q.
    cond_both (has set es) _ _ (All s k) (λ q. all) (λ q.
    cond_both (nat_lt (number_counted es) limit) _ _ (All s k) (λ q. all-append (KeepsOf s k) es (new_entry empty set true ∷ []) all (none, tt)) (λ q.
    cond_both (has over_set es) _ _ (All s k) (λ q. all) (λ q. all-append (KeepsOf s k) es (new_entry empty over_set false ∷ []) all (none, tt)))))

kept-on : (s : Bool) (k : Form) (g : AttributeSet) (h : Entry → Entry) → ((e : Entry) → IsKept s k e.fold → IsKept s k (h e).fold) → (e : Entry) → IsKept s k e.fold → IsKept s k (on g h e).fold
kept-on s k g h one e kept = cond_both (is_of g e) (h e) e (KeepsOf s k) (λ q. one e kept) (λ q. kept)

-- ======== maps ========
pub kept-placed : (s : Bool) (k : Form) (set : AttributeSet) (m : MapState) → IsKeptMap s k m → IsKeptMap s k (record m { table = place m.limit m.empty set m.table })
kept-placed s k set m h = (h.0, (h.1.0, all-placed s k m.limit m.empty set m.table.entries h.0 h.1.1))

pub kept-updated : (s : Bool) (k : Form) (g : AttributeSet) (v : Sample) (m : MapState) → IsWithin s v.wide → IsKeptMap s k m → IsKeptMap s k (updated_bound g v m)
kept-updated s k g v m w h =
    let one : (e : Entry) → IsKept s k e.fold → IsKept s k (on g (write v) e).fold = kept-on s k g (write v) (λ (e : Entry). λ (x : IsKept s k e.fold). kept-recorded s k e.fold v w x) in
    (h.0, (one m.table.none h.1.0, all-map (KeepsOf s k) (KeepsOf s k) (on g (write v)) one m.table.entries h.1.1))

pub kept-bound : (s : Bool) (k : Form) (set : AttributeSet) (m : MapState) → IsKeptMap s k m → IsKeptMap s k (bound_map set m)
kept-bound s k set m h =
    let es : List Entry = entries_with_place m.limit m.empty set m.table.entries in
    let one : (e : Entry) → IsKept s k e.fold → IsKept s k (on (entry_for set es) take_handle e).fold = kept-on s k (entry_for set es) take_handle (λ (e : Entry). λ (h : IsKept s k e.fold). h) in
    (h.0, (one m.table.none h.1.0, all-map (KeepsOf s k) (KeepsOf s k) (on (entry_for set es) take_handle) one es (all-placed s k m.limit m.empty set m.table.entries h.0 h.1.1)))

pub kept-unbound : (s : Bool) (k : Form) (g : AttributeSet) (m : MapState) → IsKeptMap s k m → IsKeptMap s k (unbound_map g m)
kept-unbound s k g m h =
    let one : (e : Entry) → IsKept s k e.fold → IsKept s k (on g drop_handle e).fold = kept-on s k g drop_handle (λ (e : Entry). λ (h : IsKept s k e.fold). h) in
    (h.0, (one m.table.none h.1.0, all-map (KeepsOf s k) (KeepsOf s k) (on g drop_handle) one m.table.entries h.1.1))

pub kept-evicted : (s : Bool) (k : Form) (m : MapState) → IsKeptMap s k m → IsKeptMap s k (evicted_map m)
kept-evicted s k m h =
    (h.0, (kept-cleared s k m.table.none.fold h.1.0, all-map (KeepsOf s k) (KeepsOf s k) reset (λ e. kept-cleared s k e.fold) (filter stays m.table.entries) (all-filter (KeepsOf s k) stays m.table.entries h.1.1)))

pub kept-drained : (s : Bool) (k : Form) (m : MapState) → IsKeptMap s k m → IsKeptMap s k (drained_map m)
kept-drained s k m h = (h.0, (kept-cleared s k m.table.none.fold h.1.0, tt))

-- ======== a new stream ========
kept-new : (s : Bool) (settings : AnySettings) (limit : ℕ) → IsKeptMap s (form_of (aggregate_of settings)) (new_map limit (empty_of (aggregate_of settings)))
kept-new s (kinds.Sum is_monotonic) limit = ((refl, (tt, tt)), ((refl, (tt, tt)), tt))
kept-new s (kinds.PrecomputedSum is_monotonic) limit = ((refl, (tt, tt)), ((refl, (tt, tt)), tt))
kept-new s kinds.LastValue limit = ((refl, (tt, tt)), ((refl, (tt, tt)), tt))
kept-new s (kinds.Histogram h) limit = ((refl, (tt, tt)), ((refl, (tt, tt)), tt))

pub stream-new : (s : Bool) (settings : AnySettings) (m : MapState) (empty : Fold) (limit : ℕ) → empty ≡ empty_of (aggregate_of settings) → m ≡ new_map limit empty → IsKeptMap s (form_of (aggregate_of settings)) m
stream-new s settings m empty limit is new = subst (λ (x : MapState). IsKeptMap s (form_of (aggregate_of settings)) x) (sym (new ∙ ap (new_map limit) is)) (kept-new s settings limit)

pub reported-new : (settings : AnySettings) (m : MapState) (empty : Fold) (links : List Link) (limit : ℕ) (o : Option MapState) → o ≡ cond (drains_of settings) (Some (new_map limit (Last 0))) None
    → empty ≡ empty_of (aggregate_of settings) → m ≡ new_map limit empty → links ≡ [] → IsReportedOf (form_of (aggregate_of settings)) m links false o
reported-new settings m empty links limit o is empty_is new none = subst (IsReportedOf (form_of (aggregate_of settings)) m links false) (sym is) (by settings (new ∙ ap (new_map limit) empty_is))
  where
    by : (x : AnySettings) → m ≡ new_map limit (empty_of (aggregate_of x)) → IsReportedOf (form_of (aggregate_of x)) m links false (cond (drains_of x) (Some (new_map limit (Last 0))) None)
    by (kinds.Sum is_monotonic) new = tt
    by (kinds.PrecomputedSum is_monotonic) new = (sym (ap drained_map new), none, refl, refl)
    by kinds.LastValue new = tt
    by (kinds.Histogram s) new = tt

-- ======== what was reported ========
pub reported-none : (k : Form) (m : MapState) (links : List Link) (room : Bool) (o : Option (Box MapContents Global)) → is_some o ≡ false → IsReportedOf k m links room (state_of o)
reported-none k m links room None e = tt
reported-none k m links room (Some r) e = absurd (true≢false e)

-- with another map that drained is the same
pub reported-same : (k : Form) (old new : MapState) (links : List Link) (room : Bool) (o : Option MapState) → drained_map new ≡ drained_map old → IsReportedOf k old links room o → IsReportedOf k new links room o
reported-same k old new links room None e is = tt
reported-same k old new links room (Some r) e is = (is.0 ∙ sym e, is.1, is.2, is.3)

-- ======== drafts ========
pub kept-like : {s t : Bool} {k l : Form} (x : Table) → t ≡ s → l ≡ k → AreKept t l x → AreKept s k x
kept-like {s} {t} {k} {l} x number form kept = subst (λ b. AreKept b k x) number (subst (λ (f : Form). AreKept t f x) form kept)

-- ======== points ========
pub showable-points : (s : Bool) (k : Form) (every : Bool) (t : Table) → AreKept s k t → AreShowable s k (points every t)
showable-points s k every t h =
    all-map (KeepsOf s k) (λ (p : Point). IsKept s k p.1) point_of_entry (λ e kept. kept) _
    (all-append (KeepsOf s k) (filter (λ (e : Entry). e.updated) (t.none ∷ [])) (filter (λ (e : Entry). every || e.updated) t.entries)
    (all-filter (KeepsOf s k) (λ (e : Entry). e.updated) (t.none ∷ []) (h.0, tt))
    (all-filter (KeepsOf s k) (λ (e : Entry). every || e.updated) t.entries h.1))
