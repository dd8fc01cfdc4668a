-- Metrics that are put down at the places of their meters.
use Rattle.std.proofs.Common.{◌≡◌, ℕ, zero, suc, ◌+◌, ◌<◌, ◌≤◌, Bool, true, false, cond, ◌&&◌, List, [], ◌∷◌, ◌++◌, map, filter, length, get_or, set, drop, replicate, Option, Some, None, refl, sym, ◌∙◌, ap, subst, arith, append_assoc, IfSome}
use Rattle.std.specs.List.{IsDistinct, AllByRecursion, list_any, position, slice_get}
use Rattle.std.proofs.Math.Bool.{and-false}
use Rattle.std.proofs.lemmas.Bool.{cond_both, or_parts}
use Rattle.std.proofs.lemmas.List.{append-nil, at_drop_more, drop_all, nil_from_length}
use Rattle.std.proofs.lemmas.List.Elements.{All-from_recursion, filter-append}
use Rattle.std.proofs.lemmas.List.Folds.{list_any_none}
use Rattle.otel_common.specs.Scopes.{scope_eq, scope_eq-Decides}
use Rattle.otel_common.specs.declared.scopes.InstrumentationScope.{InstrumentationScope}
use Rattle.otel_data.specs.declared.collections.Metric.{Metric}
use Rattle.otel_data.specs.declared.collections.ScopeMetrics.{ScopeMetrics}
use Rattle.otel_model.specs.Collections.{ScopedMetric, in_scope, has_points, has_metrics}
use Rattle.otel_model.proofs.Amounts.{each_at}
use Rattle.otel_model.proofs.Single.{some_is}
use Rattle.opentelemetry_sdk.specs.pipeline.Collections.{scoped_metric, all_scoped, if_shown, append_each, shown_one, shown_in, scope_shown, scopes_shown}
use Rattle.opentelemetry_sdk.specs.pipeline.Pipelines.{is_streamed}
use Rattle.opentelemetry_sdk.specs.pipeline.Streams.{StreamContents, shown_metric, if_points}
use Rattle.opentelemetry_sdk.proofs.pipeline.Builds.{position-at}
use Rattle.opentelemetry_sdk.proofs.pipeline.Identities.{scope-flip}

-- ======== one stream less is left ========
shown-cons : (scope : InstrumentationScope) (now : ℕ) (k : StreamContents) (ks : List StreamContents) → shown_in scope now (k ∷ ks) ≡ shown_one scope now k ++ shown_in scope now ks
shown-cons scope now k ks =
    cond_both (is_streamed k) (k ∷ filter is_streamed ks) (filter is_streamed ks) (λ (hs : List StreamContents). (in_scope (map (scoped_metric now) hs) scope).metrics ≡ shown_one scope now k ++ shown_in scope now ks)
    (λ t. first (scope_eq k.stream.demand.identity.scope scope && has_points (shown_metric now k)) ∙ λ i. if_shown (sym t i && (scope_eq k.stream.demand.identity.scope scope && has_points (shown_metric now k))) (shown_metric now k) ++ shown_in scope now ks)
    (λ f i. if_shown (sym f i && (scope_eq k.stream.demand.identity.scope scope && has_points (shown_metric now k))) (shown_metric now k) ++ shown_in scope now ks)
  where
    first : (b : Bool) → map (λ (m : ScopedMetric). m.1) (cond b (scoped_metric now k ∷ (filter (λ (m : ScopedMetric). scope_eq m.0 scope && has_points m.1) (all_scoped now ks))) (filter (λ (m : ScopedMetric). scope_eq m.0 scope && has_points m.1) (all_scoped now ks))) ≡ if_shown b (shown_metric now k) ++ shown_in scope now ks
    first true = refl
    first false = refl

-- ======== lists that are joined ========
-- before the first
pub joined-none : {A B : Type 0} (f : B → List A) (bs : List B) (n : ℕ) → n ≡ length bs → append_each (replicate n []) (map f bs) ≡ map f bs
joined-none f [] zero e = refl
joined-none f (b ∷ bs) (suc n) e = λ i. f b ∷ joined-none f bs n (omega arith) i
joined-none f bs n e = absurd (omega arith)

-- where nothing is added
pub joined-nothing : {A B : Type 0} (f : B → List A) (xs : List (List A)) (bs : List B) → ((b : B) → f b ≡ []) → append_each xs (map f bs) ≡ xs
joined-nothing f (x ∷ xs) (b ∷ bs) e = λ i. (ap (λ y. x ++ y) (e b) ∙ append-nil x) i ∷ joined-nothing f xs bs e i
joined-nothing f xs bs e = refl

-- and once more
pub joined-twice : {A B : Type 0} (f g h : B → List A) (xs : List (List A)) (bs : List B) → ((b : B) → h b ≡ f b ++ g b) → append_each (append_each xs (map f bs)) (map g bs) ≡ append_each xs (map h bs)
joined-twice f g h (x ∷ xs) (b ∷ bs) e = λ i. (append_assoc x (f b) (g b) ∙ ap (λ y. x ++ y) (sym (e b))) i ∷ joined-twice f g h xs bs e i
joined-twice f g h xs bs e = refl

-- ======== a meter that was found ========
pub scope-found : (s : InstrumentationScope) (ms : List InstrumentationScope) (o : Option ℕ) → o ≡ position (scope_eq s) ms → IfSome o (λ n. slice_get ms n ≡ Some s)
scope-found s ms None e = tt
scope-found s ms (Some n) e = let at = position-at (scope_eq s) ms n s (sym e) in at.1 ∙ ap (λ m. Some m) (sym ((scope_eq-Decides s (get_or ms n s)).0 at.2))

-- ======== one metric more ========
module _ (s : InstrumentationScope) (c : Bool) (x : Metric) where
  -- what the meter of a scope gets
  abbrev pub gets : InstrumentationScope → List Metric
  gets m = if_shown (scope_eq s m && c) x

  gets_none : (m : InstrumentationScope) → scope_eq s m ≡ false → gets m ≡ []
  gets_none m e = ap (λ b. if_shown (b && c) x) e

  -- no meter is of the scope
  pub absent : (xs : List (List Metric)) (ms : List InstrumentationScope) → list_any (scope_eq s) ms ≡ false → append_each xs (map gets ms) ≡ xs
  absent (y ∷ xs) (m ∷ ms) none =
      let other = or_parts (scope_eq s m) (list_any (scope_eq s) ms) none in
      λ i. (ap (λ z. y ++ z) (gets_none m other.0) ∙ append-nil y) i ∷ absent xs ms other.1 i
  absent xs ms none = refl

  -- the meter of a place is of the scope, and no other is
  pub placed-at : {V : Type 0} (view : V → List Metric) (vs : List V) (ms : List InstrumentationScope) (n : ℕ) (old new : V) → length vs ≡ length ms → IsDistinct scope_eq ms → slice_get ms n ≡ Some s
      → old ≡ get_or vs n old → view new ≡ view old ++ if_shown c x → map view (set vs n new) ≡ append_each (map view vs) (map gets ms)
  unfolding IsDistinct
  placed-at view [] [] n old new long apart at is e = absurd (cc)
  placed-at view (v ∷ vs) (m ∷ ms) zero old new long apart at is e =
      let same : m ≡ s = some_is m s at in
      let none : list_any (scope_eq s) ms ≡ false = list_any_none (scope_eq s) ms (All-from_recursion _ ms (subst (λ (t : InstrumentationScope). AllByRecursion (λ y. scope_eq t y ≡ false) ms) same apart.0)) in
      λ i. (e ∙ ap (λ z. view z ++ if_shown c x) is ∙ ap (λ b. view v ++ if_shown (b && c) x) (sym ((scope_eq-Decides s m).1 (sym same)))) i ∷ sym (absent (map view vs) ms none) i
  placed-at view (v ∷ vs) (m ∷ ms) (suc n) old new long apart at is e =
      let other : scope_eq s m ≡ false = scope-flip s m ∙ each_at (λ y. scope_eq m y ≡ false) ms n s apart.0 at in
      λ i. sym (ap (λ z. view v ++ z) (gets_none m other) ∙ append-nil (view v)) i ∷ placed-at view vs ms n old new (omega arith) apart.1 at is e i
  placed-at view vs ms n old new long apart at is e = absurd (omega arith)

-- ======== one stream more ========
-- a stream that drops gives nothing
pub pushed-dropped : (now : ℕ) (k : StreamContents) (xs : List (List Metric)) (ms : List InstrumentationScope) → is_streamed k ≡ false → append_each xs (map (λ m. shown_one m now k) ms) ≡ xs
pushed-dropped now k xs ms e = joined-nothing (λ m. shown_one m now k) xs ms (λ m. ap (λ b. if_shown (b && (scope_eq k.stream.demand.identity.scope m && has_points (shown_metric now k))) (shown_metric now k)) e)

-- nor does one without points
pub pushed-pointless : (now : ℕ) (k : StreamContents) (xs : List (List Metric)) (ms : List InstrumentationScope) → has_points (shown_metric now k) ≡ false → append_each xs (map (λ m. shown_one m now k) ms) ≡ xs
pushed-pointless now k xs ms e =
    joined-nothing (λ m. shown_one m now k) xs ms
    (λ m. ap (λ b. if_shown (is_streamed k && (scope_eq k.stream.demand.identity.scope m && b)) (shown_metric now k)) e ∙ ap (λ b. if_shown b (shown_metric now k)) (ap (λ b. is_streamed k && b) (and-false (scope_eq k.stream.demand.identity.scope m)) ∙ and-false (is_streamed k)))

pub pointless : (m : Metric) (o : Option Metric) → o ≡ if_points m → o ≡ None → has_points m ≡ false
pointless m o e is = by (has_points m) (sym is ∙ e)
  where
    by : (b : Bool) → None ≡ cond b (Some m) None → b ≡ false
    by true q = absurd (cc)
    by false q = refl

streamed_gets : (now : ℕ) (k : StreamContents) → is_streamed k ≡ true → (λ (m : InstrumentationScope). shown_one m now k) ≡ gets k.stream.demand.identity.scope (has_points (shown_metric now k)) (shown_metric now k)
streamed_gets now k e = λ i m. if_shown (e i && (scope_eq k.stream.demand.identity.scope m && has_points (shown_metric now k))) (shown_metric now k)

-- nor does one whose scope has no meter
pub pushed-nowhere : (now : ℕ) (k : StreamContents) (xs : List (List Metric)) (ms : List InstrumentationScope) → is_streamed k ≡ true → list_any (scope_eq k.stream.demand.identity.scope) ms ≡ false
    → append_each xs (map (λ m. shown_one m now k) ms) ≡ xs
pushed-nowhere now k xs ms e at = ap (λ (f : InstrumentationScope → List Metric). append_each xs (map f ms)) (streamed_gets now k e) ∙ absent k.stream.demand.identity.scope _ _ xs ms at

-- the others give their metric to the meter of their scope
pub pushed-at : {V : Type 0} (view : V → List Metric) (now : ℕ) (k : StreamContents) (vs : List V) (ms : List InstrumentationScope) (n : ℕ) (old new : V) → is_streamed k ≡ true → has_points (shown_metric now k) ≡ true
    → length vs ≡ length ms → IsDistinct scope_eq ms → slice_get ms n ≡ Some k.stream.demand.identity.scope → old ≡ get_or vs n old → view new ≡ view old ++ shown_metric now k ∷ []
    → map view (set vs n new) ≡ append_each (map view vs) (map (λ m. shown_one m now k) ms)
pushed-at view now k vs ms n old new e points long apart at is more =
    placed-at k.stream.demand.identity.scope _ _ view vs ms n old new long apart at is (more ∙ ap (λ b. view old ++ if_shown b (shown_metric now k)) (sym points))
    ∙ ap (λ (f : InstrumentationScope → List Metric). append_each (map view vs) (map f ms)) (sym (streamed_gets now k e))

-- one stream's metric more
pub places-more : (now : ℕ) (done done' all : List (List Metric)) (ks : List StreamContents) (i : ℕ) (k : StreamContents) (ms : List InstrumentationScope) → i < length ks → k ≡ get_or ks i k
    → done' ≡ append_each done (map (λ m. shown_one m now k) ms) → append_each done (map (λ m. shown_in m now (drop i ks)) ms) ≡ all → append_each done' (map (λ m. shown_in m now (drop (i + 1) ks)) ms) ≡ all
places-more now done done' all ks i k ms h at e so_far =
    rw e (joined-twice (λ m. shown_one m now k) (λ m. shown_in m now (drop (i + 1) ks)) (λ m. shown_in m now (drop i ks)) done ms
    (λ m. at_drop_more (shown_in m now) ks i k h ∙ shown-cons m now (get_or ks i k) (drop (i + 1) ks) ∙ ap (λ x. shown_one m now x ++ shown_in m now (drop (i + 1) ks)) (sym at))
    ∙ so_far)

-- no stream is left
pub places-all : (now : ℕ) (done all : List (List Metric)) (ks : List StreamContents) (i : ℕ) (ms : List InstrumentationScope) → length ks ≤ i → append_each done (map (λ m. shown_in m now (drop i ks)) ms) ≡ all → done ≡ all
places-all now done all ks i ms h so_far =
    sym (joined-nothing (λ m. shown_in m now (drop i ks)) done ms (λ m. ap (shown_in m now) (drop_all i ks h))) ∙ so_far

-- ======== one scope more ========
-- the lists are those of the meters, one after another
pub left-more : {V : Type 0} (view : V → List Metric) (f : InstrumentationScope → List Metric) (vs vs' : List V) (ms ms' : List InstrumentationScope) (v : V) (m : InstrumentationScope)
    → vs ≡ v ∷ vs' → ms ≡ m ∷ ms' → map view vs ≡ map f ms → (view v ≡ f m) × (map view vs' ≡ map f ms')
left-more view f vs vs' ms ms' v m e g same =
    let both : view v ∷ map view vs' ≡ f m ∷ map f ms' = ap (map view) (sym e) ∙ (same ∙ ap (map f) g) in (cc, cc)

pub scopes-more : (now : ℕ) (ks : List StreamContents) (done done' all : List ScopeMetrics) (s : InstrumentationScope) (metrics : List Metric) (ms ms' : List InstrumentationScope) → ms ≡ s ∷ ms' → metrics ≡ shown_in s now ks
    → done' ≡ done ++ filter has_metrics (record { scope = s; metrics = metrics } ∷ []) → done ++ scopes_shown now ks ms ≡ all → done' ++ scopes_shown now ks ms' ≡ all
scopes-more now ks done done' all s metrics ms ms' at shown e so_far =
    rw (e, append_assoc)
    (ap (λ (l : List Metric). done ++ (filter has_metrics (record { scope = s; metrics = l } ∷ []) ++ scopes_shown now ks ms')) shown
    ∙ (ap (λ (l : List ScopeMetrics). done ++ l) (sym (filter-append has_metrics (scope_shown now ks s ∷ []) (map (scope_shown now ks) ms')))
    ∙ (ap (λ (l : List InstrumentationScope). done ++ scopes_shown now ks l) (sym at) ∙ so_far)))

pub scopes-all : (now : ℕ) (ks : List StreamContents) (done all : List ScopeMetrics) (ms : List InstrumentationScope) → length ms ≡ 0 → done ++ scopes_shown now ks ms ≡ all → done ≡ all
scopes-all now ks done all ms e so_far =
    sym (append-nil done) ∙ (ap (λ (l : List InstrumentationScope). done ++ scopes_shown now ks l) (sym (nil_from_length ms e)) ∙ so_far)
