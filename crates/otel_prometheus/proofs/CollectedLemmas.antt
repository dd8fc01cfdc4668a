-- The families of a collection, with their metrics, are those of its definition.
use Rattle.std.proofs.Common.{◌≡◌, ℕ, ◌+◌, ◌%◌, ◌^◌, ◌<◌, Bool, true, false, cond, List, [], ◌∷◌, ◌++◌, length, map, filter, fold, flat_map, take, get_or, refl, sym, ap, ◌∙◌, append_assoc, append-nil, arith}
use Rattle.std.proofs.lemmas.Grind.{flat_map-append}
use Rattle.std.proofs.lemmas.List.{take_more}
use Rattle.otel_data.specs.declared.collections.Metric.{Metric}
use Rattle.otel_data.specs.declared.collections.ResourceMetrics.{ResourceMetrics}
use Rattle.otel_data.specs.declared.collections.ScopeMetrics.{ScopeMetrics}
use Rattle.otel_prometheus.specs.Collections.{belongs, front_lines, metric_series, scope_series, family_series, family_lines, target_lines, end_lines, lines_of, doubled_points}
use Rattle.otel_prometheus.specs.Families.{with_metric, with_scope, families, conflicting_in, conflicting_points}
use Rattle.otel_prometheus.specs.Groups.{Member, Group, members_of, all_members, families_of, is_of, group_of, groups_of, conflicting_among, member_series, group_series, group_lines}
use Rattle.otel_prometheus.specs.Headings.{heading_of}
use Rattle.otel_prometheus.specs.Labels.{resource_labels}
use Rattle.otel_prometheus.specs.Lines.{Line, sample, text_of}
use Rattle.otel_prometheus.specs.Series.{kept, doubled}
use Rattle.otel_prometheus.specs.Totals.{total}
use Rattle.otel_prometheus.specs.declared.families.Family.{Family}
use Rattle.otel_prometheus.specs.declared.headings.Heading.{Heading}
use Rattle.otel_prometheus.specs.declared.settings.Settings.{Settings}
use Rattle.otel_prometheus.proofs.SeriesLemmas.{text_of_append}

-- ======== loops ========

pub scopes_more : {A B : Type 0} (f : A → List B) (xs : List A) (i : ℕ) (d : A) → i < length xs → flat_map f (take i xs) ++ f (get_or xs i d) ≡ flat_map f (take (i + 1) xs)
scopes_more f xs i d l =
    ap (λ ys. flat_map f (take i xs) ++ ys) (sym (append-nil (f (get_or xs i d))))
    ∙ (sym (flat_map-append f (take i xs) (get_or xs i d ∷ [])) ∙ ap (flat_map f) (sym (take_more xs i d l)))

-- ======== families ========
fold_append : {A B : Type 0} (f : B → A → B) (b : B) (xs ys : List A) → fold f b (xs ++ ys) ≡ fold f (fold f b xs) ys
fold_append f b [] ys = refl
fold_append f b (x ∷ xs) ys = fold_append f (f b x) xs ys

abbrev step : List Family → Member → List Family
step fs x = with_metric fs x.metric

one_scope : (fs : List Family) (s : ScopeMetrics) (ms : List Metric) → fold with_metric fs ms ≡ fold step fs (map (λ m. record { scope = s.scope; metric = m }) ms)
one_scope fs s [] = refl
one_scope fs s (m ∷ ms) = one_scope (with_metric fs m) s ms

scopes_are : (fs : List Family) (ss : List ScopeMetrics) → fold with_scope fs ss ≡ fold step fs (flat_map members_of ss)
scopes_are fs [] = refl
scopes_are fs (s ∷ ss) =
    ap (λ gs. fold with_scope gs ss) (one_scope fs s s.metrics)
    ∙ (scopes_are (fold step fs (members_of s)) ss
    ∙ sym (fold_append step fs (members_of s) (flat_map members_of ss)))

families_are : (c : ResourceMetrics) → families c ≡ families_of (all_members c)
families_are c = scopes_are [] c.scope_metrics

-- ======== series ========
chosen : {A : Type 0} (b : Bool) (x : Member) (xs : List Member) (f : Member → List A) (rest : List A) → flat_map f xs ≡ rest → flat_map f (cond b (x ∷ xs) xs) ≡ cond b (f x) [] ++ rest
chosen true x xs f rest e = ap (λ l. f x ++ l) e
chosen false x xs f rest e = e

of_metrics : (s : Settings) (h : Heading) (sm : ScopeMetrics) (ms : List Metric) → flat_map (member_series s h) (filter (is_of h) (map (λ m. record { scope = sm.scope; metric = m }) ms)) ≡ flat_map (metric_series s h sm.scope) ms
of_metrics s h sm [] = refl
of_metrics s h sm (m ∷ ms) =
    chosen (belongs h (heading_of m)) (record { scope = sm.scope; metric = m }) (filter (is_of h) (map (λ n. record { scope = sm.scope; metric = n }) ms)) (member_series s h) _
    (of_metrics s h sm ms)

filter_append : {A : Type 0} (t : A → Bool) (xs ys : List A) → filter t (xs ++ ys) ≡ filter t xs ++ filter t ys
filter_append t [] ys = refl
filter_append t (x ∷ xs) ys = first (t x) (filter t xs) (filter t ys) (filter t (xs ++ ys)) (filter_append t xs ys)
  where
    first : (b : Bool) (u v w : List _) → w ≡ u ++ v → cond b (x ∷ w) w ≡ cond b (x ∷ u) u ++ v
    first true u v w e = ap (λ l. x ∷ l) e
    first false u v w e = e

of_scopes : (s : Settings) (h : Heading) (ss : List ScopeMetrics) → flat_map (member_series s h) (filter (is_of h) (flat_map members_of ss)) ≡ flat_map (scope_series s h) ss
of_scopes s h [] = refl
of_scopes s h (sm ∷ ss) =
    ap (flat_map (member_series s h)) (filter_append (is_of h) (members_of sm) (flat_map members_of ss))
    ∙ (flat_map-append (member_series s h) (filter (is_of h) (members_of sm)) (filter (is_of h) (flat_map members_of ss))
    ∙ (λ i. of_metrics s h sm sm.metrics i ++ of_scopes s h ss i))

series_are : (s : Settings) (c : ResourceMetrics) (f : Family) → group_series s (group_of (all_members c) f) ≡ family_series s c f.heading
series_are s c f = of_scopes s f.heading c.scope_metrics

-- ======== lines ========
each_line : (s : Settings) (c : ResourceMetrics) (fs : List Family) → flat_map (group_lines s) (map (group_of (all_members c)) fs) ≡ flat_map (family_lines s c) fs
each_line s c [] = refl
each_line s c (f ∷ fs) = λ i. (front_lines s.format f ++ map sample (flat_map (λ x. x.samples) (kept [] (series_are s c f i)))) ++ each_line s c fs i

pub lines_are : (s : Settings) (c : ResourceMetrics) → flat_map (group_lines s) (groups_of (all_members c)) ≡ flat_map (family_lines s c) (families c)
lines_are s c = each_line s c (families_of (all_members c)) ∙ ap (flat_map (family_lines s c)) (sym (families_are c))

each_doubled : (s : Settings) (c : ResourceMetrics) (fs : List Family) → total (λ g. doubled [] (group_series s g)) (map (group_of (all_members c)) fs) ≡ total (λ f. doubled [] (family_series s c f.heading)) fs
each_doubled s c [] = refl
each_doubled s c (f ∷ fs) = λ i. doubled [] (series_are s c f i) + each_doubled s c fs i

pub doubled_are : (s : Settings) (c : ResourceMetrics) → total (λ g. doubled [] (group_series s g)) (groups_of (all_members c)) ≡ doubled_points s c
doubled_are s c = each_doubled s c (families_of (all_members c)) ∙ ap (total (λ f. doubled [] (family_series s c f.heading))) (sym (families_are c))

-- ======== conflicts ========
total_append : {A : Type 0} (f : A → ℕ) (xs ys : List A) → total f (xs ++ ys) ≡ total f xs + total f ys
total_append f [] ys = omega arith
total_append f (x ∷ xs) ys = let k : total f (xs ++ ys) ≡ total f xs + total f ys = total_append f xs ys in omega (arith, k)

of_each : (f : Metric → ℕ) (s : ScopeMetrics) (ms : List Metric) → total (λ (x : Member). f x.metric) (map (λ m. record { scope = s.scope; metric = m }) ms) ≡ total f ms
of_each f s [] = refl
of_each f s (m ∷ ms) = ap (λ n. f m + n) (of_each f s ms)

of_all : (f : Metric → ℕ) (ss : List ScopeMetrics) → total (λ (x : Member). f x.metric) (flat_map members_of ss) ≡ total (λ s. total f s.metrics) ss
of_all f [] = refl
of_all f (s ∷ ss) =
    total_append (λ (x : Member). f x.metric) (members_of s) (flat_map members_of ss)
    ∙ (λ i. of_each f s s.metrics i + of_all f ss i)

pub conflicts_are : (c : ResourceMetrics) → conflicting_among (all_members c) ≡ conflicting_points c
conflicts_are c =
    of_all (conflicting_in (families_of (all_members c))) c.scope_metrics
    ∙ ap (λ fs. total (λ s. total (conflicting_in fs) s.metrics) c.scope_metrics) (sym (families_are c))

-- ======== the whole ========
pub whole_text : (s : Settings) (c : ResourceMetrics) (groups : List Group) → groups ≡ groups_of (all_members c) → (out target shown end : List ℕ)
    → target ≡ out ++ text_of s.format (target_lines s.format (resource_labels c.resource.attributes))
    → shown ≡ target ++ text_of s.format (flat_map (group_lines s) groups)
    → end ≡ shown ++ text_of s.format (end_lines s.format) → end ≡ out ++ text_of s.format (lines_of s c)
whole_text s c groups e out target shown end h k l =
    let front : List Line = target_lines s.format (resource_labels c.resource.attributes) in
    let body : List Line = flat_map (family_lines s c) (families c) in
    l
    ∙ (ap (λ t. t ++ text_of s.format (end_lines s.format)) (k ∙ (λ i. h i ++ text_of s.format ((ap (flat_map (group_lines s)) e ∙ lines_are s c) i)))
    ∙ (append_assoc (out ++ text_of s.format front) (text_of s.format body) (text_of s.format (end_lines s.format))
    ∙ (append_assoc out (text_of s.format front) (text_of s.format body ++ text_of s.format (end_lines s.format))
    ∙ ap (λ t. out ++ t)
    (ap (λ t. text_of s.format front ++ t) (sym (text_of_append s.format body (end_lines s.format)))
    ∙ sym (text_of_append s.format front (body ++ end_lines s.format))))))

pub whole_doubled : (s : Settings) (c : ResourceMetrics) (groups : List Group) (count : ℕ) → groups ≡ groups_of (all_members c) → count ≡ total (λ g. doubled [] (group_series s g)) groups % 2 ^ 64 → count ≡ doubled_points s c % 2 ^ 64
whole_doubled s c groups count e k = k ∙ ap (λ n. n % 2 ^ 64) (ap (total (λ g. doubled [] (group_series s g))) e ∙ doubled_are s c)
