-- Every point is shown or counted as left out.
use Rattle.std.proofs.Common.{◌≡◌, ℕ, ℤ, suc, ◌+◌, ◌⊎◌, inl, inr, ⊎_elim, zero-add, ◌&&◌, ◌||◌, Bool, true, false, cond, List, [], ◌∷◌, ◌++◌, length, flat_map, map, Option, Some, None, refl, sym, ap, ◌∙◌, arith, length-append}
use Rattle.std.proofs.lemmas.Bool.{true≢false}
use Rattle.std.specs.Cmp.Lexicographic.{bytes_decides}
use Rattle.std.specs.List.{list_any}
use Rattle.otel_common.specs.Equality.{bytes_eq}
use Rattle.otel_common.specs.declared.scopes.InstrumentationScope.{InstrumentationScope}
use Rattle.otel_data.specs.declared.aggregated.AggregatedMetrics.{AggregatedMetrics}
use Rattle.otel_data.specs.declared.aggregated.AggregatedMetrics.TheVariants.{U64, I64}
use Rattle.otel_data.specs.declared.aggregated.MetricData.{MetricData}
use Rattle.otel_data.specs.declared.aggregated.MetricData.TheVariants.{Gauge, Sum, Histogram}
use Rattle.otel_data.specs.declared.collections.Metric.{Metric}
use Rattle.otel_data.specs.declared.collections.ResourceMetrics.{ResourceMetrics}
use Rattle.otel_data.specs.declared.collections.ScopeMetrics.{ScopeMetrics}
use Rattle.otel_prometheus.specs.Numbers.{unsigned, signed}
use Rattle.otel_prometheus.specs.Samples.{labels_text}
use Rattle.otel_prometheus.specs.Collections.{belongs, metric_series, scope_series, family_series, doubled_points}
use Rattle.otel_prometheus.specs.Families.{is_refused, families, data_length, content_length, delta_if, delta_in, delta_points, conflicting_if, conflicting_in, conflicting_points}
use Rattle.otel_prometheus.specs.Headings.{heading_of, same_heading, kind_eq, clashes, may_be_sample, is_reserved}
use Rattle.otel_prometheus.specs.Laws.{StandApart, all_points}
use Rattle.otel_prometheus.specs.Points.{gauge_series, sum_series, histogram_series, data_series, content_series}
use Rattle.otel_prometheus.specs.Series.{Series, is_seen, kept, doubled}
use Rattle.otel_prometheus.specs.Totals.{total}
use Rattle.otel_prometheus.specs.declared.families.Family.{Family}
use Rattle.otel_prometheus.specs.declared.headings.Heading.{Heading}
use Rattle.otel_prometheus.specs.declared.settings.Settings.{Settings}
use Rattle.otel_prometheus.proofs.LawLemmas.{families_apart}

-- how many series are shown, each of one point
abbrev pub shown_points : Settings → ResourceMetrics → ℕ
shown_points s c = total (λ f. length (kept [] (family_series s c f.heading))) (families c)

-- ======== totals ========
two_more : (a b c d e : ℕ) → c + d ≡ e → (a + c) + (b + d) ≡ (a + b) + e
two_more a b c d e h = omega (arith, h)

module _ {A : Type 0} where
  total_same : (f g : A → ℕ) → ((x : A) → f x ≡ g x) → (xs : List A) → total f xs ≡ total g xs
  total_same f g e [] = refl
  total_same f g e (x ∷ xs) = ap (λ n. n + total f xs) (e x) ∙ ap (λ n. g x + n) (total_same f g e xs)

  total_none : (xs : List A) → total (λ x. 0) xs ≡ 0
  total_none [] = refl
  total_none (x ∷ xs) = ap (λ n. 0 + n) (total_none xs)

  total_plus : (f g : A → ℕ) (xs : List A) → total f xs + total g xs ≡ total (λ x. f x + g x) xs
  total_plus f g [] = refl
  total_plus f g (x ∷ xs) = two_more (f x) (g x) (total f xs) (total g xs) (total (λ x. f x + g x) xs) (total_plus f g xs)

  length_flat : {B : Type 0} (f : A → List B) (xs : List A) → length (flat_map f xs) ≡ total (λ x. length (f x)) xs
  length_flat f [] = refl
  length_flat f (x ∷ xs) = length-append (f x) (flat_map f xs) ∙ ap (λ n. length (f x) + n) (length_flat f xs)

  length_mapped : {B : Type 0} (f : A → B) (xs : List A) → length (map f xs) ≡ length xs
  length_mapped f [] = refl
  length_mapped f (x ∷ xs) = ap suc (length_mapped f xs)

total_swap : {A B : Type 0} (f : A → B → ℕ) (xs : List A) (ys : List B) → total (λ x. total (λ y. f x y) ys) xs ≡ total (λ y. total (λ x. f x y) xs) ys
total_swap f [] ys = sym (total_none ys)
total_swap f (x ∷ xs) ys =
    ap (λ n. total (λ y. f x y) ys + n) (total_swap f xs ys)
    ∙ total_plus (λ y. f x y) (λ y. total (λ x. f x y) xs) ys

-- ======== series ========
one_series : (t : Bool) (x : Series) (a b : List Series) (d e n : ℕ) → length a + d ≡ n → length b + e ≡ n → length (cond t a (x ∷ b)) + cond t (1 + d) e ≡ suc n
one_series true x a b d e n h k = omega (arith, h)
one_series false x a b d e n h k = omega (arith, k)

kept_length : (seen : List (List ℕ)) (xs : List Series) → length (kept seen xs) + doubled seen xs ≡ length xs
kept_length seen [] = refl
kept_length seen (x ∷ xs) =
    one_series (is_seen (labels_text x.labels) seen) x (kept seen xs) (kept (seen ++ labels_text x.labels ∷ []) xs)
    (doubled seen xs) (doubled (seen ++ labels_text x.labels ∷ []) xs) (length xs)
    (kept_length seen xs) (kept_length (seen ++ labels_text x.labels ∷ []) xs)

data_has : {T : Type 0} (integer : T → ℤ) (s : Settings) (t : Bool) (scope : InstrumentationScope) (h : Heading) (d : MetricData T) → length (data_series integer s t scope h d) ≡ data_length d
data_has integer s t scope h (Gauge d) = length_mapped (gauge_series integer s scope h) d.data_points
data_has integer s t scope h (Sum d) = length_mapped (sum_series integer s scope h) d.data_points
data_has integer s t scope h (Histogram d) = length_mapped (histogram_series integer s (t && d.has_sum) scope h) d.data_points

content_has : (s : Settings) (scope : InstrumentationScope) (h : Heading) (d : AggregatedMetrics) → length (content_series s scope h d) ≡ content_length d
content_has s scope h (U64 d) = data_has unsigned s true scope h d
content_has s scope h (I64 d) = data_has signed s false scope h d

-- ======== one family at most has a metric ========
abbrev has : Heading → List Family → Bool
has h fs = list_any (λ f. same_heading f.heading h) fs

both : (a b : Bool) → (a && b) ≡ true → (a ≡ true) × (b ≡ true)
both true b e = (refl, e)
both false b e = absurd (true≢false (sym e))

or_right : (a b : Bool) → b ≡ true → (a || b) ≡ true
or_right true b e = refl
or_right false b e = e

or_left : (a b : Bool) → a ≡ true → (a || b) ≡ true
or_left true b e = refl
or_left false b e = absurd (true≢false (sym e))

same_name : (a h : Heading) → same_heading a h ≡ true → a.name ≡ h.name
same_name a h e = (bytes_decides a.name h.name).0 (both (kind_eq a.kind h.kind) (bytes_eq a.name h.name) e).1

they_clash : (a b h : Heading) → same_heading a h ≡ true → same_heading b h ≡ true → clashes a b ≡ true
they_clash a b h e f =
    or_left (bytes_eq a.name b.name || may_be_sample a b) (may_be_sample b a)
    (or_left (bytes_eq a.name b.name) (may_be_sample a b) ((bytes_decides a.name b.name).1 (same_name a h e ∙ sym (same_name b h f))))

choose : (a b : Bool) → (a || b) ≡ true → (a ≡ true) ⊎ (b ≡ true)
choose true b e = inl refl
choose false b e = inr e

some_clash : (before : List Family) (b h : Heading) → has h before ≡ true → same_heading b h ≡ true → list_any (λ f. clashes f.heading b) before ≡ true
some_clash [] b h e f = absurd (true≢false (sym e))
some_clash (a ∷ rest) b h e f =
    ⊎_elim
    (λ p. or_left (clashes a.heading b) (list_any (λ g. clashes g.heading b) rest) (they_clash a.heading b h p f))
    (λ q. or_right (clashes a.heading b) (list_any (λ g. clashes g.heading b) rest) (some_clash rest b h q f))
    (choose (same_heading a.heading h) (has h rest) e)

is_false : (b : Bool) → (b ≡ true → b ≡ false) → b ≡ false
is_false true f = f refl
is_false false f = refl

-- a family that stands beside one of this heading has another
other_heading : (before : List Family) (b h : Heading) → has h before ≡ true → is_refused before b ≡ false → same_heading b h ≡ false
other_heading before b h e r =
    is_false (same_heading b h) (λ p. absurd (true≢false (sym (or_right (is_reserved b.name) (list_any (λ f. clashes f.heading b) before) (some_clash before b h e p)) ∙ r)))

more_have : (h : Heading) (before : List Family) (f : Family) → has h before ≡ true → has h (before ++ f ∷ []) ≡ true
more_have h [] f e = absurd (true≢false (sym e))
more_have h (x ∷ rest) f e =
    ⊎_elim
    (λ p. or_left (same_heading x.heading h) (has h (rest ++ f ∷ [])) p)
    (λ q. or_right (same_heading x.heading h) (has h (rest ++ f ∷ [])) (more_have h rest f q))
    (choose (same_heading x.heading h) (has h rest) e)

last_has : (h : Heading) (before : List Family) (f : Family) → same_heading f.heading h ≡ true → has h (before ++ f ∷ []) ≡ true
last_has h [] f p = or_left (same_heading f.heading h) false p
last_has h (x ∷ rest) f p = or_right (same_heading x.heading h) (has h (rest ++ f ∷ [])) (last_has h rest f p)

neither : (a b : Bool) → (a || b) ≡ false → (a ≡ false) × (b ≡ false)
neither true b e = absurd (true≢false e)
neither false b e = (refl, e)

both_false : (a b : Bool) → a ≡ false → b ≡ false → (a || b) ≡ false
both_false true b e f = absurd (true≢false e)
both_false false b e f = f

none_has : (h : Heading) (before : List Family) (f : Family) → has h before ≡ false → same_heading f.heading h ≡ false → has h (before ++ f ∷ []) ≡ false
none_has h [] f e p = both_false (same_heading f.heading h) false p refl
none_has h (x ∷ rest) f e p =
    let k = neither (same_heading x.heading h) (has h rest) e in
    both_false (same_heading x.heading h) (has h (rest ++ f ∷ [])) k.0 (none_has h rest f k.1 p)

no_more : (t : Bool) (n m : ℕ) → t ≡ false → m ≡ 0 → cond t n 0 + m ≡ 0
no_more true n m e f = absurd (true≢false e)
no_more false n m e f = omega (arith, f)

none_else : (n : ℕ) (before fs : List Family) (h : Heading) → StandApart before fs → has h before ≡ true → total (λ f. cond (same_heading f.heading h) n 0) fs ≡ 0
none_else n before [] h s e = refl
none_else n before (f ∷ fs) h s e =
    no_more (same_heading f.heading h) n (total (λ g. cond (same_heading g.heading h) n 0) fs)
    (other_heading before f.heading h e s.0) (none_else n (before ++ f ∷ []) fs h s.1 (more_have h before f e))

one_step : (t u : Bool) (n m : ℕ) → (t ≡ true → m ≡ 0) → (t ≡ false → m ≡ cond u n 0) → cond t n 0 + m ≡ cond (t || u) n 0
one_step true u n m e f = let k : m ≡ 0 = e refl in omega (arith, k)
one_step false u n m e f = let k : m ≡ cond u n 0 = f refl in zero-add m ∙ k

one_alone : (n : ℕ) (before fs : List Family) (h : Heading) → StandApart before fs → has h before ≡ false → total (λ f. cond (same_heading f.heading h) n 0) fs ≡ cond (has h fs) n 0
one_alone n before [] h s e = refl
one_alone n before (f ∷ fs) h s e =
    one_step (same_heading f.heading h) (has h fs) n (total (λ g. cond (same_heading g.heading h) n 0) fs)
    (λ p. none_else n (before ++ f ∷ []) fs h s.1 (last_has h before f p))
    (λ p. one_alone n (before ++ f ∷ []) fs h s.1 (none_has h before f e p))

-- ======== one metric ========
choice_length : (t : Bool) (xs : List Series) (n : ℕ) → length xs ≡ n → length (cond t xs []) ≡ cond t n 0
choice_length true xs n e = e
choice_length false xs n e = refl

all_left_out : (n a : ℕ) → a ≡ 0 → a + (n + 0) ≡ n
all_left_out n a e = omega (arith, e)

one_or_other : (t : Bool) (n a : ℕ) → a ≡ cond t n 0 → a + (0 + cond t 0 n) ≡ n
one_or_other true n a e = omega (arith, e)
one_or_other false n a e = omega (arith, e)

by_heading : (s : Settings) (fs : List Family) (scope : InstrumentationScope) (d : AggregatedMetrics) (o : Option Heading) → StandApart [] fs
    → total (λ f. length (cond (belongs f.heading o) (content_series s scope f.heading d) [])) fs + (delta_if (content_length d) o + conflicting_if fs (content_length d) o) ≡ content_length d
by_heading s fs scope d None a = all_left_out (content_length d) (total (λ f. 0) fs) (total_none fs)
by_heading s fs scope d (Some h) a =
    one_or_other (has h fs) (content_length d) (total (λ f. length (cond (same_heading f.heading h) (content_series s scope f.heading d) [])) fs)
    (total_same (λ f. length (cond (same_heading f.heading h) (content_series s scope f.heading d) [])) (λ f. cond (same_heading f.heading h) (content_length d) 0)
    (λ f. choice_length (same_heading f.heading h) (content_series s scope f.heading d) (content_length d) (content_has s scope f.heading d)) fs
    ∙ one_alone (content_length d) [] fs h a refl)

-- ======== all metrics ========
abbrev total_in : (ScopeMetrics → Metric → ℕ) → List ScopeMetrics → ℕ
total_in f ss = total (λ s. total (f s) s.metrics) ss

in_same : (f g : ScopeMetrics → Metric → ℕ) → ((s : ScopeMetrics) (m : Metric) → f s m ≡ g s m) → (ss : List ScopeMetrics) → total_in f ss ≡ total_in g ss
in_same f g e ss = total_same (λ s. total (f s) s.metrics) (λ s. total (g s) s.metrics) (λ s. total_same (f s) (g s) (e s) s.metrics) ss

in_plus : (f g : ScopeMetrics → Metric → ℕ) (ss : List ScopeMetrics) → total_in f ss + total_in g ss ≡ total_in (λ s m. f s m + g s m) ss
in_plus f g ss =
    total_plus (λ s. total (f s) s.metrics) (λ s. total (g s) s.metrics) ss
    ∙ total_same (λ s. total (f s) s.metrics + total (g s) s.metrics) (λ s. total (λ m. f s m + g s m) s.metrics) (λ s. total_plus (f s) (g s) s.metrics) ss

in_swap : (f : Family → ScopeMetrics → Metric → ℕ) (fs : List Family) (ss : List ScopeMetrics) → total (λ x. total_in (f x) ss) fs ≡ total_in (λ s m. total (λ x. f x s m) fs) ss
in_swap f fs ss =
    total_swap (λ x s. total (f x s) s.metrics) fs ss
    ∙ total_same (λ s. total (λ x. total (f x s) s.metrics) fs) (λ s. total (λ m. total (λ x. f x s m) fs) s.metrics) (λ s. total_swap (λ x m. f x s m) fs s.metrics) ss

abbrev shows : Settings → Family → ScopeMetrics → Metric → ℕ
shows s f sm m = length (metric_series s f.heading sm.scope m)

series_length : (s : Settings) (c : ResourceMetrics) (f : Family) → length (family_series s c f.heading) ≡ total_in (shows s f) c.scope_metrics
series_length s c f =
    length_flat (scope_series s f.heading) c.scope_metrics
    ∙ total_same (λ sm. length (scope_series s f.heading sm)) (λ sm. total (shows s f sm) sm.metrics) (λ sm. length_flat (metric_series s f.heading sm.scope) sm.metrics) c.scope_metrics

all_shown : (s : Settings) (c : ResourceMetrics) → shown_points s c + doubled_points s c ≡ total_in (λ sm m. total (λ f. shows s f sm m) (families c)) c.scope_metrics
all_shown s c =
    total_plus (λ f. length (kept [] (family_series s c f.heading))) (λ f. doubled [] (family_series s c f.heading)) (families c)
    ∙ (total_same (λ f. length (kept [] (family_series s c f.heading)) + doubled [] (family_series s c f.heading)) (λ f. total_in (shows s f) c.scope_metrics)
    (λ f. kept_length [] (family_series s c f.heading) ∙ series_length s c f) (families c)
    ∙ in_swap (shows s) (families c) c.scope_metrics)

pub nothing_lost : (s : Settings) (c : ResourceMetrics) → (shown_points s c + doubled_points s c) + (delta_points c + conflicting_points c) ≡ all_points c
nothing_lost s c =
    ap (λ n. n + (delta_points c + conflicting_points c)) (all_shown s c)
    ∙ (ap (λ n. total_in (λ sm m. total (λ f. shows s f sm m) (families c)) c.scope_metrics + n) (in_plus (λ sm m. delta_in m) (λ sm m. conflicting_in (families c) m) c.scope_metrics)
    ∙ (in_plus (λ sm m. total (λ f. shows s f sm m) (families c)) (λ sm m. delta_in m + conflicting_in (families c) m) c.scope_metrics
    ∙ in_same (λ sm m. total (λ f. shows s f sm m) (families c) + (delta_in m + conflicting_in (families c) m)) (λ sm m. content_length m.content)
    (λ sm m. by_heading s (families c) sm.scope m.content (heading_of m) (families_apart c)) c.scope_metrics))
