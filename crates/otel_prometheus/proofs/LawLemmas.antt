-- What holds of the lines of every collection.
use Rattle.std.proofs.Common.{◌≡◌, ℕ, ◌+◌, ◌%◌, ◌^◌, ◌<◌, ◌≤◌, ℤ, pos, Bool, true, false, cond, List, [], ◌∷◌, ◌++◌, fold, Option, Some, None, refl, sym, ap, subst, append_assoc, append-nil, arith}
use Rattle.otel_data.specs.declared.collections.Metric.{Metric}
use Rattle.otel_data.specs.declared.collections.ResourceMetrics.{ResourceMetrics}
use Rattle.otel_data.specs.declared.collections.ScopeMetrics.{ScopeMetrics}
use Rattle.otel_prometheus.specs.Samples.{Sample, Pair, labels_text}
use Rattle.otel_prometheus.specs.declared.text.formats.Format.{Format}
use Rattle.otel_prometheus.specs.Families.{is_refused, with_heading, with_metric, with_scope, families}
use Rattle.otel_prometheus.specs.Headings.{heading_of}
use Rattle.otel_prometheus.specs.Laws.{AreNew, StandApart, Rise}
use Rattle.otel_prometheus.specs.Points.{bound_text, bucket, meets_next, sample_unless, buckets}
use Rattle.otel_prometheus.specs.Series.{Series, is_seen, kept}
use Rattle.otel_prometheus.specs.Totals.{total}
use Rattle.otel_prometheus.specs.declared.families.Family.{Family}
use Rattle.otel_prometheus.specs.declared.headings.Heading.{Heading}

-- ======== series ========
new_choice : (t : Bool) (seen : List (List ℕ)) (x : Series) (a b : List Series) → (t ≡ false → is_seen (labels_text x.labels) seen ≡ false)
    → AreNew seen a → AreNew (seen ++ labels_text x.labels ∷ []) b → AreNew seen (cond t a (x ∷ b))
new_choice true seen x a b e h k = h
new_choice false seen x a b e h k = (e refl, k)

pub kept_new : (seen : List (List ℕ)) (xs : List Series) → AreNew seen (kept seen xs)
kept_new seen [] = tt
kept_new seen (x ∷ xs) =
    new_choice (is_seen (labels_text x.labels) seen) seen x (kept seen xs) (kept (seen ++ labels_text x.labels ∷ []) xs) (λ e. e)
    (kept_new seen xs) (kept_new (seen ++ labels_text x.labels ∷ []) xs)

-- ======== families ========
one_more : (before fs : List Family) (g : Family) → StandApart before fs → is_refused (before ++ fs) g.heading ≡ false → StandApart before (fs ++ g ∷ [])
one_more before [] g h e = (subst (λ (l : List Family). is_refused l g.heading ≡ false) (append-nil before) e, tt)
one_more before (f ∷ fs) g h e =
    (h.0, one_more (before ++ f ∷ []) fs g h.1 (subst (λ (l : List Family). is_refused l g.heading ≡ false) (sym (append_assoc before (f ∷ []) fs)) e))

apart_choice : (t : Bool) (fs : List Family) (g : Family) → (t ≡ false → is_refused fs g.heading ≡ false) → StandApart [] fs → StandApart [] (cond t fs (fs ++ g ∷ []))
apart_choice true fs g e h = h
apart_choice false fs g e h = one_more [] fs g h (e refl)

pub one_heading : (fs : List Family) (m : Metric) (o : Option Heading) → StandApart [] fs → StandApart [] (with_heading fs m o)
one_heading fs m None h = h
one_heading fs m (Some g) h = apart_choice (is_refused fs g) fs (record { heading = g; help = m.description }) (λ e. e) h

more_metrics : (fs : List Family) (ms : List Metric) → StandApart [] fs → StandApart [] (fold with_metric fs ms)
more_metrics fs [] h = h
more_metrics fs (m ∷ ms) h = more_metrics (with_metric fs m) ms (one_heading fs m (heading_of m) h)

more_scopes : (fs : List Family) (ss : List ScopeMetrics) → StandApart [] fs → StandApart [] (fold with_scope fs ss)
more_scopes fs [] h = h
more_scopes fs (s ∷ ss) h = more_scopes (with_scope fs s) ss (more_metrics fs s.metrics h)

pub families_apart : (c : ResourceMetrics) → StandApart [] (families c)
families_apart c = more_scopes [] c.scope_metrics tt

-- ======== buckets ========
within : (before n rest high : ℕ) → before + (n + rest) ≤ high → high < 2 ^ 64 → (before + n) % 2 ^ 64 + rest ≤ high
within before n rest high h k = omega (arith, h, k)

higher : (before n rest high : ℕ) → before + (n + rest) ≤ high → high < 2 ^ 64 → before ≤ (before + n) % 2 ^ 64
higher before n rest high h k = omega (arith, h, k)

fits : (n : ℕ) → (n % 2 ^ 64) % 2 ^ 64 ≡ n % 2 ^ 64
fits n = omega arith

lower : (low higher : ℕ) (xs : List Sample) (high : ℕ) → low ≤ higher → Rise higher xs high → Rise low xs high
lower low higher [] high e r = omega (arith, e, r)
lower low higher (x ∷ xs) high e r = let at : low ≤ r.0 = omega (arith, e, r.2) in (r.0, r.1, at, r.3)

rise_unless : (t : Bool) (x : Sample) (low n high : ℕ) (xs : List Sample) → x.value ≡ pos n → low ≤ n → Rise n xs high → Rise low (sample_unless t x ++ xs) high
rise_unless true x low n high xs e h r = lower low n xs high h r
rise_unless false x low n high xs e h r = (n, e, h, r)

pub buckets_rise : (f : Format) (name : List ℕ) (labels : List Pair) (before : ℕ) (bounds : List ℤ) (counts : List ℕ) (high : ℕ)
    → before + total (λ n. n) counts ≤ high → high < 2 ^ 64 → Rise before (buckets f name labels before bounds counts) high
buckets_rise f name labels before [] counts high h k = omega (arith, h)
buckets_rise f name labels before (b ∷ bounds) [] high h k = omega (arith, h)
buckets_rise f name labels before (b ∷ bounds) (n ∷ counts) high h k =
    rise_unless (meets_next b bounds) (bucket name labels (bound_text f b) ((before + n) % 2 ^ 64)) before ((before + n) % 2 ^ 64) high (buckets f name labels ((before + n) % 2 ^ 64) bounds counts)
    (ap pos (fits (before + n)))
    (higher before n (total (λ n. n) counts) high h k)
    (buckets_rise f name labels ((before + n) % 2 ^ 64) bounds counts high (within before n (total (λ n. n) counts) high h k) k)

none_before : (n high : ℕ) → n ≤ high → 0 + n ≤ high
none_before n high h = omega (arith, h)

pub buckets_rise_up : (f : Format) (name : List ℕ) (labels : List Pair) (bounds : List ℤ) (counts : List ℕ) (count : ℕ) → total (λ n. n) counts ≤ count → count < 2 ^ 64 → Rise 0 (buckets f name labels 0 bounds counts) count
buckets_rise_up f name labels bounds counts count h k = buckets_rise f name labels 0 bounds counts count (none_before (total (λ n. n) counts) count h) k
