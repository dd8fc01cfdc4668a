-- The lines of a collection may be spelled, whatever its texts are.
use Rattle.std.proofs.Common.{◌≡◌, ℕ, ◌+◌, ◌%◌, ◌^◌, ℤ, Bool, true, false, cond, ◌&&◌, List, [], ◌∷◌, ◌++◌, flat_map, map, fold, Option, Some, None, refl, sym, codes}
use Rattle.std.proofs.lemmas.Bool.{true≢false}
use Rattle.std.specs.Cmp.Lexicographic.{slice_cmp}
use Rattle.std.specs.List.{list_all}
use Rattle.std.specs.Option.{option_map}
use Rattle.std.specs.Ordering.{nat_cmp}
use Rattle.std.specs.declared.cmp.Ordering.{Ordering}
use Rattle.std.specs.declared.cmp.Ordering.TheVariants.{Less, Equal, Greater}
use Rattle.otel_common.specs.Equality.{bytes_eq}
use Rattle.otel_common.specs.declared.attributes.KeyValue.{KeyValue}
use Rattle.otel_common.specs.declared.scopes.InstrumentationScope.{InstrumentationScope}
use Rattle.otel_data.specs.declared.aggregated.AggregatedMetrics.{AggregatedMetrics}
use Rattle.otel_data.specs.declared.aggregated.AggregatedMetrics.TheVariants.{U64, I64}
use Rattle.otel_data.specs.declared.aggregated.MetricData.{MetricData}
use Rattle.otel_data.specs.declared.aggregated.MetricData.TheVariants.{Gauge, Sum, Histogram}
use Rattle.otel_data.specs.declared.collections.Metric.{Metric}
use Rattle.otel_data.specs.declared.collections.ResourceMetrics.{ResourceMetrics}
use Rattle.otel_data.specs.declared.collections.ScopeMetrics.{ScopeMetrics}
use Rattle.otel_data.specs.declared.points.HistogramDataPoint.{HistogramDataPoint}
use Rattle.otel_prometheus.specs.Lines.{Line, help, kind, sample, finish, AreLines, IsText}
use Rattle.otel_prometheus.specs.Names.{name_of}
use Rattle.otel_prometheus.specs.Numbers.{unsigned, signed}
use Rattle.otel_prometheus.specs.Values.{value_text}
use Rattle.otel_prometheus.specs.Samples.{Pair, Sample, IsSample, IsNumber, AreLabels, IsLabelName, IsMetricName, AreAll, is_letter, is_label_byte, is_metric_byte, labels_text}
use Rattle.otel_prometheus.specs.declared.text.formats.Format.{Format}
use Rattle.otel_prometheus.specs.declared.text.formats.Format.TheVariants.{Prometheus, OpenMetrics}
use Rattle.otel_prometheus.proofs.NameLemmas.{label_name, metric_name}
use Rattle.otel_prometheus.proofs.NumberLemmas.{unsigned_fits, signed_fits}
use Rattle.otel_prometheus.specs.Collections.{belongs, metric_series, scope_series, family_series, kind_word, kind_end, help_lines, front_lines, family_samples, family_lines, target_front, target_lines, end_lines, lines_of}
use Rattle.otel_prometheus.specs.Families.{families, is_refused, with_heading, with_metric, with_scope}
use Rattle.otel_prometheus.specs.Headings.{with_unit, plain_name, heading_with, base_name, heading_of, is_last_value, content_kind}
use Rattle.otel_prometheus.specs.Labels.{placed, with_label, own_name, label_of, with_attributes, text_label, optional_label, scope_label_name, is_taken, with_scope_attribute, parts_of_scope, scope_labels, has_text, without_empty, all_labels, point_labels, resource_labels}
use Rattle.otel_prometheus.specs.Points.{are_natural, value_end, value_name, bound_text, bucket, meets_next, sample_unless, buckets, sum_samples, count_sample, count_samples, histogram_samples, number_series, gauge_series, sum_series, histogram_series, data_series, content_series}
use Rattle.otel_prometheus.specs.Series.{Series, is_seen, kept}
use Rattle.otel_prometheus.specs.Units.{unit_suffix}
use Rattle.otel_prometheus.specs.declared.families.Family.{Family}
use Rattle.otel_prometheus.specs.declared.headings.Heading.{Heading}
use Rattle.otel_prometheus.specs.declared.headings.Kind.{Kind}
use Rattle.otel_prometheus.specs.declared.headings.Kind.TheVariants as kinds
use Rattle.otel_prometheus.specs.declared.settings.Settings.{Settings}

-- ======== bytes ========
both : (a b : Bool) → (a && b) ≡ true → (a ≡ true) × (b ≡ true)
both true b e = (refl, e)
both false b e = absurd (true≢false (sym e))

all_of : (test : ℕ → Bool) (bs : List ℕ) → list_all test bs ≡ true → AreAll test bs
all_of test [] e = tt
all_of test (b ∷ bs) e = let h = both (test b) (list_all test bs) e in (h.0, all_of test bs h.1)

all_append : (test : ℕ → Bool) (a b : List ℕ) → AreAll test a → AreAll test b → AreAll test (a ++ b)
all_append test [] b h k = k
all_append test (c ∷ a) b h k = (h.0, all_append test a b h.1 k)

longer_name : (n s : List ℕ) → IsMetricName n → AreAll is_metric_byte s → IsMetricName (n ++ s)
longer_name [] s h k = absurd h
longer_name (b ∷ bs) s h k = (h.0, all_append is_metric_byte bs s h.1 k)

-- ======== names ========
family_name : (k : Kind) (m : Metric) → IsMetricName (base_name k m)
family_name k m = metric_name (with_unit (plain_name k m.name) (unit_suffix (is_last_value m.content) m.unit))

-- ======== labels ========
valid_placed : (o : Ordering) (p l : Pair) (ls rest : List Pair) → IsLabelName p.0 → IsLabelName l.0 → AreLabels ls → AreLabels rest → AreLabels (placed o p l ls rest)
valid_placed Less p l ls rest h k m n = (h, (k, m))
valid_placed Equal p l ls rest h k m n = (k, m)
valid_placed Greater p l ls rest h k m n = (k, n)

valid_label : (ls : List Pair) (p : Pair) → AreLabels ls → IsLabelName p.0 → AreLabels (with_label ls p)
valid_label [] p h k = (k, tt)
valid_label (l ∷ ls) p h k = valid_placed (slice_cmp nat_cmp p.0 l.0) p l ls (with_label ls p) k h.0 h.1 (valid_label ls p h.1 k)

valid_choice : (t : Bool) (a b : List ℕ) → IsLabelName a → IsLabelName b → IsLabelName (cond t a b)
valid_choice true a b h k = h
valid_choice false a b h k = k

abbrev is_name : List ℕ → Bool
is_name [] = false
is_name (b ∷ bs) = is_letter b && list_all is_label_byte bs

literal : (n : List ℕ) → is_name n ≡ true → IsLabelName n
literal [] e = absurd (true≢false (sym e))
literal (b ∷ bs) e = let h = both (is_letter b) (list_all is_label_byte bs) e in (h.0, all_of is_label_byte bs h.1)

valid_own : (t : Bool) (n : List ℕ) → IsLabelName n → IsLabelName (own_name t n)
valid_own true n h = valid_choice (bytes_eq n (codes "le")) (codes "exported_le") n (literal (codes "exported_le") refl) h
valid_own false n h = h

valid_attributes : (t : Bool) (ls : List Pair) (ps : List KeyValue) → AreLabels ls → AreLabels (with_attributes t ls ps)
valid_attributes t ls [] h = h
valid_attributes t ls (p ∷ ps) h = valid_attributes t (with_label ls (label_of t p)) ps (valid_label ls (label_of t p) h (valid_own t (name_of is_label_byte p.key) (label_name p.key)))

labels_append : (a b : List Pair) → AreLabels a → AreLabels b → AreLabels (a ++ b)
labels_append [] b h k = k
labels_append (l ∷ a) b h k = (h.0, labels_append a b h.1 k)

labels_choice : (t : Bool) (a b : List Pair) → AreLabels a → AreLabels b → AreLabels (cond t a b)
labels_choice true a b h k = h
labels_choice false a b h k = k

valid_text : (n v : List ℕ) → IsLabelName n → AreLabels (text_label n v)
valid_text n [] h = tt
valid_text n (b ∷ bs) h = (h, tt)

valid_optional : (n : List ℕ) (o : Option (List ℕ)) → IsLabelName n → AreLabels (optional_label n o)
valid_optional n None h = tt
valid_optional n (Some v) h = valid_text n v h

valid_parts : (scope : InstrumentationScope) → AreLabels (parts_of_scope scope)
valid_parts scope =
    let url = optional_label (codes "otel_scope_schema_url") scope.schema_url in
    let version = optional_label (codes "otel_scope_version") scope.version in
    labels_append (text_label (codes "otel_scope_name") scope.name) (url ++ version) (valid_text (codes "otel_scope_name") scope.name (literal (codes "otel_scope_name") refl))
    (labels_append url version (valid_optional (codes "otel_scope_schema_url") scope.schema_url (literal (codes "otel_scope_schema_url") refl)) (valid_optional (codes "otel_scope_version") scope.version (literal (codes "otel_scope_version") refl)))

valid_scope_attributes : (ls : List Pair) (ps : List KeyValue) → AreLabels ls → AreLabels (fold with_scope_attribute ls ps)
valid_scope_attributes ls [] h = h
valid_scope_attributes ls (p ∷ ps) h =
    let l : Pair = (scope_label_name p.key, value_text p.value) in
    valid_scope_attributes (with_scope_attribute ls p) ps
    (labels_choice (is_taken (scope_label_name p.key)) ls (with_label ls l) h (valid_label ls l h (label_name (codes "otel_scope_" ++ p.key))))

valid_scope : (s : Settings) (scope : InstrumentationScope) → AreLabels (scope_labels s scope)
valid_scope s scope =
    labels_choice s.has_scope_labels (fold with_scope_attribute (parts_of_scope scope) scope.attributes) []
    (valid_scope_attributes (parts_of_scope scope) scope.attributes (valid_parts scope))
    tt

valid_full : (ls : List Pair) → AreLabels ls → AreLabels (without_empty ls)
valid_full [] h = tt
valid_full (l ∷ ls) h = labels_choice (has_text l) (l ∷ without_empty ls) (without_empty ls) (h.0, valid_full ls h.1) (valid_full ls h.1)

valid_point : (s : Settings) (t : Bool) (scope : InstrumentationScope) (ps : List KeyValue) → AreLabels (point_labels s t scope ps)
valid_point s t scope ps = valid_full (all_labels s t scope ps) (valid_attributes t (scope_labels s scope) ps (valid_scope s scope))

valid_resource : (ps : List KeyValue) → AreLabels (resource_labels ps)
valid_resource ps = valid_full (with_attributes false [] ps) (valid_attributes false [] ps tt)

-- ======== samples ========
abbrev AreSamples : List Sample → Type 0
AreSamples [] = Unit {0}
AreSamples (x ∷ xs) = IsSample x × AreSamples xs

abbrev AreSeries : List Series → Type 0
AreSeries [] = Unit {0}
AreSeries (x ∷ xs) = AreSamples x.samples × AreSeries xs

samples_append : (a b : List Sample) → AreSamples a → AreSamples b → AreSamples (a ++ b)
samples_append [] b h k = k
samples_append (x ∷ a) b h k = (h.0, samples_append a b h.1 k)

series_append : (a b : List Series) → AreSeries a → AreSeries b → AreSeries (a ++ b)
series_append [] b h k = k
series_append (x ∷ a) b h k = (h.0, series_append a b h.1 k)

series_map : {A : Type 0} (f : A → Series) → ((x : A) → AreSamples (f x).samples) → (xs : List A) → AreSeries (map f xs)
series_map f h [] = tt
series_map f h (x ∷ xs) = (h x, series_map f h xs)

series_flat : {A : Type 0} (f : A → List Series) → ((x : A) → AreSeries (f x)) → (xs : List A) → AreSeries (flat_map f xs)
series_flat f h [] = tt
series_flat f h (x ∷ xs) = series_append (f x) (flat_map f xs) (h x) (series_flat f h xs)

series_choice : (t : Bool) (a : List Series) → AreSeries a → AreSeries (cond t a [])
series_choice true a h = h
series_choice false a h = tt

kept_one : (t : Bool) (x : Series) (a b : List Series) → AreSamples x.samples → AreSeries a → AreSeries b → AreSeries (cond t a (x ∷ b))
kept_one true x a b h k m = k
kept_one false x a b h k m = (h, m)

valid_kept : (seen : List (List ℕ)) (xs : List Series) → AreSeries xs → AreSeries (kept seen xs)
valid_kept seen [] h = tt
valid_kept seen (x ∷ xs) h =
    kept_one (is_seen (labels_text x.labels) seen) x (kept seen xs) (kept (seen ++ labels_text x.labels ∷ []) xs) h.0
    (valid_kept seen xs h.1) (valid_kept (seen ++ labels_text x.labels ∷ []) xs h.1)

samples_of : (xs : List Series) → AreSeries xs → AreSamples (flat_map (λ x. x.samples) xs)
samples_of [] h = tt
samples_of (x ∷ xs) h = samples_append x.samples (flat_map (λ x. x.samples) xs) h.0 (samples_of xs h.1)

lines_of-samples : (xs : List Sample) → AreSamples xs → AreLines (map sample xs)
lines_of-samples [] h = tt
lines_of-samples (x ∷ xs) h = (h.0, lines_of-samples xs h.1)

valid_bucket : (n : List ℕ) (ls : List Pair) (bound : List ℕ) (count : ℕ) → IsMetricName n → AreLabels ls → IsSample (bucket n ls bound count)
valid_bucket n ls bound count h k = record {
  name = longer_name n (codes "_bucket") h (all_of is_metric_byte (codes "_bucket") refl);
  labels = labels_append ls ((codes "le", bound) ∷ []) k (literal (codes "le") refl, tt);
  value = unsigned_fits count;
}

valid_unless : (t : Bool) (x : Sample) → IsSample x → AreSamples (sample_unless t x)
valid_unless true x h = tt
valid_unless false x h = (h, tt)

valid_buckets : (f : Format) (n : List ℕ) (ls : List Pair) (before : ℕ) (bounds : List ℤ) (counts : List ℕ) → IsMetricName n → AreLabels ls → AreSamples (buckets f n ls before bounds counts)
valid_buckets f n ls before [] counts h k = tt
valid_buckets f n ls before (b ∷ bounds) [] h k = tt
valid_buckets f n ls before (b ∷ bounds) (c ∷ counts) h k =
    samples_append (sample_unless (meets_next b bounds) (bucket n ls (bound_text f b) ((before + c) % 2 ^ 64))) (buckets f n ls ((before + c) % 2 ^ 64) bounds counts)
    (valid_unless (meets_next b bounds) (bucket n ls (bound_text f b) ((before + c) % 2 ^ 64)) (valid_bucket n ls (bound_text f b) ((before + c) % 2 ^ 64) h k))
    (valid_buckets f n ls ((before + c) % 2 ^ 64) bounds counts h k)

valid_sum : (t : Bool) (n : List ℕ) (ls : List Pair) (z : ℤ) → IsMetricName n → AreLabels ls → IsNumber z → AreSamples (sum_samples t n ls z)
valid_sum true n ls z h k m = (record { name = longer_name n (codes "_sum") h (all_of is_metric_byte (codes "_sum") refl); labels = k; value = m }, tt)
valid_sum false n ls z h k m = tt

valid_count : (n : List ℕ) (ls : List Pair) (count : ℕ) → IsMetricName n → AreLabels ls → IsSample (count_sample n ls count)
valid_count n ls count h k = record { name = longer_name n (codes "_count") h (all_of is_metric_byte (codes "_count") refl); labels = k; value = unsigned_fits count }

valid_counts : (f : Format) (t : Bool) (n : List ℕ) (ls : List Pair) (count : ℕ) → IsMetricName n → AreLabels ls → AreSamples (count_samples f t n ls count)
valid_counts Prometheus t n ls count h k = (valid_count n ls count h k, tt)
valid_counts OpenMetrics true n ls count h k = (valid_count n ls count h k, tt)
valid_counts OpenMetrics false n ls count h k = tt

end_in : (k : Kind) → AreAll is_metric_byte (value_end k)
end_in kinds.Counter = all_of is_metric_byte (codes "_total") refl
end_in kinds.Gauge = tt
end_in kinds.Histogram = tt

module _ {T : Type 0} (integer : T → ℤ) (fits : (x : T) → IsNumber (integer x)) where
  valid_histogram : (f : Format) (t : Bool) (n : List ℕ) (ls : List Pair) (p : HistogramDataPoint T) → IsMetricName n → AreLabels ls → AreSamples (histogram_samples integer f t n ls p)
  valid_histogram f t n ls p h k =
      let has = t && are_natural p.bounds in
      samples_append (buckets f n ls 0 p.bounds p.bucket_counts) (bucket n ls (codes "+Inf") p.count ∷ (sum_samples has n ls (integer p.sum) ++ count_samples f has n ls p.count)) (valid_buckets f n ls 0 p.bounds p.bucket_counts h k)
      (valid_bucket n ls (codes "+Inf") p.count h k, samples_append (sum_samples has n ls (integer p.sum)) (count_samples f has n ls p.count) (valid_sum has n ls (integer p.sum) h k (fits p.sum)) (valid_counts f has n ls p.count h k))

  valid_number : (s : Settings) (scope : InstrumentationScope) (g : Heading) (ps : List KeyValue) (v : T) → IsMetricName g.name → AreSamples (number_series integer s scope (value_name g) ps v).samples
  valid_number s scope g ps v h = (record { name = longer_name g.name (value_end g.kind) h (end_in g.kind); labels = valid_point s false scope ps; value = fits v }, tt)

  valid_data : (s : Settings) (t : Bool) (scope : InstrumentationScope) (g : Heading) (d : MetricData T) → IsMetricName g.name → AreSeries (data_series integer s t scope g d)
  valid_data s t scope g (Gauge d) h = series_map (gauge_series integer s scope g) (λ p. valid_number s scope g p.attributes p.value h) d.data_points
  valid_data s t scope g (Sum d) h = series_map (sum_series integer s scope g) (λ p. valid_number s scope g p.attributes p.value h) d.data_points
  valid_data s t scope g (Histogram d) h =
      series_map (histogram_series integer s (t && d.has_sum) scope g) (λ p. valid_histogram s.format (t && d.has_sum) g.name (point_labels s true scope p.attributes) p h (valid_point s true scope p.attributes)) d.data_points

valid_content : (s : Settings) (scope : InstrumentationScope) (g : Heading) (d : AggregatedMetrics) → IsMetricName g.name → AreSeries (content_series s scope g d)
valid_content s scope g (U64 d) h = valid_data unsigned unsigned_fits s true scope g d h
valid_content s scope g (I64 d) h = valid_data signed signed_fits s false scope g d h

valid_family : (s : Settings) (c : ResourceMetrics) (g : Heading) → IsMetricName g.name → AreSamples (family_samples s c g)
valid_family s c g h =
    samples_of (kept [] (family_series s c g)) (valid_kept [] (family_series s c g)
    (series_flat (scope_series s g) (λ sm. series_flat (metric_series s g sm.scope) (λ m. series_choice (belongs g (heading_of m)) (content_series s sm.scope g m.content) (valid_content s sm.scope g m.content h)) sm.metrics) c.scope_metrics))

-- ======== lines ========
lines_append : (a b : List Line) → AreLines a → AreLines b → AreLines (a ++ b)
lines_append [] b h k = k
lines_append (x ∷ a) b h k = (h.0, lines_append a b h.1 k)

valid_help : (n t : List ℕ) → IsMetricName n → AreLines (help_lines n t)
valid_help n [] h = tt
valid_help n (b ∷ bs) h = (h, tt)

word_of_letters : (k : Kind) → AreAll is_letter (kind_word k)
word_of_letters kinds.Counter = all_of is_letter (codes "counter") refl
word_of_letters kinds.Gauge = all_of is_letter (codes "gauge") refl
word_of_letters kinds.Histogram = all_of is_letter (codes "histogram") refl

kind_end_in : (f : Format) (k : Kind) → AreAll is_metric_byte (kind_end f k)
kind_end_in Prometheus kinds.Counter = all_of is_metric_byte (codes "_total") refl
kind_end_in Prometheus kinds.Gauge = tt
kind_end_in Prometheus kinds.Histogram = tt
kind_end_in OpenMetrics k = tt

valid_front : (f : Format) (x : Family) → IsMetricName x.heading.name → AreLines (front_lines f x)
valid_front f x h =
    let n = longer_name x.heading.name (kind_end f x.heading.kind) h (kind_end_in f x.heading.kind) in
    lines_append (help_lines (x.heading.name ++ kind_end f x.heading.kind) x.help) (kind (x.heading.name ++ kind_end f x.heading.kind) (kind_word x.heading.kind) ∷ []) (valid_help (x.heading.name ++ kind_end f x.heading.kind) x.help n) ((n, word_of_letters x.heading.kind), tt)

valid_lines : (s : Settings) (c : ResourceMetrics) (x : Family) → IsMetricName x.heading.name → AreLines (family_lines s c x)
valid_lines s c x h = lines_append (front_lines s.format x) (map sample (family_samples s c x.heading)) (valid_front s.format x h) (lines_of-samples (family_samples s c x.heading) (valid_family s c x.heading h))

valid_target_front : (f : Format) → AreLines (target_front f)
valid_target_front Prometheus =
    let name : IsMetricName (codes "target_info") = (refl, all_of is_metric_byte (codes "arget_info") refl) in
    (name, ((name, all_of is_letter (codes "gauge") refl), tt))
valid_target_front OpenMetrics =
    let name : IsMetricName (codes "target") = (refl, all_of is_metric_byte (codes "arget") refl) in
    (name, ((name, all_of is_letter (codes "info") refl), tt))

valid_target : (f : Format) (ls : List Pair) → AreLabels ls → AreLines (target_lines f ls)
valid_target f [] h = tt
valid_target f (l ∷ ls) h =
    lines_append (target_front f) (sample (record { name = codes "target_info"; labels = l ∷ ls; value = unsigned 1 }) ∷ []) (valid_target_front f)
    (record { name = (refl, all_of is_metric_byte (codes "arget_info") refl); labels = h; value = unsigned_fits 1 }, tt)

text_append : (a b : List Line) → AreLines a → IsText b → IsText (a ++ b)
text_append [] b h k = k
text_append (help n t ∷ a) b h k = (h.0, text_append a b h.1 k)
text_append (kind n w ∷ a) b h k = (h.0, text_append a b h.1 k)
text_append (sample s ∷ a) b h k = (h.0, text_append a b h.1 k)
text_append (finish ∷ a) b h k = absurd h.0

valid_end : (f : Format) → IsText (end_lines f)
valid_end Prometheus = tt
valid_end OpenMetrics = refl

-- ======== families ========
abbrev AreFamilies : List Family → Type 0
AreFamilies [] = Unit {0}
AreFamilies (x ∷ xs) = IsMetricName x.heading.name × AreFamilies xs

families_append : (a b : List Family) → AreFamilies a → AreFamilies b → AreFamilies (a ++ b)
families_append [] b h k = k
families_append (x ∷ a) b h k = (h.0, families_append a b h.1 k)

families_choice : (t : Bool) (a b : List Family) → AreFamilies a → AreFamilies b → AreFamilies (cond t a b)
families_choice true a b h k = h
families_choice false a b h k = k

one_family : (fs : List Family) (m : Metric) (o : Option Kind) → AreFamilies fs → AreFamilies (with_heading fs m (option_map (heading_with m) o))
one_family fs m None h = h
one_family fs m (Some k) h =
    families_choice (is_refused fs (heading_with m k)) fs (fs ++ record { heading = heading_with m k; help = m.description } ∷ []) h
    (families_append fs (record { heading = heading_with m k; help = m.description } ∷ []) h (family_name k m, tt))

more_families : (fs : List Family) (ms : List Metric) → AreFamilies fs → AreFamilies (fold with_metric fs ms)
more_families fs [] h = h
more_families fs (m ∷ ms) h = more_families (with_metric fs m) ms (one_family fs m (content_kind m.content) h)

all_families : (fs : List Family) (ss : List ScopeMetrics) → AreFamilies fs → AreFamilies (fold with_scope fs ss)
all_families fs [] h = h
all_families fs (s ∷ ss) h = all_families (with_scope fs s) ss (more_families fs s.metrics h)

lines_flat : (s : Settings) (c : ResourceMetrics) (xs : List Family) → AreFamilies xs → AreLines (flat_map (family_lines s c) xs)
lines_flat s c [] h = tt
lines_flat s c (x ∷ xs) h = lines_append (family_lines s c x) (flat_map (family_lines s c) xs) (valid_lines s c x h.0) (lines_flat s c xs h.1)

no_families : AreFamilies []
no_families = tt

pub valid : (s : Settings) (c : ResourceMetrics) → IsText (lines_of s c)
valid s c =
    text_append (target_lines s.format (resource_labels c.resource.attributes)) (flat_map (family_lines s c) (families c) ++ end_lines s.format) (valid_target s.format (resource_labels c.resource.attributes) (valid_resource c.resource.attributes))
    (text_append (flat_map (family_lines s c) (families c)) (end_lines s.format) (lines_flat s c (families c) (all_families [] c.scope_metrics no_families)) (valid_end s.format))
