-- What holds of the lines of every collection, in the subject's words.
use Rattle.std.specs.Prelude.{◌≡◌, ℕ, ◌≤◌, ◌&&◌, pos, List, [], ◌∷◌, ◌++◌, Bool, false}
use Rattle.std.specs.List.{list_any}
use Rattle.otel_common.specs.Equality.{bytes_eq}
use Rattle.otel_data.specs.declared.collections.ResourceMetrics.{ResourceMetrics}
use Rattle.otel_prometheus.specs.Consumers.{Point}
use Rattle.otel_prometheus.specs.Samples.{Sample, labels_text}
use Rattle.otel_prometheus.specs.Families.{is_refused, content_length}
use Rattle.otel_prometheus.specs.Series.{Series, is_seen}
use Rattle.otel_prometheus.specs.Totals.{total}
use Rattle.otel_prometheus.specs.declared.families.Family.{Family}

-- no series has labels that are seen, or those of a series before it
abbrev pub AreNew : List (List ℕ) → List Series → Type 0
AreNew seen [] = Unit {0}
AreNew seen (x ∷ xs) = (is_seen (labels_text x.labels) seen ≡ false) × AreNew (seen ++ labels_text x.labels ∷ []) xs

-- whether one of these has the name of a point, and its labels as they are spelled
abbrev pub is_among : Point → List Point → Bool
is_among p seen = list_any (λ q. bytes_eq p.name q.name && bytes_eq (labels_text p.labels) (labels_text q.labels)) seen

-- no point has the name and the labels of one that is seen, or of one before it
abbrev pub AreDistinct : List Point → List Point → Type 0
AreDistinct seen [] = Unit {0}
AreDistinct seen (p ∷ ps) = (is_among p seen ≡ false) × AreDistinct (seen ++ p ∷ []) ps

-- each family can stand beside those before it: its name is none of theirs, nor one with what a type adds to it
abbrev pub StandApart : List Family → List Family → Type 0
StandApart before [] = Unit {0}
StandApart before (f ∷ fs) = (is_refused before f.heading ≡ false) × StandApart (before ++ f ∷ []) fs

-- the values rise from a number to another
abbrev pub Rise : ℕ → List Sample → ℕ → Type 0
Rise low [] high = low ≤ high
Rise low (x ∷ xs) high = (n : ℕ) × (x.value ≡ pos n) × (low ≤ n) × Rise n xs high

-- how many points a collection has
abbrev pub all_points : ResourceMetrics → ℕ
all_points c = total (λ s. total (λ m. content_length m.content) s.metrics) c.scope_metrics
