-- Series of samples, and which of them a text shows.
use Rattle.std.specs.Prelude.{ℕ, ◌+◌, List, [], ◌∷◌, ◌++◌, Bool, cond, flat_map}
use Rattle.std.specs.List.{list_any}
use Rattle.otel_common.specs.Equality.{bytes_eq}
use Rattle.otel_prometheus.specs.Samples.{Pair, Sample, labels_text, sample_text}

-- the samples of a point, all with its labels
pub record Series : Type 0 where
  pub labels : List Pair
  pub samples : List Sample

-- whether labels that are spelled like this were seen
abbrev pub is_seen : List ℕ → List (List ℕ) → Bool
is_seen key seen = list_any (bytes_eq key) seen

-- of series with the same labels the first stands
abbrev pub kept : List (List ℕ) → List Series → List Series
kept seen [] = []
kept seen (x ∷ xs) = cond (is_seen (labels_text x.labels) seen) (kept seen xs) (x ∷ kept (seen ++ labels_text x.labels ∷ []) xs)

-- how many series have the labels of an earlier one
abbrev pub doubled : List (List ℕ) → List Series → ℕ
doubled seen [] = 0
doubled seen (x ∷ xs) = cond (is_seen (labels_text x.labels) seen) (1 + doubled seen xs) (doubled (seen ++ labels_text x.labels ∷ []) xs)

-- ======== spelled ========
abbrev pub samples_text : List Sample → List ℕ
samples_text xs = flat_map sample_text xs

-- the labels and the samples of a series, as they are spelled
abbrev pub spelled_series : Series → Pair
spelled_series x = (labels_text x.labels, samples_text x.samples)

abbrev pub kept_text : List (List ℕ) → List Pair → List ℕ
kept_text seen [] = []
kept_text seen (x ∷ xs) = cond (is_seen x.0 seen) (kept_text seen xs) (x.1 ++ kept_text (seen ++ x.0 ∷ []) xs)

abbrev pub doubled_texts : List (List ℕ) → List Pair → ℕ
doubled_texts seen [] = 0
doubled_texts seen (x ∷ xs) = cond (is_seen x.0 seen) (1 + doubled_texts seen xs) (doubled_texts (seen ++ x.0 ∷ []) xs)
