-- What who reads a text takes for points. It looks at nothing but lines.
use Rattle.std.specs.Prelude.{ℕ, ℤ, List, [], ◌∷◌, ◌&&◌, Bool, cond, not, Option, Some, None, drop, filter, flat_map, length, map, codes}
use Rattle.std.specs.Cmp.Lexicographic.{pointwise}
use Rattle.otel_common.specs.Equality.{bytes_eq}
use Rattle.otel_prometheus.specs.Lines.{Line, help, kind, sample, finish}
use Rattle.otel_prometheus.specs.Samples.{Pair, Sample}

-- a histogram: how many values are at most each bound; their sum and how many they are, if the text has them
pub record Histogram : Type 0 where
  pub buckets : List (List ℕ × ℤ)
  pub sum : Option ℤ
  pub count : Option ℤ

-- what a point has
pub data Content : Type 0 where
  number : ℤ → Content
  histogram : Histogram → Content

pub record Point : Type 0 where
  pub name : List ℕ
  pub labels : List Pair
  pub content : Content

-- ======== types ========
-- a name, its type, and the samples up to the next type
pub record Typed : Type 0 where
  pub name : List ℕ
  pub word : List ℕ
  pub samples : List Sample

-- the samples in front of the first type, and what follows
abbrev pub split_types : List Line → List Sample × List Typed
split_types [] = ([], [])
split_types (help n t ∷ ls) = split_types ls
split_types (kind n w ∷ ls) = ([], record { name = n; word = w; samples = (split_types ls).0 } ∷ (split_types ls).1)
split_types (sample x ∷ ls) = (x ∷ (split_types ls).0, (split_types ls).1)
split_types (finish ∷ ls) = ([], [])

-- ======== histograms ========
abbrev pub is_bound : Pair → Bool
is_bound l = bytes_eq l.0 (codes "le")

-- the labels but for that of a bound, and the bound
abbrev pub without_bound : List Pair → List Pair
without_bound ls = filter (λ l. not (is_bound l)) ls

abbrev pub bound_of : List Pair → List ℕ
bound_of ls = flat_map (λ l. cond (is_bound l) l.1 []) ls

abbrev pub labels_eq : List Pair → List Pair → Bool
labels_eq = pointwise (λ a b. bytes_eq a.0 b.0 && bytes_eq a.1 b.1)

-- labels, and the histogram that has them
abbrev pub Reading : Type 0
Reading = List Pair × Histogram

abbrev pub no_histogram : Histogram
no_histogram = record { buckets = []; sum = None; count = None }

-- a change of the first histogram, which is a new one if other samples follow
abbrev pub at_labels : List Pair → (Histogram → Histogram) → List Reading → List Reading
at_labels ls change [] = (ls, change no_histogram) ∷ []
at_labels ls change (r ∷ rs) = cond (labels_eq ls r.0) ((ls, change r.1) ∷ rs) ((ls, change no_histogram) ∷ (r ∷ rs))

-- one more bucket in front, the sum, or the count
abbrev pub with_bucket : List ℕ → ℤ → Histogram → Histogram
with_bucket bound z h = record { buckets = (bound, z) ∷ h.buckets; sum = h.sum; count = h.count }

abbrev pub with_sum : ℤ → Histogram → Histogram
with_sum z h = record { buckets = h.buckets; sum = Some z; count = h.count }

abbrev pub with_count : ℤ → Histogram → Histogram
with_count z h = record { buckets = h.buckets; sum = h.sum; count = Some z }

-- what a sample says, by what its name has behind that of the histogram
abbrev pub with_part : List ℕ → Sample → List Reading → List Reading
with_part end x rs =
    cond (bytes_eq end (codes "_bucket")) (at_labels (without_bound x.labels) (with_bucket (bound_of x.labels) x.value) rs)
    (cond (bytes_eq end (codes "_sum")) (at_labels x.labels (with_sum x.value) rs)
    (cond (bytes_eq end (codes "_count")) (at_labels x.labels (with_count x.value) rs) rs))

-- samples next to each other with the same labels, but for that of a bound, are one histogram
abbrev pub histograms : List ℕ → List Sample → List Reading
histograms name [] = []
histograms name (x ∷ xs) = with_part (drop (length name) x.name) x (histograms name xs)

-- ======== points ========
abbrev pub number_read : Sample → Point
number_read x = record { name = x.name; labels = x.labels; content = number x.value }

abbrev pub histogram_read : List ℕ → Reading → Point
histogram_read name r = record { name = name; labels = r.0; content = histogram r.1 }

abbrev pub typed_points : Typed → List Point
typed_points t = cond (bytes_eq t.word (codes "histogram")) (map (histogram_read t.name) (histograms t.name t.samples)) (map number_read t.samples)

abbrev pub read_points : List Line → List Point
read_points ls = flat_map typed_points (split_types ls).1
