-- The front of the samples of a histogram's buckets: all up to the bound.
use Rattle.std.specs.Prelude.{◌≡◌, ℕ, List, [], ◌∷◌, ◌++◌, codes}
use Rattle.std.specs.Fmt.{signed_decimal}
use Rattle.otel_prometheus.specs.Numbers.{unsigned}
use Rattle.otel_prometheus.specs.Samples.{Pair, escaped, labels_text}

-- with any bound, its quote and the closing brace it is the name of the buckets and the labels
abbrev pub IsFront : List ℕ → List ℕ → List Pair → Type 0
IsFront front name labels = (bound : List ℕ) → front ++ (escaped bound ++ 34 ∷ 125 ∷ []) ≡ (name ++ codes "_bucket") ++ labels_text (labels ++ (codes "le", bound) ∷ [])

-- what follows the bound
abbrev pub bucket_end : ℕ → List ℕ
bucket_end count = 34 ∷ 125 ∷ 32 ∷ (signed_decimal (unsigned count) ++ 10 ∷ [])
