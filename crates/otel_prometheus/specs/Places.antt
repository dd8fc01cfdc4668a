-- The place of a label among others.
use Rattle.std.specs.Prelude.{◌≡◌, ℕ, ◌<◌, ◌≤◌, List, length, insert, slice_set, slice_index_or}
use Rattle.otel_prometheus.specs.Samples.{Pair, joined}
use Rattle.otel_prometheus.specs.Labels.{with_label}
use Rattle.otel_prometheus.specs.declared.places.Place.{Place}
use Rattle.otel_prometheus.specs.declared.places.Place.TheVariants.{At, Before}

-- the label at place i has this name
pub record IsAt (ls : List Pair) (name : List ℕ) (i : ℕ) : Type 0 where
  pub within : i < length ls
  pub more : (v : List ℕ) (d : Pair) → with_label ls (name, v) ≡ slice_set ls i (joined (slice_index_or ls i d) v)

-- no label has this name, and one that has belongs at place i
pub record IsBefore (ls : List Pair) (name : List ℕ) (i : ℕ) : Type 0 where
  pub within : i ≤ length ls
  pub more : (v : List ℕ) → with_label ls (name, v) ≡ insert ls i (name, v)

abbrev pub IsPlace : List Pair → List ℕ → Place → Type 0
IsPlace ls name (At i) = IsAt ls name i
IsPlace ls name (Before i) = IsBefore ls name i
