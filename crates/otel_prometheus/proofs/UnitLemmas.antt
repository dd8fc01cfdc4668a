-- Tables of words, one behind another.
use Rattle.std.proofs.Common.{◌≡◌, ℕ, Bool, true, false, cond, List, [], ◌∷◌, ◌++◌, Option, Some, refl, ap, ◌∙◌}
use Rattle.otel_common.specs.Equality.{bytes_eq}
use Rattle.otel_prometheus.specs.Units.{word_at, times, decimal_sizes, binary_sizes, measures, or_other, unit_word}

abbrev Table : Type 0
Table = List (List ℕ × List ℕ)

first_of : (t : Bool) (w : List ℕ) (rest other whole : Option (List ℕ)) → whole ≡ or_other rest other → cond t (Some w) whole ≡ or_other (cond t (Some w) rest) other
first_of true w rest other whole e = refl
first_of false w rest other whole e = e

word_at_append : (a b : Table) (unit : List ℕ) → word_at (a ++ b) unit ≡ or_other (word_at a unit) (word_at b unit)
word_at_append [] b unit = refl
word_at_append (e ∷ a) b unit = first_of (bytes_eq unit e.0) e.1 (word_at a unit) (word_at b unit) (word_at (a ++ b) unit) (word_at_append a b unit)

pub unit_words : (unit : List ℕ) → word_at (times ++ (decimal_sizes ++ (binary_sizes ++ measures))) unit ≡ unit_word unit
unit_words unit =
    word_at_append times (decimal_sizes ++ (binary_sizes ++ measures)) unit
    ∙ ap (or_other (word_at times unit)) (word_at_append decimal_sizes (binary_sizes ++ measures) unit
    ∙ ap (or_other (word_at decimal_sizes unit)) (word_at_append binary_sizes measures unit))
