-- Bucket boundaries in a script.
use Rattle.std.specs.Prelude.{◌≡◌, ◌==◌, ℕ, ℤ, List, [], length}
use Rattle.std.specs.Bool.{MatchBool}
use Rattle.std.specs.List.{AllZip, slice_split}
use Rattle.std.specs.Str.Parse.{signed_digits_value}
use Rattle.metrics_script.specs.Attributes.{is_comma}
use Rattle.metrics_script.specs.Numbers.{IsSigned}

-- a number with an optional minus
abbrev pub IsBoundaryWord : List ℕ → ℤ → Type 0
IsBoundaryWord word number = IsSigned word × (number ≡ signed_digits_value 10 word)

-- the empty word for none, or else numbers with commas between them
abbrev pub ReadsBoundaries : List ℕ → List ℤ → Type 0
ReadsBoundaries word boundaries = MatchBool (length word == 0) (boundaries ≡ []) (AllZip IsBoundaryWord (slice_split is_comma word) boundaries)
