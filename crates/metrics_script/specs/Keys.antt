-- Keys of attributes in a script.
use Rattle.std.specs.Prelude.{◌≡◌, ◌==◌, ℕ, List, [], length}
use Rattle.std.specs.Bool.{MatchBool}
use Rattle.std.specs.List.{AllZip, slice_split}
use Rattle.std.specs.Str.{IsUtf8}
use Rattle.percent_encoding.specs.Percent.{percent_decode}
use Rattle.metrics_script.specs.Attributes.{is_comma}

-- a text with escapes that has to be UTF-8; it may be empty
abbrev pub IsKeyWord : List ℕ → List ℕ → Type 0
IsKeyWord word key = (key ≡ percent_decode word) × IsUtf8 key

-- the empty word for none, or else keys with commas between them
abbrev pub ReadsKeys : List ℕ → List (List ℕ) → Type 0
ReadsKeys word keys = MatchBool (length word == 0) (keys ≡ []) (AllZip IsKeyWord (slice_split is_comma word) keys)
