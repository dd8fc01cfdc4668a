-- The texts that words of a script stand for.
use Rattle.std.specs.Prelude.{ℕ, ◌==◌, List, [], codes, if◌then◌else◌}
use Rattle.std.specs.Cmp.Lexicographic.{pointwise}
use Rattle.percent_encoding.specs.Percent.{percent_decode}

-- the word `-` alone is the empty text; in any other word, `%` and two hexadecimal digits stand for one byte
abbrev pub text_of_word : List ℕ → List ℕ
text_of_word word = if pointwise ◌==◌ word (codes "-") then [] else percent_decode word
