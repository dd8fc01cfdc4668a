-- The lines of a script, and their words.
use Rattle.std.specs.Prelude.{◌==◌, ◌||◌, ◌-◌, ℕ, Bool, false, not, List, [], ◌∷◌, length, take, slice_index, filter, if◌then◌else◌}
use Rattle.std.specs.List.{onto_first, slice_split}

-- each byte 10 ends a line; a last line without it counts
abbrev pub lines_of : List ℕ → List (List ℕ)
lines_of [] = []
lines_of (byte ∷ bytes) = if byte == 10 then [] ∷ lines_of bytes else onto_first byte (lines_of bytes)

-- without the byte that ends it, if there is one
abbrev pub without_end : List ℕ → List ℕ
without_end line = if slice_index line (length line - 1) == 10 then take (length line - 1) line else line

-- a space
abbrev pub is_space : ℕ → Bool
is_space byte = byte == 32

-- what stands between runs of spaces
abbrev pub words_of : List ℕ → List (List ℕ)
words_of line = filter (λ word. not (length word == 0)) (slice_split is_space line)

-- whether the first byte is `#`
abbrev pub is_comment : List ℕ → Bool
is_comment [] = false
is_comment (byte ∷ bytes) = byte == 35

-- lines that begin with `#` or have no words are skipped
abbrev pub is_skipped : List ℕ → Bool
is_skipped line = is_comment line || (length (words_of line) == 0)

-- the lines that count
abbrev pub kept : List (List ℕ) → List (List ℕ)
kept lines = filter (λ line. not (is_skipped line)) lines
