-- Reading an exposition, byte by byte. A comment that is no help text and no type is passed over; behind the end nothing
-- follows.
use Rattle.std.specs.Prelude.{◌==◌, ◌||◌, ℕ, zero, suc, ◌+◌, ◌*◌, ◌-◌, ℤ, pos, negsuc, List, [], ◌∷◌, ◌++◌, Bool, true, false, cond, Option, Some, None, option_map, codes}
use Rattle.std.specs.Str.{all_ascii_digits}
use Rattle.otel_prometheus.specs.Lines.{Line, help, kind, sample, finish}
use Rattle.otel_prometheus.specs.Samples.{Pair, is_letter, is_label_byte, is_metric_letter, is_metric_byte}

-- ======== numbers ========
abbrev pub is_natural : List ℕ → Bool
is_natural [] = false
is_natural (b ∷ bs) = all_ascii_digits (b ∷ bs)

-- digits, with a hyphen before those of a number below 0
abbrev pub is_integer : List ℕ → Bool
is_integer [] = false
is_integer (b ∷ bs) = cond (b == 45) (is_natural bs) (is_natural (b ∷ bs))

-- the number of digits, after a number so far
abbrev pub number_after : ℕ → List ℕ → ℕ
number_after n [] = n
number_after n (c ∷ cs) = number_after (10 * n + (c - 48)) cs

abbrev pub negated : ℕ → ℤ
negated zero = pos 0
negated (suc n) = negsuc n

abbrev pub integer_of : List ℕ → ℤ
integer_of [] = pos 0
integer_of (b ∷ bs) = cond (b == 45) (negated (number_after 0 bs)) (pos (number_after 0 (b ∷ bs)))

-- ======== comments ========
-- what follows a front
abbrev pub stripped : List ℕ → List ℕ → Option (List ℕ)
stripped [] c = Some c
stripped (p ∷ ps) [] = None
stripped (p ∷ ps) (b ∷ bs) = cond (p == b) (stripped ps bs) None

-- the bytes up to the first space, and those behind it
abbrev pub upto_space : List ℕ → List ℕ × List ℕ
upto_space [] = ([], [])
upto_space (b ∷ bs) = cond (b == 32) ([], bs) (b ∷ (upto_space bs).0, (upto_space bs).1)

-- a byte before the rest
abbrev pub before : ℕ → Option (List ℕ) → Option (List ℕ)
before b rest = option_map (λ bs. b ∷ bs) rest

-- a help text without its backslashes, if each stands before `n`, a backslash or a quote; the test says whether one was
-- just read
abbrev pub unescaped : Bool → List ℕ → Option (List ℕ)
unescaped false [] = Some []
unescaped false (b ∷ bs) = cond (b == 92) (unescaped true bs) (before b (unescaped false bs))
unescaped true [] = None
unescaped true (b ∷ bs) = cond (b == 110) (before 10 (unescaped false bs)) (cond ((b == 92) || (b == 34)) (before b (unescaped false bs)) None)

abbrev pub help_line : List ℕ → Option (List Line)
help_line c = option_map (λ t. help (upto_space c).0 t ∷ []) (unescaped false (upto_space c).1)

abbrev pub kind_line : List ℕ → Option (List Line)
kind_line c = Some (kind (upto_space c).0 (upto_space c).1 ∷ [])

-- the end of a text, if nothing follows in its line
abbrev pub finished : List ℕ → Option (List Line)
finished [] = Some (finish ∷ [])
finished (b ∷ bs) = Some []

abbrev pub or_else : Option (List ℕ) → (List ℕ → Option (List Line)) → Option (List Line) → Option (List Line)
or_else None make other = other
or_else (Some c) make other = make c

-- the line whose bytes behind `#` are these, no line for another comment, and none if it is bad
abbrev pub comment_line : List ℕ → Option (List Line)
comment_line c = or_else (stripped (codes " HELP ") c) help_line (or_else (stripped (codes " TYPE ") c) kind_line (or_else (stripped (codes " EOF") c) finished (Some [])))

-- the lines that a comment gives
abbrev pub given : Option (List Line) → List Line
given None = []
given (Some ls) = ls

-- ======== the reader ========
-- where a reader stands: what it has read of the sample of this line
pub data Place : Type 0 where
  start : Place
  comment : List ℕ → Place
  name : List ℕ → Place
  label : List ℕ → List Pair → List ℕ → Place
  equals : List ℕ → List Pair → List ℕ → Place
  value : List ℕ → List Pair → List ℕ → List ℕ → Place
  escape : List ℕ → List Pair → List ℕ → List ℕ → Place
  closed : List ℕ → List Pair → Place
  gap : List ℕ → List Pair → Place
  number : List ℕ → List Pair → List ℕ → Place
  over : Place
  bad : Place

-- the place behind a line
abbrev pub behind : Line → Place
behind (help n t) = start
behind (kind n w) = start
behind (sample s) = start
behind finish = over

-- the place behind a comment
abbrev pub behind_comment : Option (List Line) → Place
behind_comment None = bad
behind_comment (Some []) = start
behind_comment (Some (l ∷ ls)) = behind l

-- the place after one more byte
abbrev pub next : Place → ℕ → Place
next start b = cond (is_metric_letter b) (name (b ∷ [])) (cond (b == 35) (comment []) (cond (b == 10) start bad))
next (comment c) b = cond (b == 10) (behind_comment (comment_line c)) (comment (c ++ b ∷ []))
next (name n) b = cond (is_metric_byte b) (name (n ++ b ∷ [])) (cond (b == 123) (label n [] []) (cond (b == 32) (number n [] []) bad))
next (label n ls []) b = cond (is_letter b) (label n ls (b ∷ [])) bad
next (label n ls (c ∷ cs)) b = cond (is_label_byte b) (label n ls (c ∷ (cs ++ b ∷ []))) (cond (b == 61) (equals n ls (c ∷ cs)) bad)
next (equals n ls l) b = cond (b == 34) (value n ls l []) bad
next (value n ls l v) b = cond (b == 92) (escape n ls l v) (cond (b == 34) (closed n (ls ++ (l, v) ∷ [])) (cond (b == 10) bad (value n ls l (v ++ b ∷ []))))
next (escape n ls l v) b = cond (b == 110) (value n ls l (v ++ 10 ∷ [])) (cond ((b == 92) || (b == 34)) (value n ls l (v ++ b ∷ [])) bad)
next (closed n ls) b = cond (b == 44) (label n ls []) (cond (b == 125) (gap n ls) bad)
next (gap n ls) b = cond (b == 32) (number n ls []) bad
next (number n ls ds) b = cond (b == 10) (cond (is_integer ds) start bad) (number n ls (ds ++ b ∷ []))
next over b = bad
next bad b = bad

-- the line that this byte ends
abbrev pub ended : Place → ℕ → List Line
ended start b = []
ended (comment c) b = cond (b == 10) (given (comment_line c)) []
ended (name n) b = []
ended (label n ls l) b = []
ended (equals n ls l) b = []
ended (value n ls l v) b = []
ended (escape n ls l v) b = []
ended (closed n ls) b = []
ended (gap n ls) b = []
ended (number n ls ds) b = cond (b == 10) (sample (record { name = n; labels = ls; value = integer_of ds }) ∷ []) []
ended over b = []
ended bad b = []

-- a text ends at the end of a line
abbrev pub at_end : Place → Option (List Line)
at_end start = Some []
at_end over = Some []
at_end (comment c) = None
at_end (name n) = None
at_end (label n ls l) = None
at_end (equals n ls l) = None
at_end (value n ls l v) = None
at_end (escape n ls l v) = None
at_end (closed n ls) = None
at_end (gap n ls) = None
at_end (number n ls ds) = None
at_end bad = None

-- these lines, and then those that were read
abbrev pub after : List Line → Option (List Line) → Option (List Line)
after [] rest = rest
after (l ∷ ls) rest = option_map (λ found. l ∷ found) (after ls rest)

abbrev pub read_from : Place → List ℕ → Option (List Line)
read_from p [] = at_end p
read_from p (b ∷ bs) = after (ended p b) (read_from (next p b) bs)

-- the lines of a text; none if it is no exposition
abbrev pub read : List ℕ → Option (List Line)
read text = read_from start text
