-- Series as text, one behind the other.
use Rattle.std.specs.Prelude.{ℕ, List, [], ◌∷◌, ◌++◌, length, take, drop}
use Rattle.otel_prometheus.specs.Samples.{Pair}
use Rattle.otel_prometheus.specs.Series.{Series, spelled_series}
use Rattle.otel_prometheus.specs.declared.series.Mark.{Mark}

-- the spelled labels of all series, their lines, and how long those of each are
pub record Written : Type 0 where
  pub labels : List ℕ
  pub lines : List ℕ
  pub marks : List Mark

-- no series, whose lines will stand behind a text
abbrev pub written_behind : List ℕ → Written
written_behind text = record { labels = []; lines = text; marks = [] }

-- one more series, whose texts are there
abbrev pub with_mark : Written → ℕ → ℕ → Written
with_mark w n m = record { labels = w.labels; lines = w.lines; marks = w.marks ++ record { labels = n; lines = m } ∷ [] }

-- one more series, with its texts
abbrev pub with_texts : Written → Pair → Written
with_texts w x = with_mark (record { labels = w.labels ++ x.0; lines = w.lines ++ x.1; marks = w.marks }) (length x.0) (length x.1)

abbrev pub with_series : Written → Series → Written
with_series w x = with_texts w (spelled_series x)

-- the texts of each series
abbrev pub pieces_from : List ℕ → List ℕ → List Mark → List Pair
pieces_from labels lines [] = []
pieces_from labels lines (m ∷ ms) = (take m.labels labels, take m.lines lines) ∷ pieces_from (drop m.labels labels) (drop m.lines lines) ms

-- the lines begin at this place
abbrev pub pieces : ℕ → Written → List Pair
pieces start w = pieces_from w.labels (drop start w.lines) w.marks
