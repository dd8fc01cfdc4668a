-- Worked rows of the reader of expositions, most of which deny a text, and of points that are distinct.
use Rattle.std.specs.Prelude.{◌≡◌, ℕ, pos, negsuc, List, [], ◌∷◌, ◌++◌, Some, None, codes}
use Rattle.std.proofs.Common.{refl}
use Rattle.std.proofs.lemmas.Bool.{true≢false}
use Rattle.otel_prometheus.specs.Consumers.{Point, number}
use Rattle.otel_prometheus.specs.Laws.{AreDistinct}
use Rattle.otel_prometheus.specs.Lines.{Line, help, kind, sample, finish}
use Rattle.otel_prometheus.specs.Reading.{read}

-- ======== what is read ========
-- lines of each sort, a comment that says nothing, and an empty line
abbrev whole : List ℕ
whole =
    codes "# HELP a b\\\\c\\n\\\"d\n"
    ++ (codes "# TYPE a counter\n"
    ++ (codes "# a comment\n\n"
    ++ (codes "a_total{b=\"\\\\\\\"\\n,}\",_c1=\"\"} 18446744073709551615\n"
    ++ (codes ":a -7\n"
    ++ codes "# EOF\n"))))

abbrev whole_lines : List Line
whole_lines =
    help (codes "a") (codes "b\\c\n\"d")
    ∷ kind (codes "a") (codes "counter")
    ∷ sample (record { name = codes "a_total"; labels = (codes "b", codes "\\\"\n,}") ∷ (codes "_c1", []) ∷ []; value = pos 18446744073709551615 })
    ∷ sample (record { name = codes ":a"; labels = []; value = negsuc 6 })
    ∷ finish ∷ []

pub lines_read : read whole ≡ Some whole_lines
lines_read = refl

pub nothing_read : read [] ≡ Some []
nothing_read = refl

-- a comment that only begins like the end of a text
pub comment_read : read (codes "# EOF x\n# HELPa\na 1\n") ≡ Some (sample (record { name = codes "a"; labels = []; value = pos 1 }) ∷ [])
comment_read = refl

-- ======== what is no exposition ========
abbrev AreDenied : List (List ℕ) → Type 0
AreDenied [] = Unit {0}
AreDenied (t ∷ ts) = (read t ≡ None) × AreDenied ts

-- bytes that stand in no name, and a name, a label, a value or a gap too few or too many
abbrev with_stray_bytes : List (List ℕ)
with_stray_bytes =
    codes "?a 1\n" ∷ codes " a 1\n" ∷ codes "1a 1\n" ∷ codes "a? 1\n" ∷ codes "a\t1\n" ∷ codes "é 1\n" ∷ codes "a\n" ∷ codes "a \n" ∷ codes "a -\n" ∷ codes "a 1x\n"
    ∷ codes "a +1\n" ∷ codes "a 1.5\n" ∷ codes "a 1 2\n" ∷ codes "a  1\n" ∷ codes "a 1\r\n" ∷ codes "a{b} 1\n" ∷ codes "a{b=c} 1\n" ∷ codes "a{=\"c\"} 1\n" ∷ codes "a{1b=\"c\"} 1\n"
    ∷ codes "a{:b=\"c\"} 1\n" ∷ codes "a{b=\"c\"}1\n" ∷ codes "a {b=\"c\"} 1\n" ∷ codes "a{b=\"c\"x} 1\n" ∷ codes "a{b=\"c\",,d=\"e\"} 1\n" ∷ codes "a{b=\"c\"}} 1\n" ∷ []

pub stray_bytes : AreDenied with_stray_bytes
stray_bytes = (refl, (refl, (refl, (refl, (refl, (refl, (refl, (refl, (refl, (refl, (refl, (refl, (refl, (refl, (refl, (refl, (refl, (refl, (refl, (refl, (refl, (refl, (refl, (refl, (refl, tt)))))))))))))))))))))))))

abbrev with_unknown_escapes : List (List ℕ)
with_unknown_escapes = codes "a{b=\"\\t\"} 1\n" ∷ codes "a{b=\"\\N\"} 1\n" ∷ codes "a{b=\"c\\\"} 1\n" ∷ codes "# HELP a \\t\n" ∷ codes "# HELP a b\\\n" ∷ []

pub unknown_escapes : AreDenied with_unknown_escapes
unknown_escapes = (refl, (refl, (refl, (refl, (refl, tt)))))

abbrev in_mid_line : List (List ℕ)
in_mid_line =
    codes "a 1" ∷ codes "a 1\na" ∷ codes "a " ∷ codes "a{" ∷ codes "a{b" ∷ codes "a{b=" ∷ codes "a{b=\"" ∷ codes "a{b=\"\\" ∷ codes "a{b=\"c\"" ∷ codes "a{b=\"c\","
    ∷ codes "a{b=\"c\"}" ∷ codes "# EOF" ∷ codes "# HELP a b" ∷ []

pub ends_in_mid_line : AreDenied in_mid_line
ends_in_mid_line = (refl, (refl, (refl, (refl, (refl, (refl, (refl, (refl, (refl, (refl, (refl, (refl, (refl, tt)))))))))))))

abbrev behind_the_end : List (List ℕ)
behind_the_end = codes "# EOF\na 1\n" ∷ codes "# EOF\n# EOF\n" ∷ codes "# EOF\n\n" ∷ codes "a 1\n# EOF\n# HELP a b\n" ∷ []

pub text_behind_the_end : AreDenied behind_the_end
text_behind_the_end = (refl, (refl, (refl, (refl, tt))))

abbrev with_line_ends : List (List ℕ)
with_line_ends = codes "a{b=\"c\nd\"} 1\n" ∷ codes "a{b=\"\n\"} 1\n" ∷ codes "a{b=\"c\\\n\"} 1\n" ∷ []

pub line_ends_in_values : AreDenied with_line_ends
line_ends_in_values = (refl, (refl, (refl, tt)))

-- ======== points that are one series ========
abbrev hits : List ℕ → Point
hits path = record { name = codes "hits_total"; labels = (codes "path", path) ∷ []; content = number (pos 1) }

pub other_labels : AreDistinct [] (hits (codes "/a") ∷ hits (codes "/b") ∷ record (hits []) { labels = [] } ∷ [])
other_labels = (refl, (refl, (refl, tt)))

pub other_names : AreDistinct [] (hits (codes "/a") ∷ record (hits (codes "/a")) { name = codes "misses_total" } ∷ [])
other_names = (refl, (refl, tt))

-- another value makes no other series
pub one_series : AreDistinct [] (hits (codes "/a") ∷ record (hits (codes "/a")) { content = number (pos 2) } ∷ []) → ⊥
one_series h = true≢false h.1.0

pub one_series_later : AreDistinct [] (hits (codes "/a") ∷ hits (codes "/b") ∷ hits (codes "/a") ∷ []) → ⊥
one_series_later h = true≢false h.1.1.0
