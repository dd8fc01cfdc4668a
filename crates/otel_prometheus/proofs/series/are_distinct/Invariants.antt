use Rattle.std.proofs.Common.{◌≡◌, ℕ, List, [], drop}
use Rattle.otel_prometheus.specs.Series.{doubled_texts}
use Rattle.otel_prometheus.specs.Texts.{pieces_from}
use Rattle.otel_prometheus.proofs.series.are_distinct.Given as goal

-- if none of the series that are left is doubled, none is
abbrev pub invariant-loop-mark : goal.invariant-loop-mark
invariant-loop-mark l = ((lines : List ℕ) → doubled_texts l.seen.keys (pieces_from l.left lines (drop l.mark-index l.marks)) ≡ 0)
    → (lines : List ℕ) → doubled_texts [] (pieces_from l.labels lines l.marks) ≡ 0
