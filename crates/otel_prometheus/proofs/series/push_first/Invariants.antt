use Rattle.std.proofs.Common.{◌≡◌, ◌+◌, ◌%◌, ◌^◌, ◌++◌, [], drop}
use Rattle.otel_prometheus.specs.Series.{kept_text, doubled_texts}
use Rattle.otel_prometheus.specs.Texts.{pieces_from}
use Rattle.otel_prometheus.proofs.series.push_first.Given as goal

-- with the series that are left the text and the count are whole
abbrev pub invariant-loop-mark : goal.invariant-loop-mark
invariant-loop-mark l = record {
  text : l.out.items ++ kept_text l.seen.keys (pieces_from l.labels_left l.lines_left (drop l.mark-index l.marks)) ≡ l.fn.out.items ++ kept_text [] (pieces_from l.labels l.lines l.marks);
  doubled : (l.count + doubled_texts l.seen.keys (pieces_from l.labels_left l.lines_left (drop l.mark-index l.marks))) % 2 ^ 64 ≡ doubled_texts [] (pieces_from l.labels l.lines l.marks) % 2 ^ 64;
}
