use Rattle.std.proofs.Common.{rules, ap, take, drop}
use Rattle.std.proofs.lemmas.List.{drop_all}
use Rattle.otel_prometheus.specs.Series.{doubled_texts}
use Rattle.otel_prometheus.specs.Texts.{pieces_from}
use Rattle.otel_prometheus.proofs.TextLemmas.{mark_at, none_doubled}
use Rattle.otel_prometheus.proofs.series.are_distinct.Goals as goal

pub loop-mark-preserved : goal.loop-mark-preserved
loop-mark-preserved c =
    let marks = c.args.marks.now in
    let i = c.loop-mark.mark-index in
    λ left lines.
    c.loop-mark.invariant
    (λ all.
    none_doubled marks i c.loop-mark.left.now all c.split.result.0.now (take (mark_at marks i).lines all) c.split.result.1.now (drop (mark_at marks i).lines all)
    c.loop-mark.seen.keys c.note.new.seen.keys c.loop-mark-test.true c.split.ensures.first (λ j. take (mark_at marks i).lines all) c.split.ensures.rest (λ j. drop (mark_at marks i).lines all)
    c.in_ok-note.field-0 (search rules) (c.in_ok-note.ensures.doubled (take (mark_at marks i).lines all)) (left (drop (mark_at marks i).lines all)))
    lines

pub returns : goal.returns
returns c =
    λ lines is.
    c.loop-mark.invariant (λ all. ap (λ t. doubled_texts c.loop-mark.seen.keys (pieces_from c.loop-mark.left.now all t)) (drop_all c.loop-mark.mark-index c.args.marks.now (search rules))) lines
