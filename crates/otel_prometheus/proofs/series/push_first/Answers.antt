use Rattle.otel_prometheus.proofs.TextLemmas.{text_left, count_left}
use Rattle.otel_prometheus.proofs.series.push_first.Goals as goal

pub loop-mark-preserved : goal.loop-mark-preserved
loop-mark-preserved c = record {
  text =
      text_left c.args.marks.now c.loop-mark.mark-index c.loop-mark.labels_left.now c.loop-mark.lines_left.now c.split.result.0.now c.split-in-loop-mark.result.0.now c.split.result.1.now c.split-in-loop-mark.result.1.now
      c.loop-mark.seen.keys c.push_series.new.seen.keys c.loop-mark-test.true c.split.ensures.first c.split-in-loop-mark.ensures.first c.split.ensures.rest c.split-in-loop-mark.ensures.rest
      c.loop-mark.out.items c.push_series.new.out.items _ c.in_ok-count.ensures.text c.loop-mark.invariant.text;
  doubled =
      count_left c.args.marks.now c.loop-mark.mark-index c.loop-mark.labels_left.now c.loop-mark.lines_left.now c.split.result.0.now c.split-in-loop-mark.result.0.now c.split.result.1.now c.split-in-loop-mark.result.1.now
      c.loop-mark.seen.keys c.push_series.new.seen.keys c.loop-mark-test.true c.split.ensures.first c.split-in-loop-mark.ensures.first c.split.ensures.rest c.split-in-loop-mark.ensures.rest
      c.loop-mark.count c.in_ok-count.field-0 _ c.in_ok-count.ensures.doubled c.loop-mark.invariant.doubled;
}
