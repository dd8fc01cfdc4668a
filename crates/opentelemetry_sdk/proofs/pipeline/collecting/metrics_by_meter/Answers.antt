use Rattle.std.proofs.Common.{◌≡◌, ◌∙◌, [], ap, length, map, arith, sym}
use Rattle.std.proofs.lemmas.List.{length-map, length-replicate}
use Rattle.opentelemetry_sdk.specs.pipeline.Collections.{append_each, shown_in}
use Rattle.opentelemetry_sdk.proofs.pipeline.Places.{joined-none, places-more, places-all}
use Rattle.opentelemetry_sdk.proofs.pipeline.collecting.metrics_by_meter.Goals as goal

pub loop-stream-init : goal.loop-stream-init
loop-stream-init c =
    let many : c.loop.counter ≡ length c.args.meters.now.keys = let n : c.len-end.result ≡ length c.args.meters.now.keys = c.len-end.ensures.len in omega (arith, n, c.loop-test.false, c.loop.auto.counter-end) in
    record {
      long = sym (length-map c.loop.lists.items (λ v. v.items)) ∙ ap length c.loop.invariant ∙ length-replicate c.loop.counter [] ∙ many;
      all = ap (λ xs. append_each xs (map (λ m. shown_in m c.args.now c.args.streams.now) c.args.meters.now.keys)) c.loop.invariant
          ∙ joined-none (λ m. shown_in m c.args.now c.args.streams.now) c.args.meters.now.keys c.loop.counter many;
    }

pub loop-stream-preserved : goal.loop-stream-preserved
loop-stream-preserved c = record {
  long = c.push_metric.ensures.long ∙ c.loop-stream.invariant.long;
  all = places-more c.args.now _ _ _ c.args.streams.now c.loop-stream.stream-index c.stream-item.result c.args.meters.now.keys c.loop-stream-test.true c.stream-item.is c.in_ok-place.ensures.metrics c.loop-stream.invariant.all;
}

pub returns-clause-metrics : goal.returns-clause-metrics
returns-clause-metrics c = places-all c.args.now _ _ c.args.streams.now c.loop-stream.stream-index c.args.meters.now.keys (omega (arith, c.loop-stream-test.false)) c.loop-stream.invariant.all
