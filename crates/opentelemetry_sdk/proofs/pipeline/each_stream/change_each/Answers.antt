use Rattle.opentelemetry_sdk.specs.pipeline.Streams.{contents_after}
use Rattle.opentelemetry_sdk.proofs.pipeline.Writes.{changed-more}
use Rattle.opentelemetry_sdk.proofs.pipeline.each_stream.change_each.Goals as goal

pub loop-k-preserved : goal.loop-k-preserved
loop-k-preserved c = changed-more (contents_after c.args.change) c.args.feeds.now c.args.streams.now.items c.loop-k.streams.items c.loop-k.k-index c.index_mut.result.now c.change-place.new.self c.requires.numbers c.loop-k-test.true c.index_mut.ensures.value c.change-place.ensures c.loop-k.invariant
