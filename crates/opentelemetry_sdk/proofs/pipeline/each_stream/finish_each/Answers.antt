use Rattle.std.proofs.Common.{arith, sym, ◌∙◌}
use Rattle.std.proofs.lemmas.Simd.{map-map}
use Rattle.opentelemetry_sdk.specs.pipeline.Streams.{StreamContents, without_pending, contents_after_collection}
use Rattle.opentelemetry_sdk.proofs.pipeline.PipelinesLemmas.{done-all}
use Rattle.opentelemetry_sdk.proofs.pipeline.each_stream.finish_each.Goals as goal

pub returns : goal.returns
returns c = done-all without_pending (λ (k : StreamContents). without_pending (contents_after_collection c.args.now k)) c.args.streams.now.items c.loop-i.streams.items c.loop-i.i (omega (arith, c.loop-i-test.false, c.len-i-end.ensures)) c.loop-i.invariant ∙ sym (map-map without_pending (contents_after_collection c.args.now) c.args.streams.now.items)
