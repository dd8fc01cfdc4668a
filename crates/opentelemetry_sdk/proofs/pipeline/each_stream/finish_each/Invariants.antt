use Rattle.opentelemetry_sdk.specs.pipeline.Streams.{StreamContents, without_pending, contents_after_collection}
use Rattle.opentelemetry_sdk.proofs.pipeline.PipelinesLemmas.{IsDoneUpto}
use Rattle.opentelemetry_sdk.proofs.pipeline.each_stream.finish_each.Given as goal

-- the first streams ended the collection, and the others are as they were
abbrev pub invariant-loop-i : goal.invariant-loop-i
invariant-loop-i l = IsDoneUpto without_pending (λ (k : StreamContents). without_pending (contents_after_collection l.now k)) l.initial.streams.items l.streams.items l.i
