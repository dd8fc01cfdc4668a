use Rattle.opentelemetry_sdk.specs.pipeline.Streams.{contents_after}
use Rattle.opentelemetry_sdk.proofs.pipeline.Writes.{IsChangedUpto}
use Rattle.opentelemetry_sdk.proofs.pipeline.each_stream.change_each.Given as goal

abbrev pub invariant-loop-k : goal.invariant-loop-k
invariant-loop-k l = IsChangedUpto (contents_after l.change) l.feeds l.initial.streams.items l.streams.items l.k-index
