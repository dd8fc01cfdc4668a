use Rattle.opentelemetry_sdk.specs.pipeline.Pipelines.{IsReady}
use Rattle.opentelemetry_sdk.specs.pipeline.Streams.{without_pending}
use Rattle.opentelemetry_sdk.proofs.pipeline.Writes.{IsReadyUpto}
use Rattle.opentelemetry_sdk.proofs.pipeline.each_stream.prepare_each.Given as goal

abbrev pub invariant-loop-k : goal.invariant-loop-k
invariant-loop-k l = IsReadyUpto without_pending (IsReady l.binds l.attributes) l.feeds l.initial.streams.items l.streams.items l.k-index
