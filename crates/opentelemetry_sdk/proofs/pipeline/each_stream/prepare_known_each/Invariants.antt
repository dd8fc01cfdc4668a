use Rattle.std.proofs.Common.{◌≡◌, true, map, take}
use Rattle.opentelemetry_sdk.specs.pipeline.Known.{are_known, knows}
use Rattle.opentelemetry_sdk.specs.pipeline.Pipelines.{all_without_pending}
use Rattle.opentelemetry_sdk.specs.pipeline.Streams.{contents_prepared}
use Rattle.opentelemetry_sdk.proofs.pipeline.Writes.{IsChangedUpto}
use Rattle.opentelemetry_sdk.proofs.pipeline.each_stream.prepare_known_each.Given as goal

-- the streams of the first numbers know the attributes, and a record of these is prepared there
abbrev pub invariant-loop-k : goal.invariant-loop-k
invariant-loop-k l = record {
  known : are_known l.attributes l.initial.streams.items (take l.k-index l.feeds) ≡ true;
  knows : map (knows l.attributes) l.streams.items ≡ map (knows l.attributes) l.initial.streams.items;
  same : all_without_pending l.streams.items ≡ all_without_pending l.initial.streams.items;
  done : IsChangedUpto (contents_prepared l.attributes) l.feeds l.initial.streams.items l.streams.items l.k-index;
}
