use Rattle.std.proofs.Common.{◌≡◌, ◌++◌, None, drop, length, replicate, take}
use Rattle.opentelemetry_sdk.specs.pipeline.Observations.{AreDraftsOf, drafted_all}
use Rattle.opentelemetry_sdk.specs.pipeline.Pipelines.{all_without_pending}
use Rattle.opentelemetry_sdk.proofs.pipeline.observing.exchange_each.Given as goal

-- the first streams have changed places, and would be what they were with their drafts now
abbrev pub invariant-loop-n : goal.invariant-loop-n
invariant-loop-n l = record {
  left : drafted_all (replicate l.n None ++ drop l.n l.drafts.items) l.streams.items ≡ drafted_all l.initial.drafts.items l.initial.streams.items;
  back : drafted_all (take l.n l.drafts.items) l.streams.items ≡ all_without_pending l.initial.streams.items;
  fits : AreDraftsOf l.drafts.items l.streams.items;
  many : length l.drafts.items ≡ length l.initial.drafts.items;
}
