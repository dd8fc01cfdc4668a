use Rattle.std.proofs.Common.{◌≡◌, None, drop, take, length, replicate}
use Rattle.opentelemetry_sdk.specs.pipeline.Observations.{AreDraftsOf, drafted_all, observed_all}
use Rattle.opentelemetry_sdk.specs.pipeline.Pipelines.{all_without_pending, changed_each}
use Rattle.opentelemetry_sdk.specs.pipeline.Streams.{contents_after_record}
use Rattle.opentelemetry_sdk.proofs.pipeline.observing.observe_each.Given as goal

-- the drafts took in the observations so far
abbrev pub invariant-loop-observation : goal.invariant-loop-observation
invariant-loop-observation l = record {
  same : all_without_pending l.streams.items ≡ all_without_pending l.initial.streams.items;
  long : length l.drafts.items ≡ length l.streams.items;
  fits : AreDraftsOf l.drafts.items l.streams.items;
  observed : drafted_all l.drafts.items l.streams.items ≡ all_without_pending (observed_all l.feeds (take l.observation-index l.observations) l.initial.streams.items);
}

-- the first of them took in one observation more
abbrev pub invariant-loop-k : goal.invariant-loop-k
invariant-loop-k l = record {
  same : all_without_pending l.streams.items ≡ all_without_pending l.initial.streams.items;
  long : length l.drafts.items ≡ length l.streams.items;
  fits : AreDraftsOf l.drafts.items l.streams.items;
  left : changed_each (contents_after_record l.observation.value l.observation.attributes) (drop l.k-index l.numbers) (drafted_all l.drafts.items l.streams.items)
      ≡ changed_each (contents_after_record l.observation.value l.observation.attributes) l.numbers (drafted_all l.initial.drafts.items l.initial.streams.items);
}

-- no draft is made yet
abbrev pub invariant-loop : goal.invariant-loop
invariant-loop l = l.drafts.items ≡ replicate l.counter None
