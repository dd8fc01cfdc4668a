use Rattle.std.proofs.Common.{◌≡◌, [], map, drop, length, replicate}
use Rattle.opentelemetry_sdk.specs.pipeline.Collections.{append_each, shown_in}
use Rattle.opentelemetry_sdk.proofs.pipeline.collecting.metrics_by_meter.Given as goal

-- the metrics so far, and those of the streams that are left, are all
abbrev pub invariant-loop-stream : goal.invariant-loop-stream
invariant-loop-stream l = record {
  long : length l.lists.items ≡ length l.meters.keys;
  all : append_each (map (λ v. v.items) l.lists.items) (map (λ m. shown_in m l.now (drop l.stream-index l.streams)) l.meters.keys) ≡ map (λ m. shown_in m l.now l.streams) l.meters.keys;
}

-- the lists so far are empty
abbrev pub invariant-loop : goal.invariant-loop
invariant-loop l = map (λ v. v.items) l.lists.items ≡ replicate l.counter []
