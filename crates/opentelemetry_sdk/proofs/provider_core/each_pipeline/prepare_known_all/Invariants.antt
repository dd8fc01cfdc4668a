use Rattle.std.proofs.Common.{◌≡◌, true, map, take}
use Rattle.std.specs.List.{list_all, AllByRecursion as EachOf}
use Rattle.otel_model.specs.Places.{Listed, IsPlaced}
use Rattle.opentelemetry_sdk.specs.pipeline.Known.{is_known_at}
use Rattle.opentelemetry_sdk.specs.pipeline.Pipelines.{Piped, changed_by, part_of}
use Rattle.opentelemetry_sdk.specs.pipeline.Streams.{contents_prepared}
use Rattle.opentelemetry_sdk.proofs.pipeline.PipelinesLemmas.{IsDoneUpto}
use Rattle.opentelemetry_sdk.proofs.provider_core.each_pipeline.prepare_known_all.Given as goal

-- the readers so far know the attributes, and a record of these is prepared there
abbrev pub invariant-loop-i : goal.invariant-loop-i
invariant-loop-i l = record {
  known : list_all (λ (p : Piped). is_known_at l.fn.instrument l.fn.attributes (part_of p)) (take l.i l.initial.pipelines) ≡ true;
  placed : EachOf (λ (p : Piped). EachOf (IsPlaced (part_of p).feeds (Listed l.fn.instrument l.fn.attributes)) (part_of p).streams) (take l.i l.initial.pipelines);
  done : IsDoneUpto (λ (p : Piped). p) (changed_by (contents_prepared l.fn.attributes) l.fn.instrument) l.initial.pipelines l.pipelines l.i;
  same : map part_of l.pipelines ≡ map part_of l.initial.pipelines;
}
