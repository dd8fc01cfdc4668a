use Rattle.std.proofs.Common.{◌≡◌, map}
use Rattle.std.specs.List.{AllWithin}
use Rattle.opentelemetry_sdk.specs.pipeline.Pipelines.{part_of, IsReadyFor}
use Rattle.opentelemetry_sdk.proofs.provider_core.each_pipeline.prepare_all.Given as goal

-- nothing is seen to change, and the readers so far are ready
abbrev pub invariant-loop-i : goal.invariant-loop-i
invariant-loop-i l = record {
  same : map part_of l.pipelines ≡ map part_of l.initial.pipelines;
  ready : AllWithin (IsReadyFor l.fn.binds l.fn.instrument l.fn.attributes) l.pipelines 0 l.i;
}
