use Rattle.std.proofs.Common.{◌≡◌, ◌≤◌, drop, length, map}
use Rattle.std.specs.List.{AllByRecursion as EachOf}
use Rattle.otel_model.specs.State.{State}
use Rattle.opentelemetry_sdk.specs.Batches.{IsIn, IsKnownGroup, prepared_for}
use Rattle.opentelemetry_sdk.specs.pipeline.Pipelines.{part_of}
use Rattle.opentelemetry_sdk.proofs.metrics.shared.batch.prepare_groups.Given as goal

-- the series from this number on are known, and records of them are prepared
abbrev pub invariant-loop-left : goal.invariant-loop-left
invariant-loop-left l = record {
  within : l.left ≤ length l.groups.groups;
  same : map part_of l.pipelines ≡ map part_of l.initial.pipelines;
  prepared : l.pipelines ≡ map (prepared_for l.waiting.series (drop l.left l.groups.groups)) l.initial.pipelines;
  known : (st : State) → IsIn st (map part_of l.initial.pipelines) l.instruments → EachOf (IsKnownGroup l.waiting.series st) (drop l.left l.groups.groups);
}

abbrev pub decreases-loop-left : goal.decreases-loop-left
decreases-loop-left l = l.left
