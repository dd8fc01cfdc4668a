use Rattle.std.proofs.Common.{◌≡◌, map}
use Rattle.opentelemetry_sdk.specs.pipeline.Pipelines.{part_of}
use Rattle.opentelemetry_sdk.proofs.metrics.shared.batch.give_up.Given as goal

abbrev pub invariant-loop-number : goal.invariant-loop-number
invariant-loop-number l = map part_of l.pipelines ≡ map part_of l.initial.pipelines
