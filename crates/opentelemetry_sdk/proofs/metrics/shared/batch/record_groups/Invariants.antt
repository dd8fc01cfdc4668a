use Rattle.std.proofs.Common.{drop, map, take}
use Rattle.otel_model.specs.Batches.{written_each}
use Rattle.otel_model.specs.State.{State}
use Rattle.opentelemetry_sdk.specs.Batches.{AreReadyIn}
use Rattle.opentelemetry_sdk.specs.Groups.{listed_at, with_numbers}
use Rattle.opentelemetry_sdk.proofs.metrics.shared.batch.record_groups.Given as goal

-- the records of the series so far are made, and the others are ready
abbrev pub invariant-loop-number : goal.invariant-loop-number
invariant-loop-number l = (st : State) → AreReadyIn l.waiting.series l.groups.groups st l.initial.pipelines l.initial.instruments.items
    → AreReadyIn l.waiting.series (drop l.number l.groups.groups) (written_each (listed_at l.waiting.series) (map with_numbers (take l.number l.groups.groups)) st) l.pipelines l.instruments.items
