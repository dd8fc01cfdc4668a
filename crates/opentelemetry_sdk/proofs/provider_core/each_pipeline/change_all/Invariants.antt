use Rattle.std.specs.Prelude.{ℕ, All, take}
use Rattle.std.specs.List.{AllByRecursion as EachOf}
use Rattle.otel_model.specs.Calls.{Call}
use Rattle.otel_model.specs.Machine.{part_after_call}
use Rattle.opentelemetry_sdk.specs.pipeline.Handles.{StandsFor}
use Rattle.opentelemetry_sdk.specs.pipeline.Pipelines.{IsLawful, Piped, changed_by, part_of}
use Rattle.opentelemetry_sdk.specs.pipeline.Streams.{contents_after}
use Rattle.opentelemetry_sdk.proofs.pipeline.PipelinesLemmas.{IsDoneUpto}
use Rattle.opentelemetry_sdk.proofs.provider_core.each_pipeline.change_all.Given as goal

-- the change is carried out at the readers so far, and the call that it stands for is made there
abbrev pub invariant-loop-i : goal.invariant-loop-i
invariant-loop-i l = record {
  parts : (next : ℕ) (call : Call) → All (StandsFor l.fn.instrument l.fn.change next call) l.initial.pipelines → IsDoneUpto part_of (λ (p : Piped). part_after_call next call (part_of p)) l.initial.pipelines l.pipelines l.i;
  streams : IsDoneUpto (λ (p : Piped). p) (changed_by (contents_after l.fn.change) l.fn.instrument) l.initial.pipelines l.pipelines l.i;
  lawful : EachOf IsLawful (take l.i l.initial.pipelines);
}
