use Rattle.std.proofs.Common.{◌≡◌, map, drop}
use Rattle.std.specs.List.{AllWithin}
use Rattle.otel_model.specs.Refusals.{observations_refusal}
use Rattle.opentelemetry_sdk.specs.Correspondence.{observed_of}
use Rattle.opentelemetry_sdk.specs.States.{IsTaken}
use Rattle.opentelemetry_sdk.proofs.provider_core.checks.check_observations.Given as goal

-- the observations so far are good, so those that are left decide
abbrev pub invariant-loop-observed : goal.invariant-loop-observed
invariant-loop-observed l = record {
  left : observations_refusal l.instruments (map observed_of l.observations) ≡ observations_refusal l.instruments (map observed_of (drop l.observed-index l.observations));
  taken : AllWithin (IsTaken l.instruments) l.observations 0 l.observed-index;
}
