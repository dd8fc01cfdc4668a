use Rattle.std.proofs.Common.{◌≡◌, fold, take}
use Rattle.otel_model.specs.Machine.{instrument_after_record}
use Rattle.opentelemetry_sdk.specs.Correspondence.{number_of}
use Rattle.opentelemetry_sdk.proofs.provider_core.instrument.Instrument.accept_each.Given as goal

-- the values so far are counted
abbrev pub invariant-loop-value : goal.invariant-loop-value
invariant-loop-value l = l.self ≡ fold (λ i v. instrument_after_record (number_of v).amount i) l.initial.self (take l.value-index l.values)
