-- The core of a provider as the state of the model's machine.
use Rattle.std.specs.Prelude.{map}
use Rattle.otel_model.specs.State.{State}
use Rattle.opentelemetry_sdk.specs.pipeline.Pipelines.{part_of}
use Rattle.opentelemetry_sdk.specs.States.{CoreContents}
use Rattle.opentelemetry_sdk.specs.declared.provider_core.Core.TheInside.{Inside}

-- the state that the fields of a core make
abbrev pub state_in : Inside → State
state_in c = record {
  shared = record { resource = c.resource; identity = c.identity; meters = c.meters.keys; instruments = c.instruments.items; live = c.handles.entries; next = c.next; shut = c.shut };
  readers = map part_of c.pipelines.items;
}

abbrev pub contents_in : Inside → CoreContents
contents_in c = record { state = state_in c; hash_seed = c.hasher.seed; reader_seeds = map (λ p. p.hash_seed) c.pipelines.items }
