use Rattle.std.proofs.Common.{◌≡◌, ◌∙◌, ap, false, subst, sym, map}
use Rattle.otel_model.specs.Machine.{new_part, new_state}
use Rattle.otel_model.specs.State.{State}
use Rattle.opentelemetry_sdk.specs.pipeline.Pipelines.{part_of}
use Rattle.opentelemetry_sdk.specs.States.{IsSound}
use Rattle.opentelemetry_sdk.proofs.Sound.{first-sound}
use Rattle.opentelemetry_sdk.proofs.provider_core.Core.new.Goals as goal

-- a provider is sound as it is built
pub invariant_of-result : goal.invariant_of-result
invariant_of-result c =
    let made : State = record {
      shared = record { resource = c.args.resource; identity = c.args.identity; meters = c.new.result.keys; instruments = c.new-2.result.items; live = c.new-3.result.entries; next = 0; shut = false };
      readers = map part_of c.readers.inside.pipelines.items;
    } in
    let fresh : made ≡ new_state c.args.resource c.args.identity c.args.readers = λ i. record {
      shared = record { resource = c.args.resource; identity = c.args.identity; meters = c.new.ensures.empty i; instruments = c.new-2.ensures.items i; live = c.new-3.ensures i; next = 0; shut = false };
      readers = (c.readers.invariant ∙ ap (map new_part) c.readers.view_is) i;
    } in
    subst IsSound (sym fresh) (first-sound c.args.resource c.args.identity c.args.readers)
