use Rattle.std.proofs.Common.{refl, rules}
use Rattle.otel_aggregate.specs.value_map.Slots.{left_of}
use Rattle.otel_aggregate.proofs.value_map.RetainLemmas.{retained-look}
use Rattle.otel_aggregate.proofs.value_map.slots.settle.Goals as goal

pub returns : goal.returns
returns g c = record { look = retained-look g.A.Aggregator.meaning _ (λ n o. left_of o) (λ n. refl) _ (λ n shown keep left next call. search rules) c.args.slots.now c.retain.new.self c.retain.ensures.retained }
