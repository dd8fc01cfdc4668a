use Rattle.otel_model_stream.specs.Sets.{over_set}
use Rattle.otel_aggregate.specs.value_map.Slots.{look_in}
use Rattle.otel_aggregate.proofs.value_map.KeyedLemmas.{if_found}
use Rattle.otel_aggregate.proofs.value_map.table.Table.overflow.Goals as goal

pub returns-clause-named : goal.returns-clause-named
returns-clause-named g c =
    let look = look_in g.A.Aggregator.meaning c.self.inside.slots in
    rw (← c.self.view_is) (if_found look c.self.inside.none c.self.inside.keys.sets c.self.inside.keys.aliases over_set c.self.inside.overflow c.self.invariant.0 (λ _. c.self.invariant.1))
