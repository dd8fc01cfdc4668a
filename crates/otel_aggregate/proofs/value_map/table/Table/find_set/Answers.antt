use Rattle.otel_aggregate.specs.value_map.Slots.{look_in}
use Rattle.otel_aggregate.proofs.value_map.KeyedLemmas.{if_found}
use Rattle.otel_aggregate.proofs.value_map.table.Table.find_set.Goals as goal

pub returns-clause-named : goal.returns-clause-named
returns-clause-named g c =
    let look = look_in g.A.Aggregator.meaning c.self.inside.slots in
    rw (← c.self.view_is) (if_found look c.self.inside.none c.self.inside.keys.sets c.self.inside.keys.aliases c.args.set.now.key c.find_set.result c.self.invariant.0 (λ _. c.find_set.ensures))
