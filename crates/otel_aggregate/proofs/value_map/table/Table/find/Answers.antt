use Rattle.otel_aggregate.specs.value_map.Slots.{look_in}
use Rattle.otel_aggregate.proofs.value_map.KeyedLemmas.{found_placed}
use Rattle.otel_aggregate.proofs.value_map.table.Table.find.Goals as goal

pub returns-clause-placed : goal.returns-clause-placed
returns-clause-placed g c =
    let look = look_in g.A.Aggregator.meaning c.self.inside.slots in
    rw (← c.self.view_is) (found_placed look c.self.inside.none c.self.inside.keys.sets c.self.inside.keys.aliases c.args.list.now.key c.find.result c.self.invariant.0 c.find.ensures).0

pub returns-clause-named : goal.returns-clause-named
returns-clause-named g c =
    let look = look_in g.A.Aggregator.meaning c.self.inside.slots in
    rw (← c.self.view_is) (found_placed look c.self.inside.none c.self.inside.keys.sets c.self.inside.keys.aliases c.args.list.now.key c.find.result c.self.invariant.0 c.find.ensures).1
