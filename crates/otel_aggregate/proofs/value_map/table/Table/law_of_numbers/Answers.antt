use Rattle.otel_aggregate.specs.value_map.Slots.{look_in}
use Rattle.otel_aggregate.proofs.value_map.KeyedLemmas.{numbers_name}
use Rattle.otel_aggregate.proofs.value_map.table.Table.law_of_numbers.Goals as goal

pub returns-clause-named : goal.returns-clause-named
returns-clause-named g c = rw (← c.self.view_is) (numbers_name (look_in g.A.Aggregator.meaning c.self.inside.slots) c.self.inside.none c.self.inside.keys.sets c.self.inside.keys.aliases c.self.invariant.0)
