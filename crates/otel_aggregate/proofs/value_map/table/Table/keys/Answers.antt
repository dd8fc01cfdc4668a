use Rattle.std.proofs.Common.{arith}
use Rattle.std.proofs.lemmas.List.{length-map}
use Rattle.otel_aggregate.specs.value_map.Slots.{look_in, entry_at}
use Rattle.otel_aggregate.proofs.value_map.KeyedLemmas.{lists_few}
use Rattle.otel_aggregate.proofs.value_map.table.Table.keys.Goals as goal

pub returns-clause-few : goal.returns-clause-few
returns-clause-few g c =
    let look = look_in g.A.Aggregator.meaning c.self.inside.slots in
    let few = lists_few look c.self.inside.none c.self.inside.keys.sets c.self.inside.keys.aliases c.self.invariant.0 in
    rw (← c.self.view_is) (omega (arith, few, c.keys.ensures, length-map c.self.inside.keys.sets (entry_at look)))
