use Rattle.std.proofs.Common.{ap, refl, ◌∙◌, cond, None}
use Rattle.std.specs.Option.{option_map}
use Rattle.otel_aggregate.specs.value_map.Slots.{look_in, forgotten}
use Rattle.otel_aggregate.proofs.value_map.KeyedLemmas.{same_number}
use Rattle.otel_aggregate.proofs.value_map.LeftLemmas.{kept-drained}
use Rattle.otel_aggregate.proofs.value_map.table.Table.drain.Goals as goal

pub invariant_of-self : goal.invariant_of-self
invariant_of-self g c =
    let look = look_in g.A.Aggregator.meaning c.self.inside.slots in
    let none = c.self.inside.none in
    let left = c.clear_others.ensures.look none ∙ ap (λ b. cond b (option_map forgotten (look none)) None) (same_number none) in
    let laws = kept-drained look (look_in g.A.Aggregator.meaning c.clear_others.new.slots) none c.self.inside.keys.sets c.self.inside.keys.aliases c.self.invariant.0 left in
    rw (c.clear.ensures.sets, c.clear.ensures.aliases) (laws, refl)
