use Rattle.std.proofs.Common.{◌∙◌, sym, ap, map, is_some}
use Rattle.otel_aggregate.specs.value_map.Hashed.{plain}
use Rattle.otel_aggregate.specs.value_map.Slots.{look_in}
use Rattle.otel_aggregate.proofs.All.{all-filter, filter-map}
use Rattle.otel_aggregate.proofs.value_map.key_table.KeyTable.keep_filled.Goals as goal

pub invariant_of-self : goal.invariant_of-self
invariant_of-self g c = rw (c.keep_filled.ensures, c.keep_filled-2.ensures) (all-filter _ _ _ c.self.invariant.0, all-filter _ _ _ c.self.invariant.1)

pub returns-clause-sets : goal.returns-clause-sets
returns-clause-sets g c =
    rw (← c.self.view_is) (ap (map plain) c.keep_filled.ensures ∙ sym (filter-map plain (λ e. is_some (look_in g.A.Aggregator.meaning c.args.slots.now e.1)) c.self.inside.sets.entries))

pub returns-clause-aliases : goal.returns-clause-aliases
returns-clause-aliases g c =
    rw (← c.self.view_is) (ap (map plain) c.keep_filled-2.ensures ∙ sym (filter-map plain (λ e. is_some (look_in g.A.Aggregator.meaning c.args.slots.now e.1)) c.self.inside.aliases.entries))
