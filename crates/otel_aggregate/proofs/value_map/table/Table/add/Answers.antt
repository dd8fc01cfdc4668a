use Rattle.std.proofs.Common.{◌∙◌, ap, sym, List, ◌∷◌, [], ◌++◌, Some}
use Rattle.std.specs.Option.{option_or}
use Rattle.otel_aggregate.specs.value_map.Keyed.{Slotted, IsNew, IsSpelling}
use Rattle.otel_aggregate.specs.value_map.Slots.{look_in, kept_of, Keyed, table_at, entry_of}
use Rattle.otel_aggregate.proofs.value_map.AddLemmas.{kept-added, table-added, over-pushed}
use Rattle.otel_aggregate.proofs.value_map.table.Table.add.Goals as goal

pub invariant_of-self : goal.invariant_of-self
invariant_of-self g c =
    let new : IsNew c.self.inside.keys.sets c.args.set = rw (← c.self.view_is) at c.requires.new in
    let can : IsSpelling c.self.inside.keys.aliases c.args.set c.args.list = rw (← c.self.view_is) at c.requires.spelling in
    let laws = kept-added (look_in g.A.Aggregator.meaning c.self.inside.slots) (look_in g.A.Aggregator.meaning c.fill-number.new.slots) c.self.inside.none c.self.inside.keys.sets c.self.inside.keys.aliases c.args.set c.fill-number.result (kept_of g.A.Aggregator.meaning c.args.slot)
    c.self.invariant.0 c.fill-number.ensures.vacant c.fill-number.ensures.look c.requires.lasting new c.args.list can in
    rw (c.add.ensures.sets, c.add.ensures.aliases) (laws, c.or-self-inside.ensures ∙ (λ i. option_or (c.then_some.ensures i) (c.self.invariant.1 i)) ∙ sym (over-pushed c.args.slot.lasting c.args.set c.self.inside.keys.sets c.fill-number.result c.requires.lasting new.absent))

pub returns-clause-table : goal.returns-clause-table
returns-clause-table g c =
    let other = look_in g.A.Aggregator.meaning c.fill-number.new.slots in
    let new : IsNew c.self.inside.keys.sets c.args.set = rw (← c.self.view_is) at c.requires.new in
    ap (λ (es : List Keyed). table_at other c.self.inside.none es) c.add.ensures.sets
    ∙ table-added (look_in g.A.Aggregator.meaning c.self.inside.slots) other c.self.inside.none c.self.inside.keys.sets c.self.inside.keys.aliases c.args.set c.fill-number.result (kept_of g.A.Aggregator.meaning c.args.slot)
    c.self.invariant.0 c.fill-number.ensures.vacant c.fill-number.ensures.look c.requires.lasting new
    ∙ ap (λ (t : Slotted). record t.table { entries = t.table.entries ++ entry_of c.args.set (Some (kept_of g.A.Aggregator.meaning c.args.slot)) ∷ [] }) c.self.view_is
