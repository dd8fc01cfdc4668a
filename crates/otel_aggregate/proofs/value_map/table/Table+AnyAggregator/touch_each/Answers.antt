use Rattle.std.proofs.Common.{ap, ◌∙◌, List}
use Rattle.otel_model_stream.specs.Entries.{at_entry}
use Rattle.otel_model_stream.specs.Folds.{Sample}
use Rattle.otel_aggregate.specs.Any.{aggregate_of, samples_of}
use Rattle.otel_aggregate.specs.value_map.Keyed.{Slotted}
use Rattle.otel_aggregate.specs.value_map.Slots.{written_each, write_each}
use Rattle.otel_aggregate.specs.value_map.Numbers.{number_of}
use Rattle.otel_aggregate.proofs.EachLemmas.{as-entry, same-counted, same-lasting}
use Rattle.otel_aggregate.proofs.value_map.TouchLemmas.{kept-touched, table-touched, counted-touched}
use Rattle.otel_aggregate.proofs.value_map.table.Table+AnyAggregator.touch_each.Goals as goal

pub returns-clause-table : goal.returns-clause-table
returns-clause-table c = λ s e.
    let vs : List Sample = samples_of (aggregate_of c.args.settings.now) c.args.values.now in
    table-touched (written_each vs) (write_each vs) (as-entry vs) (same-lasting vs) (same-counted vs) _ _ c.args.number c.touch_each.ensures.look c.self.inside.none c.self.inside.keys.sets c.self.inside.keys.aliases s c.self.invariant.0
    (ap (λ (t : Slotted). number_of s t.numbers) c.self.view_is ∙ e)
    ∙ ap (λ (t : Slotted). at_entry s (write_each vs) t.table) c.self.view_is

pub returns-clause-counted : goal.returns-clause-counted
returns-clause-counted c =
    let vs : List Sample = samples_of (aggregate_of c.args.settings.now) c.args.values.now in
    rw (← c.self.view_is) (counted-touched (written_each vs) (write_each vs) (as-entry vs) (same-lasting vs) (same-counted vs) _ _ c.args.number c.touch_each.ensures.look c.self.inside.keys.sets)

pub invariant_of-self : goal.invariant_of-self
invariant_of-self c =
    let vs : List Sample = samples_of (aggregate_of c.args.settings.now) c.args.values.now in
    (kept-touched (written_each vs) (write_each vs) (as-entry vs) (same-lasting vs) (same-counted vs) _ _ c.args.number c.touch_each.ensures.look c.self.inside.none c.self.inside.keys.sets c.self.inside.keys.aliases c.self.invariant.0, c.self.invariant.1)
