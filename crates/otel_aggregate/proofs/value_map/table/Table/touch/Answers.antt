use Rattle.std.proofs.Common.{refl, ap, ◌∙◌}
use Rattle.otel_model_stream.specs.Entries.{write, at_entry}
use Rattle.otel_aggregate.specs.value_map.Keyed.{Slotted}
use Rattle.otel_aggregate.specs.value_map.Slots.{written}
use Rattle.otel_aggregate.specs.value_map.Numbers.{number_of, is_number}
use Rattle.otel_aggregate.proofs.value_map.TouchLemmas.{table-touched, table-untouched, counted-touched}
use Rattle.otel_aggregate.proofs.value_map.table.Table.touch.Goals as goal

pub returns-clause-table : goal.returns-clause-table
returns-clause-table g c = λ s e.
    let v = g.A.Aggregator.sample c.args.value in
    table-touched (written v) (write v) (λ s k. refl) (λ k. refl) (λ k. refl) _ _ c.args.number c.touch.ensures.look c.self.inside.none c.self.inside.keys.sets c.self.inside.keys.aliases s c.self.invariant.0
    (ap (λ (t : Slotted). number_of s t.numbers) c.self.view_is ∙ e)
    ∙ ap (λ (t : Slotted). at_entry s (write v) t.table) c.self.view_is

pub returns-clause-counted : goal.returns-clause-counted
returns-clause-counted g c =
    let v = g.A.Aggregator.sample c.args.value in
    rw (← c.self.view_is) (counted-touched (written v) (write v) (λ s k. refl) (λ k. refl) (λ k. refl) _ _ c.args.number c.touch.ensures.look c.self.inside.keys.sets)

pub returns-clause-unknown : goal.returns-clause-unknown
returns-clause-unknown g c = λ e.
    let v = g.A.Aggregator.sample c.args.value in
    table-untouched (written v) (write v) (λ s k. refl) (λ k. refl) (λ k. refl) _ _ c.args.number c.touch.ensures.look c.self.inside.none c.self.inside.keys.sets
    (ap (λ (t : Slotted). is_number c.args.number t.numbers) c.self.view_is ∙ e)
    ∙ ap (λ (t : Slotted). t.table) c.self.view_is
