use Rattle.std.proofs.Common.{refl, ap, ◌∙◌}
use Rattle.otel_model_stream.specs.Entries.{drop_handle, at_entry}
use Rattle.otel_aggregate.specs.value_map.Keyed.{Slotted}
use Rattle.otel_aggregate.specs.value_map.Slots.{released}
use Rattle.otel_aggregate.specs.value_map.Numbers.{number_of, is_number}
use Rattle.otel_aggregate.proofs.value_map.TouchLemmas.{table-touched, table-untouched, counted-touched}
use Rattle.otel_aggregate.proofs.value_map.table.Table.release.Goals as goal

pub returns-clause-table : goal.returns-clause-table
returns-clause-table g c = λ s e.
    table-touched released drop_handle (λ s k. refl) (λ k. refl) (λ k. refl) _ _ c.args.number c.release.ensures.look c.self.inside.none c.self.inside.keys.sets c.self.inside.keys.aliases s c.self.invariant.0
    (ap (λ (t : Slotted). number_of s t.numbers) c.self.view_is ∙ e)
    ∙ ap (λ (t : Slotted). at_entry s drop_handle t.table) c.self.view_is

pub returns-clause-counted : goal.returns-clause-counted
returns-clause-counted g c =
    rw (← c.self.view_is) (counted-touched released drop_handle (λ s k. refl) (λ k. refl) (λ k. refl) _ _ c.args.number c.release.ensures.look c.self.inside.keys.sets)

pub returns-clause-unknown : goal.returns-clause-unknown
returns-clause-unknown g c = λ e.
    table-untouched released drop_handle (λ s k. refl) (λ k. refl) (λ k. refl) _ _ c.args.number c.release.ensures.look c.self.inside.none c.self.inside.keys.sets
    (ap (λ (t : Slotted). is_number c.args.number t.numbers) c.self.view_is ∙ e)
    ∙ ap (λ (t : Slotted). t.table) c.self.view_is
