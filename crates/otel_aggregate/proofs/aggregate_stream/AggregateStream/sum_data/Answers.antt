use Rattle.std.proofs.Common.{◌≡◌, ◌∙◌, ◌&&◌, ap, sym, cond, Some, None, true, true≢false}
use Rattle.std.proofs.lemmas.List.{map-id}
use Rattle.otel_model_stream.specs.Entries.{points}
use Rattle.otel_aggregate.specs.Any.{observed_in}
use Rattle.otel_aggregate.specs.Data.{temporality_of}
use Rattle.otel_aggregate.specs.Observed.{ObservedState, values_now}
use Rattle.otel_aggregate.specs.Streams.{AggregateContents}
use Rattle.otel_aggregate.proofs.ObservedLemmas.{shown-data}
use Rattle.otel_aggregate.proofs.aggregate_stream.AggregateStream.sum_data.Goals as goal
use Rattle.otel_aggregate.proofs.aggregate_stream.AggregateStream.sum_data.Goals.{then-is_some, else-is_some}

pub returns-clause-observed : goal.returns-clause-observed
returns-clause-observed g c drains =
    let seen = ap observed_in c.self.view_is in
    let some = ap (λ (x : AggregateContents). x.drains) c.self.view_is ∙ drains in
    let every : c.if-is_some.every ≡ true = elim c.if-is_some.branch [ then-is_some w ↦ w.every-is ∙ c.is_some.ensures ∙ some | else-is_some w ↦ absurd (true≢false (sym some ∙ sym c.is_some.ensures ∙ w.if-is_some.false)) ] in
    c.new.ensures ∙ shown-data g.T.Number.of_bits g.T.Number.of_wide c.args.now (observed_in c.args.self.now) _ _ _ _ _ _
    (c.from-points.ensures ∙ sym (map-id _) ∙ c.in_ok-shown.ensures.points)
    (c.compared_with.ensures ∙ ap (λ b. cond (b && c.args.self.now.state.resets) (Some c.args.self.now.reported) None) drains)
    (ap (λ b. points b c.self.inside.map.state.table) every ∙ ap values_now seen)
    (ap (λ (a : ObservedState). a.stream.start) seen)
    (c.shown_temporality-temporality.ensures ∙ ap (λ (a : ObservedState). temporality_of a.stream) seen)
    (c.is_monotonic-is_monotonic.ensures ∙ ap (λ (a : ObservedState). a.stream.is_monotonic) seen)
