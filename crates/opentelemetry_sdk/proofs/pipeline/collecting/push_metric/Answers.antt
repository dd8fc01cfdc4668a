use Rattle.std.proofs.Common.{◌≡◌, ◌∙◌, ◌++◌, List, [], ◌∷◌, true, false, not, Some, ap, slice_get, sym}
use Rattle.std.specs.List.{list_any}
use Rattle.std.proofs.lemmas.Option.{cond_some}
use Rattle.otel_common.specs.Scopes.{scope_eq}
use Rattle.otel_data.specs.declared.collections.Metric.{Metric}
use Rattle.otel_model.specs.Collections.{has_points}
use Rattle.otel_model.specs.Demands.{Demand, is_drop}
use Rattle.opentelemetry_sdk.specs.pipeline.Streams.{shown_metric}
use Rattle.opentelemetry_sdk.proofs.pipeline.Places.{pointless, pushed-dropped, pushed-pointless, pushed-nowhere, pushed-at}
use Rattle.opentelemetry_sdk.proofs.pipeline.collecting.push_metric.Goals as goal

pub returns-then-is_drop-clause-metrics : goal.returns-then-is_drop-clause-metrics
returns-then-is_drop-clause-metrics c =
    let drops : is_drop c.args.stream.now.stream.demand.aggregation ≡ true = ap (λ (d : Demand). is_drop d.aggregation) (sym c.demand-demand.ensures) ∙ (sym c.is_drop.ensures ∙ c.if-is_drop.true) in
    sym (pushed-dropped c.args.now c.args.stream.now _ c.args.meters.now.keys (ap not drops))

pub returns-in_default-clause-metrics : goal.returns-in_default-clause-metrics
returns-in_default-clause-metrics c =
    let drops : is_drop c.args.stream.now.stream.demand.aggregation ≡ false = ap (λ (d : Demand). is_drop d.aggregation) (sym c.demand-demand.ensures) ∙ (sym c.is_drop.ensures ∙ c.if-is_drop.false) in
    let at : list_any (scope_eq c.args.stream.now.stream.demand.identity.scope) c.args.meters.now.keys ≡ false =
    ap (λ (d : Demand). list_any (scope_eq d.identity.scope) c.args.meters.now.keys) (sym c.demand-demand.ensures) ∙ c.place_near.ensures.nowhere c.in_default.is in
    sym (pushed-nowhere c.args.now c.args.stream.now _ c.args.meters.now.keys (ap not drops) at)

pub returns-in_ok-reserve_one-clause-metrics : goal.returns-in_ok-reserve_one-clause-metrics
returns-in_ok-reserve_one-clause-metrics c =
    let drops : is_drop c.args.stream.now.stream.demand.aggregation ≡ false = ap (λ (d : Demand). is_drop d.aggregation) (sym c.demand-demand.ensures) ∙ (sym c.is_drop.ensures ∙ c.if-is_drop.false) in
    let at : slice_get c.args.meters.now.keys c.in-Some.place ≡ Some c.args.stream.now.stream.demand.identity.scope = c.in-Some.ensures.there ∙ ap (λ (d : Demand). Some d.identity.scope) c.demand-demand.ensures in
    let shown = cond_some (has_points (shown_metric c.args.now c.args.stream.now)) (shown_metric c.args.now c.args.stream.now) c.in-Some-2.metric (sym c.in_ok-metric.ensures.metric ∙ c.in-Some-2.is) in
    pushed-at (λ v. v.items) c.args.now c.args.stream.now c.args.lists.now.items c.args.meters.now.keys c.in-Some.place c.index_mut-metrics.result.now c.push_reserved.new.self (ap not drops) shown.0 c.requires.long c.requires.apart at c.index_mut-metrics.ensures.value
    (◌∙◌ {A = List Metric} c.push_reserved.ensures.items (ap (λ l. l ++ c.in-Some-2.metric ∷ []) c.in_ok-reserve_one.ensures.items ∙ ap (λ m. c.index_mut-metrics.result.now.items ++ m ∷ []) (sym shown.1)))

pub returns-in_default-2-clause-metrics : goal.returns-in_default-2-clause-metrics
returns-in_default-2-clause-metrics c =
    sym (pushed-pointless c.args.now c.args.stream.now _ c.args.meters.now.keys (pointless (shown_metric c.args.now c.args.stream.now) c.in_ok-metric.field-0 c.in_ok-metric.ensures.metric c.in_default-2.is))
