use Rattle.std.proofs.Common.{◌∙◌, ap, nat_lt, ◌∷◌, [], true, refl}
use Rattle.otel_common.specs.Canonical.{canon}
use Rattle.otel_model_stream.specs.Entries.{number_counted}
use Rattle.otel_model_stream.specs.Maps.{bound_to}
use Rattle.otel_aggregate.specs.value_map.Contents.{MapContents}
use Rattle.otel_aggregate.proofs.value_map.PlaceLemmas.{used-bound}
use Rattle.otel_aggregate.proofs.value_map.ValueMap.prepare_list.Goals as goal

pub invariant_of-self : goal.invariant_of-self
invariant_of-self g c = (c.self.invariant.0, c.self.invariant.1, (c.in-Some.ensures.plan true).sound true refl)

pub returns-in-Some-clause-ready : goal.returns-in-Some-clause-ready
returns-in-Some-clause-ready g c =
    let t = c.self.inside.table.table in
    let s = canon c.args.list.now.key in
    (c.in-Some.ensures.plan (nat_lt (number_counted t.entries) c.self.inside.limit)).pending
    ∙ ap (λ k. k ∷ []) (used-bound (record { limit = c.self.inside.limit; empty = g.A.Aggregator.empty c.self.inside.config; table = t }) s)
    ∙ ap (λ (h : MapContents). bound_to s h.state ∷ []) c.self.view_is
