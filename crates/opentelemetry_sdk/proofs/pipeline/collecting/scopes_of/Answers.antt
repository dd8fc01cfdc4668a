use Rattle.std.proofs.Common.{◌≡◌, ◌∙◌, ◌++◌, ap, sym, length, map, arith, inl, inr}
use Rattle.std.specs.Vec.Iter.{into_iter_items, into_iter_len}
use Rattle.opentelemetry_sdk.specs.pipeline.Collections.{shown_in, scopes_shown}
use Rattle.opentelemetry_sdk.proofs.pipeline.Places.{left-more, scopes-more, scopes-all}
use Rattle.opentelemetry_sdk.proofs.pipeline.Writes.{length-seen}
use Rattle.opentelemetry_sdk.proofs.pipeline.collecting.scopes_of.Goals as goal

pub loop-scope-init : goal.loop-scope-init
loop-scope-init c =
    let is = c.into_iter-scope-iterator.ensures.into_iter_gives in
    let second = c.zip-scope-items.ensures.second in
    let keys : c.into_iter-scope-iterator.result.a ≡ c.args.meters.now.keys = ap (λ z. z.a) is ∙ (c.zip-scope-items.ensures.first ∙ c.iter.ensures.rest) in
    let long = length-seen (λ v. v.items) (λ m. shown_in m c.args.now c.args.streams.now) c.in_ok-lists.lists.items c.args.meters.now.keys c.in_ok-lists.ensures.metrics in
    record {
      all = ap (λ xs. xs ++ scopes_shown c.args.now c.args.streams.now c.into_iter-scope-iterator.result.a) c.in_ok-scopes.ensures.items ∙ ap (scopes_shown c.args.now c.args.streams.now) keys;
      left = ap (λ z. map (λ v. v.items) (into_iter_items z.b)) is ∙ (ap (map (λ v. v.items)) second.0 ∙ (c.in_ok-lists.ensures.metrics ∙ ap (map (λ m. shown_in m c.args.now c.args.streams.now)) (sym keys)));
      many = ap (λ z. into_iter_len z.b) is ∙ (second.1 ∙ (c.in_ok-lists.lists.ok.0 ∙ (long ∙ ap length (sym keys))));
    }

pub loop-scope-preserved : goal.loop-scope-preserved
loop-scope-preserved c =
    let heads = left-more (λ v. v.items) (λ m. shown_in m c.args.now c.args.streams.now) (into_iter_items c.loop-scope.scope-iterator.b) (into_iter_items c.next.new.self.b) c.loop-scope.scope-iterator.a c.next.new.self.a c.in-Some.metrics c.in-Some.scope.now
    c.in-Some.ensures.steps.1.0 c.in-Some.ensures.steps.0 c.loop-scope.invariant.left in
    record {
      all = scopes-more c.args.now c.args.streams.now c.loop-scope.scopes.items c.push_scope.new.scopes.items _ c.in-Some.scope.now c.in-Some.metrics.items c.loop-scope.scope-iterator.a c.next.new.self.a c.in-Some.ensures.steps.0 heads.0
          c.in_ok-push_scope.ensures.scopes c.loop-scope.invariant.all;
      left = heads.1;
      many = omega (arith, c.in-Some.ensures.steps.1.1, c.loop-scope.invariant.many, ap length c.in-Some.ensures.steps.0);
    }

pub returns-clause-scopes : goal.returns-clause-scopes
returns-clause-scopes c =
    c.from.ensures ∙ (elim c.in-None.ensures.steps [
      | inl w ↦ scopes-all c.args.now c.args.streams.now c.loop-scope.scopes.items _ c.loop-scope.scope-iterator.a (ap length w.1.0) c.loop-scope.invariant.all
      | inr w ↦ scopes-all c.args.now c.args.streams.now c.loop-scope.scopes.items _ c.loop-scope.scope-iterator.a (sym c.loop-scope.invariant.many ∙ w.1.0) c.loop-scope.invariant.all
    ])
