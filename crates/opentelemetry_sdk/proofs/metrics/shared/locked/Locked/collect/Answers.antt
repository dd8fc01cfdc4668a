use Rattle.std.proofs.Common.{Ok, Err, arith, map, refl, subst, []}
use Rattle.otel_stream.specs.Runs.{Ran, RanAll}
use Rattle.otel_model.specs.Calls as model
use Rattle.otel_model.specs.Steps.{Step}
use Rattle.opentelemetry_sdk.specs.Correspondence.{fault_of, observed_of}
use Rattle.opentelemetry_sdk.proofs.StepLemmas.{lent_as}
use Rattle.otel_model.proofs.Kept.{kept_at_once}
use Rattle.opentelemetry_sdk.proofs.metrics.shared.locked.Locked.collect.Goals as goal

-- the callbacks come back as they were lent. They answered a fault
pub returns-in-Err-clause-ran : goal.returns-in-Err-clause-ran
returns-in-Err-clause-ran g c = λ none. (
  Err c.in-Err.fault,
  lent_as (λ before after. RanAll (Ran g.P.ObserveU64.ObserveU64.observes g.P.ObserveI64.ObserveI64.observes) before after (Err c.in-Err.fault)) c.args.self.now.callbacks.len _ _ c.run_callbacks.new.callbacks _ (omega arith) c.deref_mut.ensures.value c.in-Err.ensures,
  (refl, refl),
)

-- or they gave what they observed, and there is a collection
pub returns-in-Ok-collected-clause-ran : goal.returns-in-Ok-collected-clause-ran
returns-in-Ok-collected-clause-ran g c = λ none.
    let views = map g.P.View.View.answer c.args.self.now.views.items in (
      Ok c.in-Ok.observations.items,
      lent_as (λ before after. RanAll (Ran g.P.ObserveU64.ObserveU64.observes g.P.ObserveI64.ObserveI64.observes) before after (Ok c.in-Ok.observations.items)) c.args.self.now.callbacks.len _ _ c.run_callbacks.new.callbacks _ (omega arith) c.deref_mut.ensures.value c.in-Ok.ensures,
      subst (λ os. Step views c.args.self.now.booked.core.state (model.Call.Collect c.args.reader c.args.now (map observed_of os)) (model.Reply.Collected c.in-Ok-collected.collected) c.collect-collected.new.self.core.state) c.deref.ensures.value (c.in-Ok-collected.ensures.step views),
    )

-- or none
pub returns-clause-ran : goal.returns-clause-ran
returns-clause-ran g c = λ none.
    let views = map g.P.View.View.answer c.args.self.now.views.items in (
      Ok c.in-Ok.observations.items,
      lent_as (λ before after. RanAll (Ran g.P.ObserveU64.ObserveU64.observes g.P.ObserveI64.ObserveI64.observes) before after (Ok c.in-Ok.observations.items)) c.args.self.now.callbacks.len _ _ c.run_callbacks.new.callbacks _ (omega arith) c.deref_mut.ensures.value c.in-Ok.ensures,
      subst (λ os. Step views c.args.self.now.booked.core.state (model.Call.Collect c.args.reader c.args.now (map observed_of os)) (model.Reply.Refused (fault_of c.in-Err-collected.fault)) c.collect-collected.new.self.core.state) c.deref.ensures.value (c.in-Err-collected.ensures.step views),
    )

pub returns-in-Ok-collected-clause-readers : goal.returns-in-Ok-collected-clause-readers
returns-in-Ok-collected-clause-readers g c = kept_at_once [] _ (model.Call.Collect c.args.reader c.args.now (map observed_of c.deref.result.now)) _ _ (c.collect-collected.ensures.step [])

pub returns-clause-readers : goal.returns-clause-readers
returns-clause-readers g c = kept_at_once [] _ (model.Call.Collect c.args.reader c.args.now (map observed_of c.deref.result.now)) _ _ (c.collect-collected.ensures.step [])
