use Rattle.std.proofs.Common.{Ok, Err, arith, map, refl, subst, []}
use Rattle.otel_stream.specs.Runs.{Ran, RanAll}
use Rattle.otel_model.specs.Calls as model
use Rattle.otel_model.specs.Steps.{Step}
use Rattle.opentelemetry_sdk.specs.Correspondence.{observed_of}
use Rattle.opentelemetry_sdk.specs.Providers.{views_of}
use Rattle.opentelemetry_sdk.specs.Typed.{collected_reply}
use Rattle.opentelemetry_sdk.proofs.StepLemmas.{lent_as}
use Rattle.otel_model.proofs.Kept.{kept_at_once}
use Rattle.opentelemetry_sdk.proofs.provider.Provider.collected.Goals as goal

-- the callbacks come back as they were lent. They answered a fault
pub returns-in-Err-clause-ran : goal.returns-in-Err-clause-ran
returns-in-Err-clause-ran g c = λ none. (
  Err c.in-Err.fault,
  lent_as (λ before after. RanAll (Ran g.P.ObserveU64.ObserveU64.observes g.P.ObserveI64.ObserveI64.observes) before after (Err c.in-Err.fault)) c.args.self.now.callbacks.len _ _ c.run_callbacks.new.callbacks _ (omega arith) c.deref_mut.ensures.value c.in-Err.ensures,
  (refl, refl),
)

-- or they gave what they observed, and the answer is that of a step
pub returns-clause-ran : goal.returns-clause-ran
returns-clause-ran g c = λ none.
    let views = views_of g.P.View.View.answer c.args.self.now in (
      Ok c.in-Ok.observations.items,
      lent_as (λ before after. RanAll (Ran g.P.ObserveU64.ObserveU64.observes g.P.ObserveI64.ObserveI64.observes) before after (Ok c.in-Ok.observations.items)) c.args.self.now.callbacks.len _ _ c.run_callbacks.new.callbacks _ (omega arith) c.deref_mut.ensures.value c.in-Ok.ensures,
      subst (λ os. Step views c.args.self.now.core.state (model.Call.Collect c.args.reader c.args.now (map observed_of os)) (collected_reply c.collect-collected.result) c.collect-collected.new.self.state) c.deref.ensures.value (c.collect-collected.ensures.step views),
    )

pub returns-clause-readers : goal.returns-clause-readers
returns-clause-readers g c = kept_at_once [] _ (model.Call.Collect c.args.reader c.args.now (map observed_of c.deref.result.now)) _ _ (c.collect-collected.ensures.step [])
