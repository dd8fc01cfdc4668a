use Rattle.std.proofs.Common.{[]}
use Rattle.otel_model.proofs.Kept.{kept_at_once}
use Rattle.otel_model.specs.Calls as model
use Rattle.opentelemetry_sdk.specs.Providers.{views_of}
use Rattle.opentelemetry_sdk.proofs.provider.Provider.meter_with_scope.Goals as goal

-- with the provider's views
pub returns-clause-step : goal.returns-clause-step
returns-clause-step g c = c.in_ok-given.ensures.step (views_of g.P.View.View.answer c.args.self.now)

pub returns-clause-readers : goal.returns-clause-readers
returns-clause-readers g c = kept_at_once [] _ (model.Call.Meter c.args.scope) _ _ (c.meter-given.ensures.step [])

pub returns-in_err-given-clause-readers : goal.returns-in_err-given-clause-readers
returns-in_err-given-clause-readers g c = kept_at_once [] _ (model.Call.Meter c.args.scope) _ _ (c.meter-given.ensures.step [])
