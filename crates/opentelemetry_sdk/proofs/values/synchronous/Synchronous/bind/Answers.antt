use Rattle.std.proofs.Common.{[]}
use Rattle.opentelemetry_sdk.proofs.KeptRuns.{kept_named}
use Rattle.otel_model.specs.Calls as model
use Rattle.opentelemetry_sdk.specs.Providers.{views_of}
use Rattle.opentelemetry_sdk.proofs.values.synchronous.Synchronous.bind.Goals as goal

-- with the provider's views
pub returns-clause-step : goal.returns-clause-step
returns-clause-step g c = λ own. c.in_ok-bound.ensures.step own (views_of g.P.View.View.answer c.args.provider.now)

pub returns-clause-readers : goal.returns-clause-readers
returns-clause-readers g c = kept_named _ [] _ (model.Call.Bind c.args.self.now.number c.args.attributes.now) _ _ (λ own. c.bind-bound.ensures.step own []) c.bind-bound.ensures.foreign

pub returns-in_err-bound-clause-readers : goal.returns-in_err-bound-clause-readers
returns-in_err-bound-clause-readers g c = kept_named _ [] _ (model.Call.Bind c.args.self.now.number c.args.attributes.now) _ _ (λ own. c.bind-bound.ensures.step own []) c.bind-bound.ensures.foreign
