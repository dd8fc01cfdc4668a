use Rattle.std.proofs.Common.{map}
use Rattle.opentelemetry_sdk.proofs.provider_core.Core.step_other.Goals as goal

pub returns-in-Ok-clause-step : goal.returns-in-Ok-clause-step
returns-in-Ok-clause-step g c = rw c.in-Meter.is (c.in-Ok.ensures.step (map g.V.View.answer c.args.views.now))

-- the identity is the core's own
pub returns-in-Ok-bind-clause-step : goal.returns-in-Ok-bind-clause-step
returns-in-Ok-bind-clause-step g c = rw c.in-Bind.is (rw c.as_slice.ensures at (c.in-Ok-bind.ensures.step c.identity-identity.ensures (map g.V.View.answer c.args.views.now)))

pub returns-in-Ok-collect-clause-step : goal.returns-in-Ok-collect-clause-step
returns-in-Ok-collect-clause-step g c = rw c.in-Collect.is (rw c.as_slice-in-Collect.ensures at (c.in-Ok-collect.ensures.step (map g.V.View.answer c.args.views.now)))
