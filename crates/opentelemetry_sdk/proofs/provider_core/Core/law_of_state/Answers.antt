use Rattle.otel_model.proofs.Booked.{balances_law}
use Rattle.opentelemetry_sdk.specs.Cores.{state_in}
use Rattle.opentelemetry_sdk.proofs.provider_core.Core.law_of_state.Goals as goal

pub returns : goal.returns
returns c = rw (← c.self.view_is) (record { balances = balances_law (state_in c.self.inside) c.self.invariant.lawful; lawful = c.self.invariant.lawful })
