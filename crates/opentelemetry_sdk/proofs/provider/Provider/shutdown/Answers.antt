use Rattle.std.proofs.Common.{[]}
use Rattle.otel_model.specs.Calls as model
use Rattle.otel_model.proofs.Kept.{kept_at_once}
use Rattle.opentelemetry_sdk.proofs.provider.Provider.shutdown.Goals as goal

pub returns-clause-readers : goal.returns-clause-readers
returns-clause-readers g c = kept_at_once [] _ model.Call.Shutdown _ _ (c.shutdown-ended.ensures.step [])
