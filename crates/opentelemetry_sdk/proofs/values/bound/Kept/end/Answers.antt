use Rattle.std.proofs.Common.{[]}
use Rattle.otel_model.specs.Calls as model
use Rattle.opentelemetry_sdk.proofs.KeptRuns.{kept_named}
use Rattle.opentelemetry_sdk.proofs.values.bound.Kept.end.Goals as goal

pub returns-clause-readers : goal.returns-clause-readers
returns-clause-readers g c = kept_named _ [] _ (model.Call.Unbind c.args.self.now.handle.number) _ _ (λ own. c.unbind-ended.ensures.step own []) c.unbind-ended.ensures.foreign
