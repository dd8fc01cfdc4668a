use Rattle.std.proofs.Common.{[]}
use Rattle.otel_model.specs.Calls as model
use Rattle.opentelemetry_sdk.specs.Correspondence.{number_of}
use Rattle.opentelemetry_sdk.proofs.KeptRuns.{kept_named}
use Rattle.opentelemetry_sdk.proofs.values.synchronous.Synchronous.add.Goals as goal

pub returns-clause-readers : goal.returns-clause-readers
returns-clause-readers g c = kept_named _ [] _ (model.Call.Record c.args.self.now.number (number_of c.into_value.result) c.new-given.result) _ _ (λ own. c.record-made.ensures.step own []) c.record-made.ensures.foreign
