use Rattle.std.proofs.Common.{[]}
use Rattle.otel_model.specs.Calls as model
use Rattle.opentelemetry_sdk.specs.Correspondence.{number_of}
use Rattle.opentelemetry_sdk.proofs.KeptRuns.{kept_named}
use Rattle.opentelemetry_sdk.proofs.values.bound.Kept.add.Goals as goal

pub returns-clause-readers : goal.returns-clause-readers
returns-clause-readers g c = kept_named _ [] _ (model.Call.RecordBound c.args.self.now.handle.number (number_of c.into_value.result)) _ _ (λ own. c.record_bound-made.ensures.step own []) c.record_bound-made.ensures.foreign
