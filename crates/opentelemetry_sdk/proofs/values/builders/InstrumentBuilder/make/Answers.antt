use Rattle.std.proofs.Common.{map}
use Rattle.otel_model.specs.Calls as model
use Rattle.opentelemetry_sdk.proofs.KeptRuns.{kept_named}
use Rattle.opentelemetry_sdk.proofs.values.builders.InstrumentBuilder.make.Goals as goal

pub returns-clause-readers : goal.returns-clause-readers
returns-clause-readers g c =
    let b = c.args.self.now in
    kept_named _ (map g.V.View.answer c.args.views.now) _ (model.Call.Build b.meter.number (record { kind = c.kind.result; signed = c.is_signed.result; name = b.name; description = b.description; unit = b.unit; bounds = b.boundaries }) c.args.now) _ _ c.build-built.ensures.step c.build-built.ensures.foreign
