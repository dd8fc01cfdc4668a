use Rattle.std.proofs.Common.{◌∙◌, sym}
use Rattle.opentelemetry_sdk.specs.NumberValue.TheVariants.{U64}
use Rattle.opentelemetry_sdk.specs.Calls as model
use Rattle.opentelemetry_sdk.specs.Correspondence.{number_of}
use Rattle.opentelemetry_sdk.specs.Providers.{state_of, views_of}
use Rattle.opentelemetry_sdk.specs.Typed.{instrument_number, record_reply}
use Rattle.otel_example.proofs.Batches.{total_grown, record_unchanged}
use Rattle.otel_example.proofs.counted.count_batch.Goals as goal

pub returns : goal.returns
returns g c =
    let views = views_of g.P.View.View.answer c.args.provider.now in
    let old = state_of c.args.provider.now in
    let new = state_of c.add.new.provider in
    let n = instrument_number c.args.requests in
    let v = number_of (U64 c.args.number) in
    let l = c.args.attributes.now in
    let step = c.add.ensures.step c.requires in
    record {
      own = c.requires ∙ sym (c.keeps_identity.ensures.step views old (model.Call.Record n v l) (record_reply c.add.result) new step);
      grown = total_grown views old new n v l c.add.result step;
      unchanged = record_unchanged views old new n v l c.add.result step;
    }
