use Rattle.std.specs.Prelude.{map}
use Rattle.opentelemetry_sdk.specs.Correspondence.{call_of, reply_of}
use Rattle.opentelemetry_sdk.specs.Providers.{state_of, views_of}
use Rattle.otel_example.proofs.Lists.{list_grown}
use Rattle.otel_example.proofs.listed.make_records.Goals as goal

pub returns : goal.returns
returns g c =
    let views = views_of g.P.View.View.answer c.args.provider.now in
    let old = state_of c.args.provider.now in
    let new = state_of c.run.new.self in
    record {
      run = c.run.ensures.run;
      grown = list_grown (λ replies. map reply_of replies.items) views old new (map call_of c.args.records.now) c.run.result c.requires c.run.ensures.run;
      unmade = c.run.ensures.unmade;
    }
