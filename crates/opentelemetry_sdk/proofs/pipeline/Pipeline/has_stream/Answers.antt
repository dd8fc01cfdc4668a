use Rattle.std.proofs.Common.{◌∙◌, ap, not, sym, [], slice_get}
use Rattle.otel_model.specs.Calls.{or_else}
use Rattle.opentelemetry_sdk.specs.pipeline.Pipelines.{some_stream}
use Rattle.opentelemetry_sdk.proofs.pipeline.Records.{some-or-none, streams-fed}
use Rattle.opentelemetry_sdk.proofs.pipeline.Pipeline.has_stream.Goals as goal

-- identities are fed as numbers are
pub returns : goal.returns
returns c =
    let ks = c.self.inside.streams.items in
    let feeds = c.self.inside.feeds.items in
    let n = c.args.instrument in
    rw (← c.self.view_is) (ap not c.is_empty.ensures ∙ (some-or-none c.streams_fed.result.now
    ∙ (ap some_stream (c.streams_fed.ensures ∙ ap (λ f. or_else (slice_get f n) []) c.deref.ensures.value)
    ∙ sym (streams-fed c.self.inside.answers ks feeds n c.self.invariant.1))))
