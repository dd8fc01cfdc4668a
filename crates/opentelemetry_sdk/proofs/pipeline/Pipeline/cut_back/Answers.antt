use Rattle.std.proofs.Common.{◌≡◌, ◌∙◌, ap, take, List, ℕ, All}
use Rattle.std.proofs.lemmas.List.{take-map}
use Rattle.otel_model.specs.Streams.{is_delta}
use Rattle.opentelemetry_sdk.specs.pipeline.Pipelines.{AreFedOnce, AreNumbers, identity_of, stream_identities}
use Rattle.opentelemetry_sdk.specs.pipeline.Streams.{StreamContents}
use Rattle.opentelemetry_sdk.proofs.pipeline.Meets.{each-taken}
use Rattle.opentelemetry_sdk.proofs.pipeline.Pipeline.cut_back.Goals as goal

pub invariant_of-self : goal.invariant_of-self
invariant_of-self c =
    let ks : List StreamContents = c.self.inside.streams.items in
    let feeds : List (List ℕ) = c.self.inside.feeds.items in
    let keys : c.truncate.new.self.keys ≡ stream_identities (take c.args.streams ks) = c.truncate.ensures.keys ∙ (ap (take c.args.streams) c.self.invariant.0 ∙ take-map identity_of c.args.streams ks) in
    let numbers : All (AreNumbers (take c.args.streams ks)) (take c.args.instruments feeds) = rw (← c.self.view_is) at c.requires in
    rw (c.truncate-2.ensures.items, c.truncate-3.ensures.items) (
      keys,
      numbers,
      each-taken (λ (h : StreamContents). h.resets ≡ is_delta c.self.inside.answers h.stream.demand) c.args.streams ks c.self.invariant.2,
      each-taken AreFedOnce c.args.instruments feeds c.self.invariant.3,
    )
