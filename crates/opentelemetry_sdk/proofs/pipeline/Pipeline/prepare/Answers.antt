use Rattle.std.proofs.Common.{◌∙◌, ap, sym, subst, [], List, ℕ, slice_get, All}
use Rattle.otel_model.specs.Calls.{or_else}
use Rattle.opentelemetry_sdk.specs.pipeline.Known.{IsKnownIfThere}
use Rattle.opentelemetry_sdk.specs.pipeline.Pipelines.{IsLawful, Piped, all_without_pending}
use Rattle.opentelemetry_sdk.proofs.pipeline.Answered.{answers-settled}
use Rattle.opentelemetry_sdk.proofs.pipeline.Known.{known-at}
use Rattle.opentelemetry_sdk.proofs.pipeline.PipelineLemmas.{settled-part, sound-same}
use Rattle.opentelemetry_sdk.proofs.pipeline.Pipeline.prepare.Goals as goal

pub invariant_of-self : goal.invariant_of-self
invariant_of-self c = sound-same c.self.inside.answers c.self.inside.identities.keys c.self.inside.feeds.items c.self.inside.streams.items c.prepare_each.new.streams.items (answers-settled c.prepare_each.new.streams.items c.self.inside.streams.items c.prepare_each.ensures.same) c.self.invariant

-- the model does not see which streams are ready
pub returns-clause-same : goal.returns-clause-same
returns-clause-same c = rw (← c.self.view_is) (settled-part c.self.inside.answers c.prepare_each.new.streams.items c.self.inside.streams.items c.self.inside.feeds.items c.prepare_each.ensures.same)

-- each number that the instrument feeds is that of a stream whose identity it feeds
pub returns-clause-known : goal.returns-clause-known
returns-clause-known c =
    let p : Piped = record { answers = c.self.inside.answers; streams = c.self.inside.streams.items; feeds = c.self.inside.feeds.items; hash_seed = c.self.inside.hasher.seed } in
    let lawful : IsLawful p = rw (← c.self.view_is) at c.law_of_identities.ensures in
    rw (← c.self.view_is) (λ records known. c.prepare_each.ensures.known records
    (subst (λ (ns : List ℕ). All (λ k. IsKnownIfThere c.args.attributes.now (slice_get (all_without_pending p.streams) k)) ns) (sym (c.streams_fed.ensures ∙ ap (λ f. or_else (slice_get f c.args.instrument) []) c.deref.ensures.value))
    (known-at c.args.attributes.now p lawful c.args.instrument known)))
