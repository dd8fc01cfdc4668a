use Rattle.std.proofs.Common.{◌≡◌, ◌∙◌, ap, sym, [], slice_get}
use Rattle.otel_model.specs.Calls.{or_else}
use Rattle.opentelemetry_sdk.specs.pipeline.Known.{are_known}
use Rattle.opentelemetry_sdk.specs.pipeline.Pipelines.{IsLawful, Piped, changed_each, fed_by}
use Rattle.opentelemetry_sdk.specs.pipeline.Streams.{contents_prepared}
use Rattle.opentelemetry_sdk.proofs.pipeline.Answered.{answers-settled}
use Rattle.opentelemetry_sdk.proofs.pipeline.Known.{known-fed, placed-fed}
use Rattle.opentelemetry_sdk.proofs.pipeline.PipelineLemmas.{settled-part, sound-same}
use Rattle.opentelemetry_sdk.proofs.pipeline.Pipeline.prepare_known.Goals as goal

pub invariant_of-self : goal.invariant_of-self
invariant_of-self c = sound-same c.self.inside.answers c.self.inside.identities.keys c.self.inside.feeds.items c.self.inside.streams.items c.prepare_known_each.new.streams.items (answers-settled c.prepare_known_each.new.streams.items c.self.inside.streams.items c.prepare_known_each.ensures.same) c.self.invariant

pub returns-clause-ready : goal.returns-clause-ready
returns-clause-ready c =
    let p : Piped = record { answers = c.self.inside.answers; streams = c.self.inside.streams.items; feeds = c.self.inside.feeds.items; hash_seed = c.self.inside.hasher.seed } in
    let fed : c.streams_fed-feeds.result.now ≡ fed_by c.args.instrument p = c.streams_fed-feeds.ensures ∙ ap (λ g. or_else (slice_get g c.args.instrument) []) c.deref.ensures.value in
    rw (← c.self.view_is) (λ told. (λ i. record p { streams = (c.prepare_known_each.ensures.ready told ∙ ap (λ ns. changed_each (contents_prepared c.args.attributes.now) ns p.streams) fed) i }))

-- the numbers that the instrument feeds are those of the streams whose identities it feeds
pub returns-clause-known : goal.returns-clause-known
returns-clause-known c =
    let p : Piped = record { answers = c.self.inside.answers; streams = c.self.inside.streams.items; feeds = c.self.inside.feeds.items; hash_seed = c.self.inside.hasher.seed } in
    let lawful : IsLawful p = rw (← c.self.view_is) at c.law_of_identities.ensures in
    let fed : c.streams_fed-feeds.result.now ≡ fed_by c.args.instrument p = c.streams_fed-feeds.ensures ∙ ap (λ g. or_else (slice_get g c.args.instrument) []) c.deref.ensures.value in
    rw (← c.self.view_is) (λ told. known-fed c.args.attributes.now p lawful c.args.instrument ∙ ap (are_known c.args.attributes.now p.streams) (sym fed) ∙ c.prepare_known_each.ensures.known told)

-- and each of them has the entry
pub returns-clause-placed : goal.returns-clause-placed
returns-clause-placed c =
    let p : Piped = record { answers = c.self.inside.answers; streams = c.self.inside.streams.items; feeds = c.self.inside.feeds.items; hash_seed = c.self.inside.hasher.seed } in
    let lawful : IsLawful p = rw (← c.self.view_is) at c.law_of_identities.ensures in
    let fed : c.streams_fed-feeds.result.now ≡ fed_by c.args.instrument p = c.streams_fed-feeds.ensures ∙ ap (λ g. or_else (slice_get g c.args.instrument) []) c.deref.ensures.value in
    rw (← c.self.view_is) (λ told. placed-fed c.args.attributes.now p lawful c.args.instrument
    (known-fed c.args.attributes.now p lawful c.args.instrument ∙ ap (are_known c.args.attributes.now p.streams) (sym fed) ∙ c.prepare_known_each.ensures.known told))

pub returns-clause-same : goal.returns-clause-same
returns-clause-same c = rw (← c.self.view_is) (settled-part c.self.inside.answers c.prepare_known_each.new.streams.items c.self.inside.streams.items c.self.inside.feeds.items c.prepare_known_each.ensures.same)
