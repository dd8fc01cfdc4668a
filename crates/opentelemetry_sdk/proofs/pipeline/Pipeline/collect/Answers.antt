use Rattle.std.proofs.Common.{◌≡◌, ◌∙◌, sym, subst, List, ℕ}
use Rattle.std.proofs.lemmas.Simd.{map-map}
use Rattle.opentelemetry_sdk.specs.pipeline.Observations.{AreObservableIn, observed_all}
use Rattle.opentelemetry_sdk.specs.pipeline.Pipelines.{IsLawful, Piped, all_without_pending, all_after_collection}
use Rattle.opentelemetry_sdk.specs.pipeline.Streams.{StreamContents, contents_after_collection}
use Rattle.opentelemetry_sdk.proofs.pipeline.Answered.{answer_of, answers-observed, answers-settled}
use Rattle.opentelemetry_sdk.proofs.pipeline.Handles.{observable-in}
use Rattle.opentelemetry_sdk.proofs.pipeline.Observes.{observed-finished, observed-is}
use Rattle.std.proofs.lemmas.Result.{on_ok_weaker, on_err_weaker}
use Rattle.opentelemetry_sdk.proofs.pipeline.Outcomes.{either, IfOk-both}
use Rattle.opentelemetry_sdk.proofs.pipeline.PipelineLemmas.{settled-part, sound-same}
use Rattle.opentelemetry_sdk.proofs.pipeline.Pipeline.collect.Goals as goal

-- a collection keeps the demands of the streams, and one that is refused does
pub invariant_of-self : goal.invariant_of-self
invariant_of-self c =
    let old : List StreamContents = c.self.inside.streams.items in
    let new : List StreamContents = c.collect_observed.new.streams.items in
    let observed : List StreamContents = observed_all c.deref.result.now c.args.observations.now old in
    sound-same c.self.inside.answers c.self.inside.identities.keys c.self.inside.feeds.items old new
    (either c.collect_observed.result
    (λ (e : all_without_pending new ≡ all_without_pending (all_after_collection c.args.now observed)).
    answers-settled new (all_after_collection c.args.now observed) e ∙ map-map answer_of (contents_after_collection c.args.now) observed ∙ answers-observed c.deref.result.now c.args.observations.now old)
    (λ (e : all_without_pending new ≡ all_without_pending old). answers-settled new old e)
    c.collect_observed.ensures.streams c.collect_observed.ensures.undone)
    c.self.invariant

-- what takes observations in is observable
pub collect_observed-requires-clause-observable : goal.collect_observed-requires-clause-observable
collect_observed-requires-clause-observable c =
    let p : Piped = record { answers = c.self.inside.answers; streams = c.self.inside.streams.items; feeds = c.self.inside.feeds.items; hash_seed = c.self.inside.hasher.seed } in
    let lawful : IsLawful p = rw (← c.self.view_is) at c.law_of_identities.ensures in
    subst (λ (ns : List (List ℕ)). AreObservableIn ns c.args.observations.now p.streams) (sym c.deref.ensures.value) (observable-in c.args.observations.now p lawful (rw (← c.self.view_is) at c.requires.observable))

pub returns-clause-collection : goal.returns-clause-collection
returns-clause-collection c =
    let p : Piped = record { answers = c.self.inside.answers; streams = c.self.inside.streams.items; feeds = c.self.inside.feeds.items; hash_seed = c.self.inside.hasher.seed } in
    let lawful : IsLawful p = rw (← c.self.view_is) at c.law_of_identities.ensures in
    rw (← c.self.view_is) (IfOk-both c.collect_observed.result
    (λ x r e. observed-is c.args.resource.now c.args.meters.now.keys c.args.now c.args.observations.now p x lawful (rw (← c.self.view_is) at c.requires.typed) c.self.invariant.2 r (rw c.deref.ensures.value at e))
    c.collect_observed.ensures.resource c.collect_observed.ensures.scopes)

pub returns-clause-ok : goal.returns-clause-ok
returns-clause-ok c =
    let p : Piped = record { answers = c.self.inside.answers; streams = c.self.inside.streams.items; feeds = c.self.inside.feeds.items; hash_seed = c.self.inside.hasher.seed } in
    let lawful : IsLawful p = rw (← c.self.view_is) at c.law_of_identities.ensures in
    rw (← c.self.view_is) (on_ok_weaker c.collect_observed.result
    (λ e r. observed-finished r c.args.now c.args.observations.now p c.collect_observed.new.streams.items lawful (rw (← c.self.view_is) at c.requires.typed) c.self.invariant.2 (rw c.deref.ensures.value at e))
    c.collect_observed.ensures.streams)

pub returns-clause-err : goal.returns-clause-err
returns-clause-err c =
    rw (← c.self.view_is) (on_err_weaker c.collect_observed.result (λ e. settled-part c.self.inside.answers c.collect_observed.new.streams.items c.self.inside.streams.items c.self.inside.feeds.items e) c.collect_observed.ensures.undone)
