use Rattle.std.proofs.Common.{◌≡◌, ◌∙◌, ◌<◌, ap, arith, refl, sym, subst, [], List, ℕ, get_or, length, set, slice_get}
use Rattle.std.proofs.lemmas.Option.{slice_get_read}
use Rattle.otel_model_stream.specs.Totals.{has_number}
use Rattle.otel_model.specs.Calls.{or_else}
use Rattle.opentelemetry_sdk.specs.pipeline.Pipelines.{IsLawful, AreNumbers, Piped, changed_each, part_of}
use Rattle.opentelemetry_sdk.specs.pipeline.Streams.{StreamContents, contents_after_record, without_pending}
use Rattle.opentelemetry_sdk.proofs.pipeline.Answered.{answer_of, records}
use Rattle.opentelemetry_sdk.proofs.pipeline.Known.{fed-known}
use Rattle.opentelemetry_sdk.proofs.pipeline.Once.{number-there}
use Rattle.std.proofs.lemmas.Result.{on_err_weaker, on_ok_weaker}
use Rattle.opentelemetry_sdk.proofs.pipeline.Outcomes.{either}
use Rattle.opentelemetry_sdk.proofs.pipeline.PipelineLemmas.{settled-part, sound-same}
use Rattle.opentelemetry_sdk.proofs.pipeline.Records.{fed-numbers, taken-sent}
use Rattle.opentelemetry_sdk.proofs.pipeline.Writes.{changed-alone, seen_same}
use Rattle.opentelemetry_sdk.proofs.pipeline.Pipeline.record.Goals as goal

pub invariant_of-self : goal.invariant_of-self
invariant_of-self c =
    let old : List StreamContents = c.self.inside.streams.items in
    let k : ℕ = get_or c.streams_fed-feeds.result.now 0 0 in
    let x : StreamContents = c.index_mut.result.now in
    sound-same c.self.inside.answers c.self.inside.identities.keys c.self.inside.feeds.items old (set old k c.record.new.self)
    (seen_same answer_of old k x x c.record.new.self c.index_mut.ensures.value (either c.record.result (λ (is : c.record.new.self ≡ contents_after_record c.args.value c.args.attributes.now x). ap answer_of is ∙ records c.args.value c.args.attributes.now x) (λ (same : without_pending c.record.new.self ≡ without_pending x). ap answer_of same) c.record.ensures.ok c.record.ensures.err)) c.self.invariant

-- the record is sent to the one stream that the instrument feeds
pub returns-then-feeds-eq1-clause-ok : goal.returns-then-feeds-eq1-clause-ok
returns-then-feeds-eq1-clause-ok c =
    let p : Piped = record { answers = c.self.inside.answers; streams = c.self.inside.streams.items; feeds = c.self.inside.feeds.items; hash_seed = c.self.inside.hasher.seed } in
    let lawful : IsLawful p = rw (← c.self.view_is) at c.law_of_identities.ensures in
    let ns : List ℕ = c.streams_fed-feeds.result.now in
    let x : StreamContents = c.index_mut.result.now in
    let f : StreamContents → StreamContents = contents_after_record c.args.value c.args.attributes.now in
    let fed = c.streams_fed-feeds.ensures ∙ ap (λ g. or_else (slice_get g c.args.instrument) []) c.deref.ensures.value in
    let all : AreNumbers p.streams ns = subst (AreNumbers p.streams) (sym fed) (fed-numbers p.streams p.feeds c.args.instrument lawful.numbers) in
    on_ok_weaker c.record.result (λ is. rw (← c.self.view_is) (ap (λ ks. part_of (record p { streams = ks })) (changed-alone f ns p.streams x c.record.new.self c.if-feeds-eq1.true all c.index_mut.ensures.value is ∙ ap (λ ms. changed_each f ms p.streams) fed)
    ∙ taken-sent c.args.instrument c.args.value c.args.attributes.now p lawful (rw (← c.self.view_is) at c.requires))) c.record.ensures.ok

pub returns-then-feeds-eq1-clause-err : goal.returns-then-feeds-eq1-clause-err
returns-then-feeds-eq1-clause-err c =
    let old : List StreamContents = c.self.inside.streams.items in
    let k : ℕ = get_or c.streams_fed-feeds.result.now 0 0 in
    let x : StreamContents = c.index_mut.result.now in
    on_err_weaker c.record.result (λ same. rw (← c.self.view_is) (settled-part c.self.inside.answers (set old k c.record.new.self) old c.self.inside.feeds.items (seen_same without_pending old k x x c.record.new.self c.index_mut.ensures.value same))) c.record.ensures.err

-- the number that the instrument feeds is that of a stream whose identity it feeds
pub returns-then-feeds-eq1-clause-known : goal.returns-then-feeds-eq1-clause-known
returns-then-feeds-eq1-clause-known c =
    let p : Piped = record { answers = c.self.inside.answers; streams = c.self.inside.streams.items; feeds = c.self.inside.feeds.items; hash_seed = c.self.inside.hasher.seed } in
    let lawful : IsLawful p = rw (← c.self.view_is) at c.law_of_identities.ensures in
    let ns : List ℕ = c.streams_fed-feeds.result.now in
    let fed = c.streams_fed-feeds.ensures ∙ ap (λ g. or_else (slice_get g c.args.instrument) []) c.deref.ensures.value in
    let all : AreNumbers p.streams ns = subst (AreNumbers p.streams) (sym fed) (fed-numbers p.streams p.feeds c.args.instrument lawful.numbers) in
    let one : 0 < length ns = omega (arith, c.if-feeds-eq1.true) in
    rw (← c.self.view_is) (λ known. c.record.ensures.known (fed-known c.args.attributes.now p lawful c.args.instrument known (get_or ns 0 0) c.index_mut.result.now
    (slice_get_read p.streams (length p.streams) (get_or ns 0 0) c.index_mut.result.now refl (all 0 0 one) c.index_mut.ensures.value) (ap (has_number (get_or ns 0 0)) (sym fed) ∙ number-there ns 0 0 one)))
