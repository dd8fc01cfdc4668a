use Rattle.std.proofs.Common.{◌≡◌, ◌∙◌, ap, sym, subst, [], List, ℕ, map, get_or, set, slice_get}
use Rattle.otel_model.specs.Calls.{Call, or_else}
use Rattle.otel_model.specs.Machine.{part_after_call}
use Rattle.opentelemetry_sdk.specs.declared.pipeline.change.Change.{Change}
use Rattle.opentelemetry_sdk.specs.pipeline.Handles.{StandsFor}
use Rattle.opentelemetry_sdk.specs.pipeline.Pipelines.{AreNumbers, IsLawful, Piped, changed_by, changed_each, fed_by, part_of}
use Rattle.opentelemetry_sdk.specs.pipeline.Streams.{StreamContents, contents_after}
use Rattle.opentelemetry_sdk.proofs.pipeline.Answered.{answer_of, changes}
use Rattle.opentelemetry_sdk.proofs.pipeline.Handles.{change-sent}
use Rattle.opentelemetry_sdk.proofs.pipeline.PipelineLemmas.{sound-same}
use Rattle.opentelemetry_sdk.proofs.pipeline.Records.{fed-numbers}
use Rattle.opentelemetry_sdk.proofs.pipeline.Writes.{changed-alone, unseen-each}
use Rattle.opentelemetry_sdk.proofs.pipeline.Pipeline.change.Goals as goal

-- what the change makes of the reader, and which call that is
all-changed : (p : Piped) (n : ℕ) (change : Change) (ns : List ℕ) (new : List StreamContents) → ns ≡ fed_by n p → new ≡ changed_each (contents_after change) ns p.streams → IsLawful p
    → record {
      streams : record p { streams = new } ≡ changed_by (contents_after change) n p;
      lawful : IsLawful p;
      part : (next : ℕ) (call : Call) → StandsFor n change next call p → part_of (record p { streams = new }) ≡ part_after_call next call (part_of p);
    }
all-changed p n change ns new fed made lawful =
    let is : record p { streams = new } ≡ changed_by (contents_after change) n p = λ i. record p { streams = (made ∙ ap (λ ms. changed_each (contents_after change) ms p.streams) fed) i } in
    record { streams = is; lawful = lawful; part = λ next call makes. ap part_of is ∙ change-sent n change next call p lawful makes }

pub change_each-requires-clause-numbers : goal.change_each-requires-clause-numbers
change_each-requires-clause-numbers c =
    subst (AreNumbers c.self.inside.streams.items) (sym (c.streams_fed-feeds.ensures ∙ ap (λ g. or_else (slice_get g c.args.instrument) []) c.deref.ensures.value)) (fed-numbers c.self.inside.streams.items c.self.inside.feeds.items c.args.instrument c.self.invariant.1)

pub invariant_of-self : goal.invariant_of-self
invariant_of-self c =
    let old : List StreamContents = c.self.inside.streams.items in
    let ns : List ℕ = c.streams_fed-feeds.result.now in
    let all : AreNumbers old ns = subst (AreNumbers old) (sym (c.streams_fed-feeds.ensures ∙ ap (λ g. or_else (slice_get g c.args.instrument) []) c.deref.ensures.value)) (fed-numbers old c.self.inside.feeds.items c.args.instrument c.self.invariant.1) in
    let made = changed-alone (contents_after c.args.change) ns old c.index_mut.result.now c.change.new.self c.if-feeds-eq1.true all c.index_mut.ensures.value c.change.ensures in
    sound-same c.self.inside.answers c.self.inside.identities.keys c.self.inside.feeds.items old (set old (get_or ns 0 0) c.change.new.self) (ap (map answer_of) made ∙ unseen-each answer_of (contents_after c.args.change) (changes c.args.change) ns old) c.self.invariant

pub invariant_of-self-2 : goal.invariant_of-self-2
invariant_of-self-2 c = sound-same c.self.inside.answers c.self.inside.identities.keys c.self.inside.feeds.items c.self.inside.streams.items c.change_each.new.streams.items (ap (map answer_of) c.change_each.ensures ∙ unseen-each answer_of (contents_after c.args.change) (changes c.args.change) c.streams_fed-feeds.result.now c.self.inside.streams.items) c.self.invariant

-- the one stream that the instrument feeds
pub returns-then-feeds-eq1 : goal.returns-then-feeds-eq1
returns-then-feeds-eq1 c =
    let p : Piped = record { answers = c.self.inside.answers; streams = c.self.inside.streams.items; feeds = c.self.inside.feeds.items; hash_seed = c.self.inside.hasher.seed } in
    let ns : List ℕ = c.streams_fed-feeds.result.now in
    let fed : ns ≡ fed_by c.args.instrument p = c.streams_fed-feeds.ensures ∙ ap (λ g. or_else (slice_get g c.args.instrument) []) c.deref.ensures.value in
    let all : AreNumbers p.streams ns = subst (AreNumbers p.streams) (sym fed) (fed-numbers p.streams p.feeds c.args.instrument c.self.invariant.1) in
    let made = changed-alone (contents_after c.args.change) ns p.streams c.index_mut.result.now c.change.new.self c.if-feeds-eq1.true all c.index_mut.ensures.value c.change.ensures in
    rw (← c.self.view_is) (all-changed p c.args.instrument c.args.change ns (set p.streams (get_or ns 0 0) c.change.new.self) fed made (rw (← c.self.view_is) at c.law_of_identities.ensures))

-- all of them
pub returns : goal.returns
returns c =
    let p : Piped = record { answers = c.self.inside.answers; streams = c.self.inside.streams.items; feeds = c.self.inside.feeds.items; hash_seed = c.self.inside.hasher.seed } in
    let fed : c.streams_fed-feeds.result.now ≡ fed_by c.args.instrument p = c.streams_fed-feeds.ensures ∙ ap (λ g. or_else (slice_get g c.args.instrument) []) c.deref.ensures.value in
    rw (← c.self.view_is) (all-changed p c.args.instrument c.args.change c.streams_fed-feeds.result.now c.change_each.new.streams.items fed c.change_each.ensures (rw (← c.self.view_is) at c.law_of_identities.ensures))
