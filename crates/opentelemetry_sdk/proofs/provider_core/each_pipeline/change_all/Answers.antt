use Rattle.std.proofs.Common.{◌≡◌, ◌∙◌, ap, arith, sym, subst, ℕ, List, get_or, take}
use Rattle.std.specs.List.{AllByRecursion as EachOf}
use Rattle.std.proofs.lemmas.List.{get_or_default, map-id, take_all, take_more}
use Rattle.std.proofs.lemmas.Simd.{map-map}
use Rattle.otel_model.specs.Machine.{part_after_call}
use Rattle.otel_model.proofs.Amounts.{each_push}
use Rattle.opentelemetry_sdk.specs.pipeline.Handles.{StandsFor}
use Rattle.opentelemetry_sdk.specs.pipeline.Pipelines.{IsLawful, Piped, changed_by, part_of}
use Rattle.opentelemetry_sdk.specs.pipeline.Streams.{contents_after}
use Rattle.opentelemetry_sdk.proofs.pipeline.PipelinesLemmas.{done-all, done-more}
use Rattle.opentelemetry_sdk.proofs.provider_core.each_pipeline.change_all.Goals as goal

pub returns-clause-parts : goal.returns-clause-parts
returns-clause-parts c = λ next call makes. done-all part_of (λ (p : Piped). part_after_call next call (part_of p)) c.args.pipelines.now c.loop-i.pipelines c.loop-i.i (omega arith) (c.loop-i.invariant.parts next call makes) ∙ sym (map-map (part_after_call next call) part_of c.args.pipelines.now)

pub returns-clause-streams : goal.returns-clause-streams
returns-clause-streams c = sym (map-id c.loop-i.pipelines) ∙ done-all (λ (p : Piped). p) (changed_by (contents_after c.args.change) c.args.instrument) c.args.pipelines.now c.loop-i.pipelines c.loop-i.i (omega arith) c.loop-i.invariant.streams

pub returns-clause-lawful : goal.returns-clause-lawful
returns-clause-lawful c = subst (EachOf IsLawful) (take_all c.loop-i.i c.args.pipelines.now (omega (arith, c.loop-i-test.false))) c.loop-i.invariant.lawful

-- one reader more
pub loop-i-preserved : goal.loop-i-preserved
loop-i-preserved c =
    let n : ℕ = c.args.instrument in
    let old : List Piped = c.args.pipelines.now in
    let d : Piped = c.index-pipelines-i.result in
    let i : ℕ = c.loop-i.i in
    let so_far = c.loop-i.invariant in
    let now = c.change-in-loop-i in
    let same : get_or c.loop-i.pipelines i d ≡ get_or old i d = so_far.streams.rest i (omega arith) d in
    record {
      parts = λ next call makes. done-more part_of (λ (p : Piped). part_after_call next call (part_of p)) old c.loop-i.pipelines i now.new.self (omega (arith, so_far.streams.long))
          (λ e. now.ensures.part next call (subst (StandsFor n c.args.change next call) (sym same) (makes i d c.loop-i-test.true)) ∙ ap (λ p. part_after_call next call (part_of p)) (same ∙ get_or_default old i d e c.loop-i-test.true))
          (so_far.parts next call makes);
      streams = done-more (λ (p : Piped). p) (changed_by (contents_after c.args.change) n) old c.loop-i.pipelines i now.new.self (omega (arith, so_far.streams.long))
          (λ e. now.ensures.streams ∙ ap (changed_by (contents_after c.args.change) n) (same ∙ get_or_default old i d e c.loop-i-test.true))
          so_far.streams;
      lawful = subst (EachOf IsLawful) (sym (take_more old i d c.loop-i-test.true)) (each_push IsLawful (take i old) (get_or old i d) so_far.lawful (subst IsLawful same now.ensures.lawful));
    }
