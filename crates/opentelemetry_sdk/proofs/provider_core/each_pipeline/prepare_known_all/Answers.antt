use Rattle.std.proofs.Common.{◌≡◌, ◌∙◌, ap, refl, sym, subst, arith, ℕ, true, ◌&&◌, List, get_or, take}
use Rattle.std.specs.List.{list_all, AllByRecursion as EachOf}
use Rattle.std.proofs.lemmas.List.{get_or_default, map-id, take_all, take_more}
use Rattle.std.proofs.lemmas.List.Folds.{list_all-map, list_all_more}
use Rattle.otel_common.specs.declared.attributes.KeyValue.{KeyValue}
use Rattle.otel_model.specs.Places.{Listed, IsPlaced}
use Rattle.otel_model.specs.State.{ReaderPart}
use Rattle.otel_model.proofs.Amounts.{each_map, each_push}
use Rattle.opentelemetry_sdk.specs.pipeline.Known.{is_known_at}
use Rattle.opentelemetry_sdk.specs.pipeline.Pipelines.{Piped, changed_by, part_of}
use Rattle.opentelemetry_sdk.specs.pipeline.Streams.{contents_prepared}
use Rattle.opentelemetry_sdk.proofs.pipeline.PipelinesLemmas.{done-all, done-more}
use Rattle.opentelemetry_sdk.proofs.pipeline.Writes.{seen_same}
use Rattle.opentelemetry_sdk.proofs.provider_core.each_pipeline.prepare_known_all.Goals as goal

-- each stream of the reader has a place for them
abbrev Placed : ℕ → List KeyValue → Piped → Type 0
Placed n l p = EachOf (IsPlaced (part_of p).feeds (Listed n l)) (part_of p).streams

pub returns-then-not-prepare_known-clause-same : goal.returns-then-not-prepare_known-clause-same
returns-then-not-prepare_known-clause-same c =
    seen_same part_of c.loop-i.pipelines c.loop-i.i c.index-pipelines-i.result (get_or c.loop-i.pipelines c.loop-i.i c.index-pipelines-i.result) c.prepare_known.new.self refl c.prepare_known.ensures.same
    ∙ c.loop-i.invariant.same

-- one reader more
pub loop-i-preserved : goal.loop-i-preserved
loop-i-preserved c =
    let n : ℕ = c.args.instrument in
    let l : List KeyValue = c.args.attributes.now in
    let old : List Piped = c.args.pipelines.now in
    let new : List Piped = c.loop-i.pipelines in
    let d : Piped = c.index-pipelines-i.result in
    let i : ℕ = c.loop-i.i in
    let so_far = c.loop-i.invariant in
    let told = c.if-not-prepare_known.false in
    let same : get_or new i d ≡ get_or old i d = so_far.done.rest i (omega arith) d in
    let here : is_known_at n l (part_of (get_or old i d)) ≡ true = (λ j. is_known_at n l (part_of (sym same j))) ∙ c.prepare_known.ensures.known told in
    record {
      known = list_all_more (λ (p : Piped). is_known_at n l (part_of p)) old i d c.loop-i-test.true ∙ λ j. so_far.known j && here j;
      placed = subst (EachOf (Placed n l)) (sym (take_more old i d c.loop-i-test.true)) (each_push (Placed n l) (take i old) (get_or old i d) so_far.placed (subst (Placed n l) same (c.prepare_known.ensures.placed told)));
      done = done-more (λ (p : Piped). p) (changed_by (contents_prepared l) n) old new i c.prepare_known.new.self (omega (arith, so_far.done.long))
          (λ e. c.prepare_known.ensures.ready told ∙ ap (changed_by (contents_prepared l) n) (same ∙ get_or_default old i d e c.loop-i-test.true))
          so_far.done;
      same = seen_same part_of new i d (get_or new i d) c.prepare_known.new.self refl c.prepare_known.ensures.same ∙ so_far.same;
    }

pub returns-clause-ready : goal.returns-clause-ready
returns-clause-ready c = λ told.
    (let f = changed_by (contents_prepared c.args.attributes.now) c.args.instrument in
    sym (map-id c.loop-i.pipelines) ∙ done-all (λ (p : Piped). p) f c.args.pipelines.now c.loop-i.pipelines c.loop-i.i (omega arith) c.loop-i.invariant.done)

pub returns-clause-known : goal.returns-clause-known
returns-clause-known c = λ told.
    (let n : ℕ = c.args.instrument in
    let l : List KeyValue = c.args.attributes.now in
    let old : List Piped = c.args.pipelines.now in
    list_all-map (is_known_at n l) part_of old
    ∙ (ap (list_all (λ (p : Piped). is_known_at n l (part_of p))) (sym (take_all c.loop-i.i old (omega (arith, c.loop-i-test.false)))) ∙ c.loop-i.invariant.known))

pub returns-clause-placed : goal.returns-clause-placed
returns-clause-placed c = λ told.
    each_map (Placed c.args.instrument c.args.attributes.now) (λ (p : ReaderPart). EachOf (IsPlaced p.feeds (Listed c.args.instrument c.args.attributes.now)) p.streams) part_of c.args.pipelines.now (λ p all. all)
    (subst (EachOf (Placed c.args.instrument c.args.attributes.now)) (take_all c.loop-i.i c.args.pipelines.now (omega (arith, c.loop-i-test.false))) c.loop-i.invariant.placed)
