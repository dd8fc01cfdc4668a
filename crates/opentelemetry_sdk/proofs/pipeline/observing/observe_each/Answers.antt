use Rattle.std.proofs.Common.{◌≡◌, ◌∙◌, ◌<◌, suc, List, Option, ap, sym, subst, refl, arith, add-one, length, length-set, drop, drop-cons, get_or}
use Rattle.std.proofs.lemmas.List.{drop_all, length-replicate, take_all}
use Rattle.std.proofs.lemmas.Option.{slice_get_read}
use Rattle.otel_aggregate.specs.Any.{DraftContents}
use Rattle.opentelemetry_sdk.specs.pipeline.Observations.{AreDraftsOf, AreObservable, drafted_all, observed_all, observing_numbers}
use Rattle.opentelemetry_sdk.specs.pipeline.Pipelines.{all_without_pending, changed_each}
use Rattle.opentelemetry_sdk.specs.pipeline.Streams.{StreamContents, contents_after_record, without_pending}
use Rattle.opentelemetry_sdk.proofs.pipeline.Drafted.{drafted-set, fed-inside, fits-at, fits-set, none-drafted, none-fits, observable-same, observed-more}
use Rattle.opentelemetry_sdk.proofs.pipeline.Writes.{seen_same}
use Rattle.opentelemetry_sdk.proofs.pipeline.observing.observe_each.Goals as goal

pub loop-observation-init : goal.loop-observation-init
loop-observation-init c =
    let e = c.loop.invariant in
    let ks = c.args.streams.now.items in
    let many : c.loop.counter ≡ length ks = omega (arith, c.loop-test.false, c.loop.auto.counter-end, c.len-end.ensures, c.args.streams.now.ok.0) in
    record {
      same = refl;
      long = ap length e ∙ (length-replicate _ _ ∙ many);
      fits = subst (λ ds. AreDraftsOf ds ks) (sym e) (none-fits c.loop.counter ks many);
      observed = ap (λ ds. drafted_all ds ks) e ∙ none-drafted c.loop.counter ks;
    }

pub index_mut-draft-requires : goal.index_mut-draft-requires
index_mut-draft-requires c = omega (arith, c.loop-k.invariant.long, fed-inside c.args.streams.now.items c.loop-k.streams.items c.args.feeds.now c.observation-item.result.instrument c.loop-k.k-index c.streams_fed-numbers.result.now c.requires.numbers c.streams_fed-numbers.ensures c.loop-k-test.true (c.loop-k.invariant.same ∙ c.loop-observation.invariant.same))

pub index_mut-requires : goal.index_mut-requires
index_mut-requires c = omega (arith, fed-inside c.args.streams.now.items c.loop-k.streams.items c.args.feeds.now c.observation-item.result.instrument c.loop-k.k-index c.streams_fed-numbers.result.now c.requires.numbers c.streams_fed-numbers.ensures c.loop-k-test.true (c.loop-k.invariant.same ∙ c.loop-observation.invariant.same))

pub observe-requires-clause-observable : goal.observe-requires-clause-observable
observe-requires-clause-observable c =
    let old = c.args.streams.now.items in
    let now = c.loop-k.streams.items in
    let fed = subst (AreObservable old) (ap (observing_numbers c.args.feeds.now) (sym c.observation-item.is) ∙ sym c.streams_fed-numbers.ensures)
    (c.requires.observable c.loop-observation.observation-index c.observation-item.result c.loop-observation-test.true) in
    observable-same old now _ (sym (c.loop-k.invariant.same ∙ c.loop-observation.invariant.same)) (fed c.loop-k.k-index 0 c.loop-k-test.true) c.index_mut.result.now
    (slice_get_read now (length now) _ c.index_mut.result.now refl (fed-inside c.args.streams.now.items c.loop-k.streams.items c.args.feeds.now c.observation-item.result.instrument c.loop-k.k-index c.streams_fed-numbers.result.now c.requires.numbers c.streams_fed-numbers.ensures c.loop-k-test.true (c.loop-k.invariant.same ∙ c.loop-observation.invariant.same)) c.index_mut.ensures.value)

pub observe-requires-clause-fits : goal.observe-requires-clause-fits
observe-requires-clause-fits c =
    fits-at c.loop-k.drafts.items c.loop-k.streams.items (get_or c.streams_fed-numbers.result.now c.loop-k.k-index 0) c.index_mut-draft.result.now c.index_mut.result.now
    (omega (arith, c.loop-k.invariant.long, fed-inside c.args.streams.now.items c.loop-k.streams.items c.args.feeds.now c.observation-item.result.instrument c.loop-k.k-index c.streams_fed-numbers.result.now c.requires.numbers c.streams_fed-numbers.ensures c.loop-k-test.true (c.loop-k.invariant.same ∙ c.loop-observation.invariant.same)))
    c.index_mut-draft.ensures.value c.index_mut.ensures.value c.loop-k.invariant.fits

pub returns-in_err-observe-clause-same : goal.returns-in_err-observe-clause-same
returns-in_err-observe-clause-same c =
    seen_same without_pending c.loop-k.streams.items _ c.index_mut.result.now c.index_mut.result.now c.observe.new.self c.index_mut.ensures.value c.observe.ensures.same
    ∙ (c.loop-k.invariant.same ∙ c.loop-observation.invariant.same)

pub loop-k-preserved : goal.loop-k-preserved
loop-k-preserved c =
    let now = c.loop-k.streams.items in
    let drafts = c.loop-k.drafts.items in
    let ns = c.streams_fed-numbers.result.now in
    let n = get_or ns c.loop-k.k-index 0 in
    let inside : n < length now = fed-inside c.args.streams.now.items c.loop-k.streams.items c.args.feeds.now c.observation-item.result.instrument c.loop-k.k-index c.streams_fed-numbers.result.now c.requires.numbers c.streams_fed-numbers.ensures c.loop-k-test.true (c.loop-k.invariant.same ∙ c.loop-observation.invariant.same) in
    let f : StreamContents → StreamContents = contents_after_record c.observation-item.result.value c.observation-item.result.attributes in
    record {
      same = seen_same without_pending now n c.index_mut.result.now c.index_mut.result.now c.observe.new.self c.index_mut.ensures.value c.observe.ensures.same ∙ c.loop-k.invariant.same;
      long = omega (arith, length-set {A = Option DraftContents}, length-set {A = StreamContents}, c.loop-k.invariant.long);
      fits = fits-set drafts now n c.observe.new.draft c.observe.new.self c.in_ok-observe.ensures.fits c.loop-k.invariant.fits;
      left = rw add-one
          (ap (changed_each f (drop (suc c.loop-k.k-index) ns)) (drafted-set f drafts now n c.index_mut-draft.result.now c.observe.new.draft c.index_mut.result.now c.observe.new.self (omega (arith, inside, c.loop-k.invariant.long)) inside c.index_mut-draft.ensures.value c.index_mut.ensures.value c.in_ok-observe.ensures.observed)
          ∙ sym (ap (λ l. changed_each f l (drafted_all drafts now)) (drop-cons ns c.loop-k.k-index 0 c.loop-k-test.true))
          ∙ c.loop-k.invariant.left);
    }

pub loop-observation-preserved : goal.loop-observation-preserved
loop-observation-preserved c =
    let o = c.observation-item.result in
    let ns = c.streams_fed-numbers.result.now in
    let new : List StreamContents = drafted_all c.loop-k.drafts.items c.loop-k.streams.items in
    record {
      same = c.loop-k.invariant.same ∙ c.loop-observation.invariant.same;
      long = c.loop-k.invariant.long;
      fits = c.loop-k.invariant.fits;
      observed = observed-more c.args.feeds.now c.args.observations.now c.loop-observation.observation-index o ns c.args.streams.now.items (drafted_all c.loop-observation.drafts.items c.loop-observation.streams.items) new
          c.loop-observation-test.true c.observation-item.is c.streams_fed-numbers.ensures c.loop-observation.invariant.observed
          (sym (ap (λ l. changed_each (contents_after_record o.value o.attributes) l new) (drop_all c.loop-k.k-index ns (omega (arith, c.loop-k-test.false)))) ∙ c.loop-k.invariant.left);
    }

pub returns-clause-observed : goal.returns-clause-observed
returns-clause-observed c =
    c.loop-observation.invariant.observed
    ∙ ap (λ os. all_without_pending (observed_all c.args.feeds.now os c.args.streams.now.items)) (take_all c.loop-observation.observation-index c.args.observations.now (omega (arith, c.loop-observation-test.false)))
