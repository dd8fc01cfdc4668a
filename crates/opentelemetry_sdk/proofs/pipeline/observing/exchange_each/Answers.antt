use Rattle.std.proofs.Common.{◌∙◌, ◌<◌, ◌++◌, None, Option, add-one, ap, arith, length, length-set, replicate, sym}
use Rattle.std.proofs.lemmas.List.{append-nil, drop_all, take_all}
use Rattle.otel_aggregate.specs.Any.{DraftContents}
use Rattle.opentelemetry_sdk.specs.pipeline.Observations.{drafted_all}
use Rattle.opentelemetry_sdk.proofs.pipeline.Drafted.{back-more, drafted-back, drafts-few, fits-at, fits-back, fits-set, left-more, none-drafted}
use Rattle.opentelemetry_sdk.proofs.pipeline.observing.exchange_each.Goals as goal

pub index_mut-requires : goal.index_mut-requires
index_mut-requires c = omega (arith, drafts-few c.loop-n.drafts.items c.loop-n.streams.items c.loop-n.n (omega (arith, c.loop-n.invariant.many, c.len-n-end.ensures)) c.loop-n.invariant.fits)

pub exchange-requires : goal.exchange-requires
exchange-requires c = fits-at c.loop-n.drafts.items c.loop-n.streams.items c.loop-n.n c.index_mut-draft.result.now c.index_mut.result.now (omega (arith, c.loop-n.invariant.many, c.len-n-end.ensures)) c.index_mut-draft.ensures.value c.index_mut.ensures.value c.loop-n.invariant.fits

pub loop-n-preserved : goal.loop-n-preserved
loop-n-preserved c =
    let ds = c.loop-n.drafts.items in
    let ks = c.loop-n.streams.items in
    let n = c.loop-n.n in
    let o = c.index_mut-draft.result.now in
    let p = c.exchange.new.draft in
    let k = c.index_mut.result.now in
    let m = c.exchange.new.self in
    let h : n < length ds = omega (arith, c.loop-n.invariant.many, c.len-n-end.ensures) in
    let g : n < length ks = drafts-few ds ks n h c.loop-n.invariant.fits in
    record {
      left = rw add-one (left-more ds ks n o p k m h g c.index_mut-draft.ensures.value c.index_mut.ensures.value c.exchange.ensures.stream ∙ c.loop-n.invariant.left);
      back = rw add-one (back-more ds ks n p k m h g c.index_mut.ensures.value (drafted-back o p k m c.exchange.ensures.draft c.exchange.ensures.stream) ∙ c.loop-n.invariant.back);
      fits = fits-set ds ks n p m (fits-back o p k m c.exchange.ensures.draft c.exchange.ensures.stream (fits-at ds ks n o k h c.index_mut-draft.ensures.value c.index_mut.ensures.value c.loop-n.invariant.fits)) c.loop-n.invariant.fits;
      many = omega (arith, c.loop-n.invariant.many, length-set {A = Option DraftContents});
    }

pub returns-clause-drafted : goal.returns-clause-drafted
returns-clause-drafted c =
    let ks = c.loop-n.streams.items in
    let n = c.loop-n.n in
    sym (ap (λ l. drafted_all (replicate n None ++ l) ks) (drop_all n c.loop-n.drafts.items (omega (arith, c.loop-n-test.false, c.len-n-end.ensures, c.loop-n.invariant.many))) ∙ ap (λ l. drafted_all l ks) (append-nil (replicate n None)) ∙ none-drafted n ks)
    ∙ c.loop-n.invariant.left

pub returns-clause-back : goal.returns-clause-back
returns-clause-back c = ap (λ l. drafted_all l c.loop-n.streams.items) (sym (take_all c.loop-n.n c.loop-n.drafts.items (omega (arith, c.loop-n-test.false, c.len-n-end.ensures, c.loop-n.invariant.many)))) ∙ c.loop-n.invariant.back
