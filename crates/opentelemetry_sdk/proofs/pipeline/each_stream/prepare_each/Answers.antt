use Rattle.std.proofs.Common.{rules, ◌≡◌, ◌<◌, ◌∙◌, ap, refl, sym, subst, List, arith, get_or, length, slice_get, Some, option_map, IfSome, IsOk}
use Rattle.std.proofs.lemmas.List.{length-map}
use Rattle.std.proofs.lemmas.Option.{slice_get-map, slice_get_read}
use Rattle.std.proofs.lemmas.List.Elements.{All-from_get_or}
use Rattle.opentelemetry_sdk.specs.pipeline.Known.{IsKnownIfThere}
use Rattle.opentelemetry_sdk.specs.pipeline.Pipelines.{IsReady, all_without_pending}
use Rattle.opentelemetry_sdk.specs.pipeline.Streams.{StreamContents, without_pending}
use Rattle.opentelemetry_sdk.proofs.pipeline.Writes.{ready-more, seen_same}
use Rattle.opentelemetry_sdk.proofs.pipeline.each_stream.prepare_each.Goals as goal

pub returns-in_err-prepare-clause-same : goal.returns-in_err-prepare-clause-same
returns-in_err-prepare-clause-same c =
    seen_same without_pending c.loop-k.streams.items (get_or c.args.feeds.now c.loop-k.k-index 0) c.index_mut.result.now c.index_mut.result.now c.prepare.new.self c.index_mut.ensures.value c.prepare.ensures.same
    ∙ c.loop-k.invariant.same

-- a stream that knows them is not refused
pub returns-in_err-prepare-clause-known : goal.returns-in_err-prepare-clause-known
returns-in_err-prepare-clause-known c = λ records known.
    (let k = get_or c.args.feeds.now c.loop-k.k-index 0 in
    let inside : k < length c.loop-k.streams.items = omega (arith, c.requires c.loop-k.k-index 0 c.loop-k-test.true, ap length c.loop-k.invariant.same, length-map {A = StreamContents} {B = StreamContents}) in
    let there : slice_get (all_without_pending c.loop-k.streams.items) k ≡ Some (without_pending c.index_mut.result.now) =
    slice_get-map without_pending c.loop-k.streams.items k ∙ ap (option_map without_pending) (slice_get_read c.loop-k.streams.items (length c.loop-k.streams.items) k c.index_mut.result.now refl inside c.index_mut.ensures.value) in
    let one : IsKnownIfThere c.args.attributes.now (Some (without_pending c.index_mut.result.now)) =
    subst (IsKnownIfThere c.args.attributes.now) (ap (λ (hs : List StreamContents). slice_get hs k) (sym c.loop-k.invariant.same) ∙ there) (known c.loop-k.k-index 0 c.loop-k-test.true) in
    let ok : IsOk c.prepare.result = c.prepare.ensures.known records one in
    search rules)

pub loop-k-preserved : goal.loop-k-preserved
loop-k-preserved c = ready-more without_pending (IsReady c.args.binds c.args.attributes.now) c.args.feeds.now c.args.streams.now.items c.loop-k.streams.items c.loop-k.k-index c.index_mut.result.now c.prepare.new.self c.index_mut.ensures.value c.prepare.ensures.same c.in_ok-prepare.ensures.ready c.loop-k.invariant

pub returns-clause-ready : goal.returns-clause-ready
returns-clause-ready c = All-from_get_or (λ n. IfSome (slice_get c.loop-k.streams.items n) (IsReady c.args.binds c.args.attributes.now)) c.args.feeds.now 0 (λ i h. c.loop-k.invariant.ready i (omega arith))
