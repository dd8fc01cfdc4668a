use Rattle.std.proofs.Common.{◌≡◌, ◌<◌, ◌∙◌, ap, refl, sym, arith, ℕ, true, false, not, ◌&&◌, List, get_or, length, option_map, slice_get}
use Rattle.std.proofs.lemmas.List.Folds.{list_all_more}
use Rattle.otel_model.specs.Calls.{or_else}
use Rattle.otel_model.specs.Demands.{Demand, is_drop}
use Rattle.opentelemetry_sdk.specs.pipeline.Known.{is_known_to, knows}
use Rattle.opentelemetry_sdk.specs.pipeline.Streams.{StreamContents, contents_prepared, without_pending}
use Rattle.opentelemetry_sdk.proofs.pipeline.Known.{knows-at}
use Rattle.opentelemetry_sdk.proofs.pipeline.Writes.{changed-more, length-seen, seen_same}
use Rattle.opentelemetry_sdk.proofs.pipeline.each_stream.prepare_known_each.Goals as goal
use Rattle.opentelemetry_sdk.proofs.pipeline.each_stream.prepare_known_each.Goals.{then-is_drop-via-then-is_drop, then-is_drop-via-else-is_drop+then-not-prepare_known}

pub returns-then-is_drop-clause-same : goal.returns-then-is_drop-clause-same
returns-then-is_drop-clause-same c =
    let new : List StreamContents = c.loop-k.streams.items in
    let n : ℕ = get_or c.args.feeds.now c.loop-k.k-index 0 in
    let x : StreamContents = c.index_mut-stream.result.now in
    elim c.then-is_drop.branch [
      | then-is_drop-via-then-is_drop w ↦ rw w.streams-is (seen_same without_pending new n x x x c.index_mut-stream.ensures.value refl ∙ c.loop-k.invariant.same)
      | then-is_drop-via-else-is_drop+then-not-prepare_known w ↦ rw w.streams-is (seen_same without_pending new n x x w.prepare_known.new.self c.index_mut-stream.ensures.value w.prepare_known.ensures.same ∙ c.loop-k.invariant.same)
    ]

-- the stream of the next number knows them, and they are prepared there
pub loop-k-preserved : goal.loop-k-preserved
loop-k-preserved c =
    let l = c.args.attributes.now in
    let ns : List ℕ = c.args.feeds.now in
    let old : List StreamContents = c.args.streams.now.items in
    let new : List StreamContents = c.loop-k.streams.items in
    let i : ℕ = c.loop-k.k-index in
    let n : ℕ = get_or ns i 0 in
    let x : StreamContents = c.index_mut-stream.result.now in
    let y : StreamContents = c.prepare_known.new.self in
    let so_far = c.loop-k.invariant in
    let told = c.if-not-prepare_known.false in
    let inside : n < length new = omega (arith, c.requires i 0 c.loop-k-test.true, length-seen without_pending without_pending new old so_far.same) in
    let kept : is_drop x.stream.demand.aggregation ≡ false = sym (c.is_drop.ensures ∙ ap (λ (d : Demand). is_drop d.aggregation) c.demand.ensures) ∙ c.if-is_drop.false in
    let known : is_known_to l x.stream ≡ true = c.prepare_known.ensures.known told in
    let here : knows l x ≡ true = λ j. not (kept j) && known j in
    record {
      known = list_all_more (λ m. or_else (option_map (knows l) (slice_get old m)) true) ns i 0 c.loop-k-test.true ∙ λ j. so_far.known j && (knows-at l old new n x so_far.knows inside c.index_mut-stream.ensures.value ∙ here) j;
      knows = seen_same (knows l) new n x x y c.index_mut-stream.ensures.value (ap (knows l) (c.prepare_known.ensures.ready told)) ∙ so_far.knows;
      same = seen_same without_pending new n x x y c.index_mut-stream.ensures.value c.prepare_known.ensures.same ∙ so_far.same;
      done = changed-more (contents_prepared l) ns old new i x y c.requires c.loop-k-test.true c.index_mut-stream.ensures.value (c.prepare_known.ensures.ready told) so_far.done;
    }
