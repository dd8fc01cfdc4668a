use Rattle.std.proofs.Common.{◌≡◌, ◌∙◌, ◌∷◌, ◌+◌, ◌-◌, ◌<◌, ℕ, [], List, drop, length, map, refl, sym, ap, subst, arith}
use Rattle.std.proofs.lemmas.List.{drop_all, drop_more, map-id}
use Rattle.std.proofs.lemmas.Simd.{map-map}
use Rattle.std.specs.List.{AllByRecursion as EachOf}
use Rattle.otel_data.specs.declared.numbers.NumberValue.{NumberValue}
use Rattle.opentelemetry_sdk.specs.Batches.{IsKnownGroup, prepared_for, prepared_of}
use Rattle.opentelemetry_sdk.specs.Groups.{AreOfOneType, series_at}
use Rattle.opentelemetry_sdk.specs.pipeline.Pipelines.{Piped}
use Rattle.opentelemetry_sdk.specs.declared.metrics.shared.series.Series.{Series}
use Rattle.opentelemetry_sdk.proofs.Grouping.{each-get}
use Rattle.opentelemetry_sdk.proofs.metrics.shared.batch.prepare_groups.Goals as goal
use Rattle.opentelemetry_sdk.proofs.metrics.shared.batch.prepare_groups.Goals.{After-get-place}

-- what the groups are asked for is so of the next one
next : (c : After-get-place) → (c.get-place.result.0 < length c.args.waiting.now.series) × AreOfOneType c.get-place.result.1.now
next c = subst (λ (g : ℕ × List NumberValue). (g.0 < length c.args.waiting.now.series) × AreOfOneType g.1) (sym c.get-place.ensures)
    (each-get (λ (g : ℕ × List NumberValue). (g.0 < length c.args.waiting.now.series) × AreOfOneType g.1) c.args.groups.now.groups (c.loop-left.left - 1) (0, []) (omega (arith, c.loop-left.invariant.within)) c.requires.within)

pub prepare_group-requires : goal.prepare_group-requires
prepare_group-requires c = let n = next (goal.at.prepare_group-requires c).After-get-place in record { within = n.0; alike = n.1 }

pub loop-left-init : goal.loop-left-init
loop-left-init c =
    let ss : List Series = c.args.waiting.now.series in
    let ps : List Piped = c.args.pipelines.now in
    let none : drop c.len-left.result c.args.groups.now.groups ≡ [] = drop_all c.len-left.result c.args.groups.now.groups (omega (arith, c.len-left.ensures)) in
    record {
      within = omega (arith, c.len-left.ensures);
      same = refl;
      prepared = sym (ap (λ hs. map (prepared_for ss hs) ps) none ∙ map-id ps);
      known = λ st inside. subst (EachOf (IsKnownGroup ss st)) (sym none) tt;
    }

-- one series more, before the others
pub loop-left-preserved : goal.loop-left-preserved
loop-left-preserved c =
    let ss : List Series = c.args.waiting.now.series in
    let ps : List Piped = c.args.pipelines.now in
    let gs : List (ℕ × List NumberValue) = c.args.groups.now.groups in
    let place : ℕ = c.get-place.result.0 in
    let g : ℕ × List NumberValue = (place, c.get-place.result.1.now) in
    let so_far = c.loop-left.invariant in
    let back : c.loop-left.left - 1 + 1 ≡ c.loop-left.left = omega arith in
    let more : drop (c.loop-left.left - 1) gs ≡ g ∷ drop c.loop-left.left gs = drop_more gs (c.loop-left.left - 1) (0, []) (omega (arith, so_far.within)) ∙ λ i. sym c.get-place.ensures i ∷ drop (back i) gs in
    record {
      within = omega (arith, so_far.within);
      same = c.prepare_group.ensures.same ∙ so_far.same;
      prepared = c.prepare_group.ensures.ready c.if-not-prepare_group.false
          ∙ ap (map (prepared_of (series_at ss place))) so_far.prepared
          ∙ map-map (prepared_of (series_at ss place)) (prepared_for ss (drop c.loop-left.left gs)) ps
          ∙ sym (ap (λ hs. map (prepared_for ss hs) ps) more);
      known = λ st inside. subst (EachOf (IsKnownGroup ss st)) (sym more)
          (c.prepare_group.ensures.known c.if-not-prepare_group.false st (record { sound = inside.sound; readers = inside.readers ∙ sym so_far.same; instruments = inside.instruments }), so_far.known st inside);
    }

pub returns-clause-ready : goal.returns-clause-ready
returns-clause-ready c = λ e st inside.
    let gs : List (ℕ × List NumberValue) = c.args.groups.now.groups in
    let none : c.loop-left.left ≡ 0 = omega arith in
    record {
      readers = c.args.pipelines.now;
      prepared = c.loop-left.invariant.prepared ∙ λ i. map (prepared_for c.args.waiting.now.series (drop (none i) gs)) c.args.pipelines.now;
      inside = inside;
      known = subst (λ n. EachOf (IsKnownGroup c.args.waiting.now.series st) (drop n gs)) none (c.loop-left.invariant.known st inside);
    }
