use Rattle.std.proofs.Common.{◌≡◌, ◌∙◌, ◌++◌, ◌∷◌, [], ◌+◌, ◌<◌, ℕ, List, drop, length, map, take, sym, ap, subst, arith}
use Rattle.std.proofs.lemmas.List.{drop_all, drop_more, map_more, map-id, take_all}
use Rattle.otel_data.specs.declared.numbers.NumberValue.{NumberValue}
use Rattle.otel_model.specs.Batches.{written_each}
use Rattle.otel_model.specs.Calls.{Number}
use Rattle.otel_model.specs.State.{State}
use Rattle.opentelemetry_sdk.specs.Batches.{AreReadyIn, IsIn}
use Rattle.opentelemetry_sdk.specs.Groups.{AreOfOneType, listed_at, with_numbers}
use Rattle.opentelemetry_sdk.specs.pipeline.Pipelines.{Piped, part_of}
use Rattle.opentelemetry_sdk.proofs.Grouping.{each-get, written-more}
use Rattle.opentelemetry_sdk.proofs.metrics.shared.batch.record_groups.Goals as goal
use Rattle.opentelemetry_sdk.proofs.metrics.shared.batch.record_groups.Goals.{After-get-place}

-- the next series and its values
module _ (c : After-get-place) where
  abbrev next : ℕ × List NumberValue
  next = (c.get-place.result.0, c.get-place.result.1.now)

  below : c.loop-number.number < length c.args.groups.now.groups
  below = omega (arith, c.len-number-end.ensures)

  fits : (next.0 < length c.args.waiting.now.series) × AreOfOneType next.1
  fits = subst (λ (g : ℕ × List NumberValue). (g.0 < length c.args.waiting.now.series) × AreOfOneType g.1) (sym c.get-place.ensures)
      (each-get (λ (g : ℕ × List NumberValue). (g.0 < length c.args.waiting.now.series) × AreOfOneType g.1) c.args.groups.now.groups c.loop-number.number (0, []) below c.requires.within)

  abbrev rest : List (ℕ × List NumberValue)
  rest = drop (c.loop-number.number + 1) c.args.groups.now.groups

  left : drop c.loop-number.number c.args.groups.now.groups ≡ next ∷ rest
  left = drop_more c.args.groups.now.groups c.loop-number.number (0, []) below ∙ ap (λ (g : ℕ × List NumberValue). g ∷ rest) (sym c.get-place.ensures)

  -- the provider so far
  abbrev so_far : List (ℕ × List Number)
  so_far = map with_numbers (take c.loop-number.number c.args.groups.now.groups)

  abbrev mid : State → State
  mid st = written_each (listed_at c.args.waiting.now.series) so_far st

  ready : (st : State) → AreReadyIn c.args.waiting.now.series c.args.groups.now.groups st c.args.pipelines.now c.args.instruments.now.items
      → AreReadyIn c.args.waiting.now.series (next ∷ rest) (mid st) c.loop-number.pipelines c.loop-number.instruments.items
  ready st old = subst (λ gs. AreReadyIn c.args.waiting.now.series gs (mid st) c.loop-number.pipelines c.loop-number.instruments.items) left (c.loop-number.invariant st old)

  next-taken : map with_numbers (take (c.loop-number.number + 1) c.args.groups.now.groups) ≡ so_far ++ with_numbers next ∷ []
  next-taken = map_more with_numbers c.args.groups.now.groups c.loop-number.number (0, []) below ∙ ap (λ (g : ℕ × List NumberValue). so_far ++ with_numbers g ∷ []) (sym c.get-place.ensures)

pub record_group-requires-clause-within : goal.record_group-requires-clause-within
record_group-requires-clause-within c = (fits (goal.at.record_group-requires-clause-within c).After-get-place).0

pub record_group-requires-clause-alike : goal.record_group-requires-clause-alike
record_group-requires-clause-alike c = (fits (goal.at.record_group-requires-clause-alike c).After-get-place).1

pub record_group-requires-clause-known : goal.record_group-requires-clause-known
record_group-requires-clause-known c =
    let w = (goal.at.record_group-requires-clause-known c).After-get-place in
    (mid w c.requires.ready.0, rest w, ready w c.requires.ready.0 c.requires.ready.1)

pub loop-number-preserved : goal.loop-number-preserved
loop-number-preserved c = λ st old.
    let w = (goal.at.loop-number-preserved c).After-get-place in
    subst (λ x. AreReadyIn c.args.waiting.now.series (rest w) x c.record_group.new.pipelines c.record_group.new.instruments.items)
    (sym (ap (λ gs. written_each (listed_at c.args.waiting.now.series) gs st) (next-taken w) ∙ written-more (listed_at c.args.waiting.now.series) (so_far w) (with_numbers (next w)) st))
    (c.record_group.ensures (mid w st) (rest w) (ready w st old))

pub returns : goal.returns
returns c = λ st old.
    let ss = c.args.waiting.now.series in
    let gs : List (ℕ × List NumberValue) = c.args.groups.now.groups in
    let all = c.loop-number.invariant st old in
    let done : AreReadyIn ss [] (written_each (listed_at ss) (map with_numbers gs) st) c.loop-number.pipelines c.loop-number.instruments.items =
    subst (λ gs. AreReadyIn ss [] (written_each (listed_at ss) (map with_numbers gs) st) c.loop-number.pipelines c.loop-number.instruments.items) (take_all c.loop-number.number gs (omega (arith, c.len-number-end.ensures)))
    (subst (λ hs. AreReadyIn ss hs (written_each (listed_at ss) (map with_numbers (take c.loop-number.number gs)) st) c.loop-number.pipelines c.loop-number.instruments.items) (drop_all c.loop-number.number gs (omega (arith, c.len-number-end.ensures))) all) in
    subst (λ (ps : List Piped). IsIn (written_each (listed_at ss) (map with_numbers gs) st) (map part_of ps) c.loop-number.instruments.items) (sym (done.prepared ∙ map-id done.readers)) done.inside
