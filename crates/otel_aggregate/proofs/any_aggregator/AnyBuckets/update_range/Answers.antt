use Rattle.std.proofs.Common.{◌≡◌, ℤ, Bool, true, cond, Some, SFits, to_z, of_z, sym, ap, ◌∙◌, rules}
use Rattle.std.specs.Int.{w128}
use Rattle.std.proofs.lemmas.Int.{to_z-of_z}
use Rattle.otel_aggregate.specs.AnyKept.{least_with, greatest_with}
use Rattle.otel_aggregate.proofs.SpreadLemmas.{least_from-first, greatest_from-first}
use Rattle.otel_aggregate.proofs.any_aggregator.AnyBuckets.update_range.Goals as goal

same : (z : ℤ) → SFits w128 z → to_z w128 (of_z w128 z) ≡ z
same z f = to_z-of_z w128 z f

pub returns-in-Some : goal.returns-in-Some
returns-in-Some c =
    let old = c.args.self.now in
    let has : old.has_min_max ≡ true = c.if-not-self.false in
    let whole = c.in-Some.ensures.cases.0 in
    let first = same c.wide_of-first.result (search rules) in
    let l = same c.range_of-least.result.0 (search rules) in
    let g = same c.range_of-least.result.1 (search rules) in
    let m = same c.unwrap_or-least.result (search rules) in
    let n = same c.unwrap_or-greatest.result (search rules) in
    let p = least_from-first old.least c.in-Some.first.now c.in-Some.field-0-1.now in
    let q = greatest_from-first old.greatest c.in-Some.first.now c.in-Some.field-0-1.now in
    let least : Some (to_z w128 (of_z w128 c.range_of-least.result.0)) ≡ least_with old.least c.args.values.now = cc in
    let greatest : Some (to_z w128 (of_z w128 c.range_of-least.result.1)) ≡ greatest_with old.greatest c.args.values.now = cc in
    λ j. record old {
      least = (least ∙ ap (λ (b : Bool). cond b (least_with old.least c.args.values.now) old.least) (sym has)) j;
      greatest = (greatest ∙ ap (λ (b : Bool). cond b (greatest_with old.greatest c.args.values.now) old.greatest) (sym has)) j;
    }
