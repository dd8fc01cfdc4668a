use Rattle.std.proofs.Common.{◌≡◌, ℕ, ◌+◌, ◌%◌, ◌^◌, ◌<◌, ℤ, List, length, Bool, cond, sym, ap, ◌∙◌, rules}
use Rattle.std.proofs.lemmas.List.{with_items_is}
use Rattle.otel_model_stream.specs.Folds.{bounds_of}
use Rattle.otel_aggregate.specs.Any.{aggregate_of}
use Rattle.otel_aggregate.specs.AnyKept.{spread_in, sum_with, least_with, greatest_with, counts_with}
use Rattle.otel_aggregate.proofs.SpreadLemmas.{spread_with}
use Rattle.otel_aggregate.proofs.any_aggregator.AnyBuckets.update_each.Goals as goal
use Rattle.otel_aggregate.proofs.any_aggregator.AnyBuckets.update_each.Goals.{then-totals, else-totals}

pub returns : goal.returns
returns c =
    let old = c.args.self.now in
    let values = c.args.values.now in
    let σ = aggregate_of c.args.settings.now in
    let fits : old.buckets.count < 2 ^ 64 = search rules in
    let sum = λ (has_sum : Bool). cond has_sum (sum_with old.buckets.sum values) old.buckets.sum in
    let totals : c.if-totals.totals ≡ record old.buckets { count = (old.buckets.count + length values) % 2 ^ 64; sum = sum old.buckets.has_sum } =
    elim c.if-totals.branch [
      | then-totals w ↦ w.totals-is ∙ (λ j. record old.buckets { count = (old.buckets.count + length values) % 2 ^ 64; sum = (w.sum_of-totals.ensures ∙ ap sum (sym w.if-totals.true)) j })
      | else-totals w ↦ w.totals-is ∙ (λ j. record old.buckets { count = (old.buckets.count + length values) % 2 ^ 64; sum = ap sum (sym w.if-totals.false) j })
    ] in
    let items : c.deref_mut.result.now ≡ old.buckets.counts.items = c.deref_mut.ensures.value ∙ ap (λ t. t.counts.items) totals in
    let counts =
    with_items_is c.if-totals.totals.counts c.count_each.new.counts (c.count_each.auto.counts ∙ c.deref_mut.ensures.len)
    ∙ c.count_each.ensures
    ∙ ap (λ (bounds : List ℤ). counts_with bounds c.deref_mut.result.now values) c.bounds.ensures.value
    ∙ ap (λ (ns : List ℕ). counts_with (bounds_of σ) ns values) items in
    ap spread_in c.update_range.ensures
    ∙ (λ j. record {
      has_min_max = old.has_min_max;
      has_sum = (totals j).has_sum;
      count = (totals j).count;
      sum = (totals j).sum;
      least = cond old.has_min_max (least_with old.least values) old.least;
      greatest = cond old.has_min_max (greatest_with old.greatest values) old.greatest;
      counts = counts j;
    })
    ∙ sym (spread_with σ values (spread_in old) fits)
