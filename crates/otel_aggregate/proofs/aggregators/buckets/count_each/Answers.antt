use Rattle.std.proofs.Common.{ℕ, List, get_or, sym, ap, ◌∙◌}
use Rattle.std.proofs.lemmas.List.Sums.{fold_more}
use Rattle.otel_data.specs.declared.numbers.NumberValue.{NumberValue}
use Rattle.otel_data.specs.declared.numbers.NumberValue.TheVariants as number
use Rattle.otel_model_stream.specs.Folds.{bounds_below, counted_in}
use Rattle.otel_aggregate.specs.Any.{amount_of}
use Rattle.otel_aggregate.proofs.aggregators.buckets.count_each.Goals as goal

pub loop-value-preserved : goal.loop-value-preserved
loop-value-preserved c =
    let count = λ (ns : List ℕ) (value : NumberValue). counted_in ns (bounds_below c.args.bounds.now (amount_of value).wide) in
    let more = fold_more count c.args.counts.now c.args.values.now c.loop-value.value-index (number.U64 0) c.loop-value-test.true in
    c.count_in.ensures ∙ ap (counted_in c.loop-value.counts) c.bucket_among.ensures ∙ ap (λ ns. count ns (get_or c.args.values.now c.loop-value.value-index (number.U64 0))) c.loop-value.invariant ∙ sym more
