use Rattle.std.proofs.Common.{◌∙◌, sym, ap, fold, List}
use Rattle.std.specs.Option.{option_copied}
use Rattle.otel_data.specs.declared.numbers.NumberValue.{NumberValue}
use Rattle.otel_model_stream.specs.Folds.{Aggregate, Last, Sample, Spreads, Total, record_fold, record_spread}
use Rattle.otel_aggregate.specs.Any.{aggregate_of, samples_of}
use Rattle.otel_aggregate.specs.AnyKept.{fold_in, spread_in}
use Rattle.otel_aggregate.specs.declared.any_aggregator.AnyAggregator.{AnyAggregator}
use Rattle.otel_aggregate.specs.declared.any_aggregator.AnyBuckets.{AnyBuckets}
use Rattle.otel_aggregate.proofs.EachLemmas.{last-each, spread-each, total-each}
use Rattle.otel_aggregate.proofs.any_aggregator.AnyAggregator.update_each.Goals as goal

pub returns-in-Sum : goal.returns-in-Sum
returns-in-Sum c =
    let σ : Aggregate = aggregate_of c.args.settings.now in
    let vs : List NumberValue = c.args.values.now in
    ap Total c.sum_of.ensures
    ∙ sym (total-each σ c.in-Sum.sum vs)
    ∙ ap (λ (a : AnyAggregator). fold record_fold (fold_in a) (samples_of σ vs)) (sym c.in-Sum.is)

pub returns-in-Some : goal.returns-in-Some
returns-in-Some c =
    let σ : Aggregate = aggregate_of c.args.settings.now in
    let vs : List NumberValue = c.args.values.now in
    ap Last c.bits_of.ensures
    ∙ sym (last-each σ c.in-LastValue.last vs c.in-Some.value.now (sym c.last.ensures.value ∙ ap option_copied c.in-Some.is))
    ∙ ap (λ (a : AnyAggregator). fold record_fold (fold_in a) (samples_of σ vs)) (sym c.in-LastValue.is)

pub returns-in-Histogram : goal.returns-in-Histogram
returns-in-Histogram c =
    let vs : List Sample = samples_of (aggregate_of c.args.settings.now) c.args.values.now in
    ap Spreads (c.update_each.ensures ∙ ap (λ (b : AnyBuckets). fold record_spread (spread_in b) vs) c.deref_mut.ensures.value)
    ∙ sym (spread-each (spread_in c.in-Histogram.buckets.value) vs)
    ∙ ap (λ (a : AnyAggregator). fold record_fold (fold_in a) vs) (sym c.in-Histogram.is)
