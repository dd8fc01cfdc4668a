use Rattle.std.proofs.Common.{ap, sym, ◌∙◌}
use Rattle.otel_model_stream.specs.Folds.{record_fold}
use Rattle.otel_model_stream.proofs.FoldLaws.{folded-push}
use Rattle.otel_aggregate.proofs.aggregators.aggregator.update_fold.Goals as goal

pub returns : goal.returns
returns g c = λ config samples e.
    let value = g.A.Aggregator.sample c.args.value in
    c.update.ensures ∙ ap (λ m. record_fold m value) e ∙ sym (folded-push (g.A.Aggregator.empty config) samples value)
