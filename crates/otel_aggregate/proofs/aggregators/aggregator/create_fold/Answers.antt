use Rattle.std.proofs.Common.{sym, ◌∙◌, ◌≡◌, subst, IfOk}
use Rattle.otel_model_stream.specs.Folds.{Fold}
use Rattle.otel_aggregate.proofs.aggregators.FoldLaws.{folded-none}
use Rattle.otel_aggregate.proofs.aggregators.aggregator.create_fold.Goals as goal

pub returns-clause-fold : goal.returns-clause-fold
returns-clause-fold g c =
    let none = sym (folded-none (g.A.Aggregator.empty c.args.config.now) ∙ g.met.A.Aggregator.cleared_empty c.args.config.now) in
    let P : Fold → Type 0 = λ m. IfOk c.create.result (λ made. g.A.Aggregator.meaning made ≡ m) in
    subst P none c.create.ensures.empty
