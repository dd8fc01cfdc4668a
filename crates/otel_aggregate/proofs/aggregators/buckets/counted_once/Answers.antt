use Rattle.std.proofs.Common.{sym, ap, ◌∙◌, sum_by, ℕ}
use Rattle.otel_model_stream.specs.Folds.{Fold, wrap}
use Rattle.otel_model_stream.specs.Laws.{bucket_counts}
use Rattle.otel_model_stream.specs.Totals.{weight}
use Rattle.otel_model_stream.proofs.Buckets.{buckets_are}
use Rattle.otel_aggregate.proofs.aggregators.buckets.counted_once.Goals as goal

pub returns : goal.returns
returns g c = λ bound bounds has_min_max has_sum values e.
    ap (λ (f : Fold). wrap (sum_by (λ (n : ℕ). n) (bucket_counts f))) e
    ∙ buckets_are bound bounds has_min_max has_sum values
    ∙ ap weight (sym e)
