use Rattle.std.proofs.Common.{◌≡◌, ◌+◌, fold, take}
use Rattle.otel_model_stream.specs.Folds.{wrap}
use Rattle.otel_model_stream.specs.Totals.{size}
use Rattle.otel_aggregate.specs.Any.{aggregate_of, amount_of}
use Rattle.otel_aggregate.proofs.settings.AnySettings.counted_each.Given as goal

abbrev pub invariant-loop-value : goal.invariant-loop-value
invariant-loop-value l = l.counted ≡ fold (λ n value. wrap (n + size (aggregate_of l.self) (amount_of value))) l.total (take l.value-index l.values)
