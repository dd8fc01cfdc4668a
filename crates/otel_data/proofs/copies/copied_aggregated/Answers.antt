use Rattle.std.proofs.Common.{ap}
use Rattle.otel_data.specs.declared.aggregated.AggregatedMetrics.TheVariants.{U64, I64}
use Rattle.otel_data.proofs.copies.copied_aggregated.Goals as goal

pub returns : goal.returns
returns c = elim [
  | U64 a ↦ elim [ U64 b ↦ λ k. ap U64 (c.copied_data.ensures.unsigned a b k) | I64 b ↦ λ k. absurd k ]
  | I64 a ↦ elim [ U64 b ↦ λ k. absurd k | I64 b ↦ λ k. ap I64 (c.copied_data.ensures.signed a b k) ]
]
