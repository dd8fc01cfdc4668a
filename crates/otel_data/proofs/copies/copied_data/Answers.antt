use Rattle.std.proofs.Common.{ap}
use Rattle.otel_data.specs.declared.aggregated.MetricData.TheVariants.{Gauge, Sum, Histogram}
use Rattle.otel_data.proofs.copies.copied_data.Goals as goal

pub returns-clause-unsigned : goal.returns-clause-unsigned
returns-clause-unsigned c = elim [
  | Gauge a ↦ elim [ Gauge b ↦ λ k. ap Gauge (c.copied_lists.ensures.gauge a b k) | Sum b ↦ λ k. absurd k | Histogram b ↦ λ k. absurd k ]
  | Sum a ↦ elim [ Gauge b ↦ λ k. absurd k | Sum b ↦ λ k. ap Sum (c.copied_lists.ensures.sum a b k) | Histogram b ↦ λ k. absurd k ]
  | Histogram a ↦ elim [ Gauge b ↦ λ k. absurd k | Sum b ↦ λ k. absurd k | Histogram b ↦ λ k. ap Histogram (c.copied_lists.ensures.histogram a b k) ]
]

pub returns-clause-signed : goal.returns-clause-signed
returns-clause-signed c = elim [
  | Gauge a ↦ elim [ Gauge b ↦ λ k. ap Gauge (c.copied_signed_lists.ensures.gauge a b k) | Sum b ↦ λ k. absurd k | Histogram b ↦ λ k. absurd k ]
  | Sum a ↦ elim [ Gauge b ↦ λ k. absurd k | Sum b ↦ λ k. ap Sum (c.copied_signed_lists.ensures.sum a b k) | Histogram b ↦ λ k. absurd k ]
  | Histogram a ↦ elim [ Gauge b ↦ λ k. absurd k | Sum b ↦ λ k. absurd k | Histogram b ↦ λ k. ap Histogram (c.copied_signed_lists.ensures.histogram a b k) ]
]
