use Rattle.otel_data.proofs.copies.copied_metric.Goals as goal

pub returns : goal.returns
returns c = λ x y k i. record {
  name = k.0 i;
  description = k.1.0 i;
  unit = k.1.1.0 i;
  content = c.copied_aggregated.ensures _ _ k.1.1.1 i;
}
