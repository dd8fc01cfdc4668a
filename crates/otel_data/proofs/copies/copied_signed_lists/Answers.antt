use Rattle.otel_data.proofs.copies.copied_signed_lists.Goals as goal

pub returns-clause-gauge : goal.returns-clause-gauge
returns-clause-gauge c = λ x y k i. record {
  data_points = k.0.1 c.copied_signed_points.ensures.gauge i;
  start_time = k.1 i;
  time = k.2 i;
}

pub returns-clause-sum : goal.returns-clause-sum
returns-clause-sum c = λ x y k i. record {
  data_points = k.0.1 c.copied_signed_points.ensures.point i;
  start_time = k.1 i;
  time = k.2 i;
  temporality = k.3 i;
  is_monotonic = k.4 i;
}

pub returns-clause-histogram : goal.returns-clause-histogram
returns-clause-histogram c = λ x y k i. record {
  data_points = k.0.1 c.copied_signed_points.ensures.histogram i;
  start_time = k.1 i;
  time = k.2 i;
  temporality = k.3 i;
  has_sum = k.4 i;
}
