use Rattle.std.proofs.Common.{◌≡◌, rules}
use Rattle.otel_data.proofs.copies.copied_points.Goals as goal

pub returns-clause-exemplar : goal.returns-clause-exemplar
returns-clause-exemplar c = λ x y k. let h = k in search rules

pub returns-clause-gauge : goal.returns-clause-gauge
returns-clause-gauge c = λ x y k i. record { attributes = k.0 i; exemplars = k.1.0.1 (returns-clause-exemplar c) i; value = k.1.1 i }

pub returns-clause-point : goal.returns-clause-point
returns-clause-point c = λ x y k i. record { attributes = k.0 i; exemplars = k.1.0.1 (returns-clause-exemplar c) i; value = k.1.1 i }

pub returns-clause-histogram : goal.returns-clause-histogram
returns-clause-histogram c = λ x y k.
    let min : y.min ≡ x.min = let h = k.5 in search rules in
    let max : y.max ≡ x.max = let h = k.6 in search rules in
    λ i. record {
      attributes = k.0 i;
      exemplars = k.1.1 (returns-clause-exemplar c) i;
      bounds = k.2 i;
      bucket_counts = k.3 i;
      count = k.4 i;
      min = min i;
      max = max i;
      sum = k.7 i;
    }
