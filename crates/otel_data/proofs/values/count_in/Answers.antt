use Rattle.std.proofs.Common.{◌∙◌}
use Rattle.otel_data.specs.Values.{is_set}
use Rattle.otel_data.proofs.ReadOff.{read_off}
use Rattle.otel_data.proofs.values.count_in.Goals as goal

pub returns-in_ok-point-in-Histogram : goal.returns-in_ok-point-in-Histogram
returns-in_ok-point-in-Histogram g c = rw c.in-Histogram.is (read_off (λ p. p.count) (λ p. is_set c.args.attributes.now p.attributes) _ _ _ _ c.count.ensures c.in_ok-point-in-Histogram.ensures (c.as_slice.ensures.value ∙ c.data_points.ensures))
