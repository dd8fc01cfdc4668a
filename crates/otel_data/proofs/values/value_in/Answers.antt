use Rattle.std.proofs.Common.{◌∙◌}
use Rattle.otel_data.specs.Values.{is_set}
use Rattle.otel_data.proofs.ReadOff.{read_off}
use Rattle.otel_data.proofs.values.value_in.Goals as goal

pub returns-in_ok-point-in-Sum : goal.returns-in_ok-point-in-Sum
returns-in_ok-point-in-Sum g c = rw c.in-Sum.is (read_off (λ p. p.value) (λ p. is_set c.args.attributes.now p.attributes) _ _ _ _ c.value.ensures c.in_ok-point-in-Sum.ensures (c.as_slice.ensures.value ∙ c.data_points.ensures))

pub returns-in_ok-point-in-Gauge : goal.returns-in_ok-point-in-Gauge
returns-in_ok-point-in-Gauge g c = rw c.in-Gauge.is (read_off (λ p. p.value) (λ p. is_set c.args.attributes.now p.attributes) _ _ _ _ c.value-in-Gauge.ensures c.in_ok-point-in-Gauge.ensures (c.as_slice-in-Gauge.ensures.value ∙ c.data_points-in-Gauge.ensures))
