use Rattle.std.proofs.Common.{Some, ap, ◌∙◌}
use Rattle.std.specs.Prelude.{option_map}
use Rattle.otel_prometheus.specs.Consumers.{read_points}
use Rattle.otel_prometheus.proofs.ShownLemmas.{points_read}
use Rattle.otel_prometheus.proofs.laws.says_points.Goals as goal

pub returns-clause-lines : goal.returns-clause-lines
returns-clause-lines c = points_read

pub returns-clause-text : goal.returns-clause-text
returns-clause-text c = λ s collected. ap (option_map read_points) (c.says_lines.ensures.reads_back s collected) ∙ ap Some (points_read s collected)
