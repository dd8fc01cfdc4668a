use Rattle.otel_prometheus.specs.Collections.{lines_of}
use Rattle.otel_prometheus.proofs.Valid.{valid}
use Rattle.otel_prometheus.proofs.laws.says_lines.Goals as goal

pub returns-clause-spelled : goal.returns-clause-spelled
returns-clause-spelled c = λ s m. valid s m

pub returns-clause-reads_back : goal.returns-clause-reads_back
returns-clause-reads_back c = λ s m. c.reads_back.ensures s.format (lines_of s m) (valid s m)
