use Rattle.std.proofs.Common.{[]}
use Rattle.otel_prometheus.specs.Collections.{family_series}
use Rattle.otel_prometheus.proofs.LawLemmas.{kept_new}
use Rattle.otel_prometheus.proofs.laws.series_are_distinct.Goals as goal

pub returns : goal.returns
returns c = λ s m h. kept_new [] (family_series s m h)
