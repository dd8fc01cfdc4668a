use Rattle.std.proofs.Common.{◌≡◌, take}
use Rattle.std.specs.Prelude.{map}
use Rattle.otel_stream.specs.Answers.{answer_wanting, kinds}
use Rattle.otel_stream.proofs.answers.Answers.of.Given as goal

-- the reader answered for each kind so far
abbrev pub invariant-loop-kind : goal.invariant-loop-kind
invariant-loop-kind g l = l.answers.items ≡ map (answer_wanting (g.R.MetricReader.preference l.reader) (g.R.MetricReader.limit l.reader) (g.R.MetricReader.aggregation l.reader)) (take l.kind-index kinds)
