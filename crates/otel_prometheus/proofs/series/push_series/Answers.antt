use Rattle.std.proofs.Common.{rules}
use Rattle.otel_prometheus.specs.Series.{doubled_texts}
use Rattle.otel_prometheus.proofs.TextLemmas.{counts_new, counts_seen}
use Rattle.otel_prometheus.proofs.series.push_series.Goals as goal

pub returns-then-not-branch-clause-doubled : goal.returns-then-not-branch-clause-doubled
returns-then-not-branch-clause-doubled c =
    λ rest. counts_seen c.in_ok-note.field-0 _ (doubled_texts c.note.new.seen.keys rest) (c.in_ok-note.ensures.doubled c.args.lines.now rest) (search rules)

pub returns-clause-doubled : goal.returns-clause-doubled
returns-clause-doubled c =
    λ rest. counts_new c.in_ok-note.field-0 _ (doubled_texts c.note.new.seen.keys rest) (c.in_ok-note.ensures.doubled c.args.lines.now rest) (search rules)
