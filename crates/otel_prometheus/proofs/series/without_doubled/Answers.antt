use Rattle.std.proofs.Common.{rules, ◌∙◌}
use Rattle.otel_prometheus.proofs.SeriesLemmas.{kept_whole}
use Rattle.otel_prometheus.proofs.series.without_doubled.Goals as goal

pub returns-then-branch-clause-text : goal.returns-then-branch-clause-text
returns-then-branch-clause-text c =
    kept_whole c.args.texts c.args.start c.as_slice.result.now c.texts.inside.lines.items c.as_slice-2.result.now
    ((λ i. record { labels = c.as_slice.ensures.value i; lines = c.texts.inside.lines.items; marks = c.as_slice-2.ensures.value i }) ∙ c.texts.view_is)
    (λ ls. c.in_ok-are_distinct.ensures ls (search rules)) c.requires.whole
