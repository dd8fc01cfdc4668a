use Rattle.std.proofs.Common.{◌%◌, ◌^◌, ap, ◌∙◌, rules}
use Rattle.otel_prometheus.specs.Groups.{group_series}
use Rattle.otel_prometheus.proofs.SeriesLemmas.{are_whole, starts_within, family_text, family_doubled}
use Rattle.otel_prometheus.proofs.expositions.push_samples.Goals as goal

pub without_doubled-requires-clause-within : goal.without_doubled-requires-clause-within
without_doubled-requires-clause-within c = starts_within c.add_members.new.texts c.args.out.now.items c.len-start.result (group_series c.args.settings c.args.group.now) (search rules) (search rules)

pub without_doubled-requires-clause-whole : goal.without_doubled-requires-clause-whole
without_doubled-requires-clause-whole c = are_whole c.add_members.new.texts c.args.out.now.items c.len-start.result (group_series c.args.settings c.args.group.now) (search rules) (search rules)

pub returns-clause-text : goal.returns-clause-text
returns-clause-text c =
    c.in_ok-text.ensures.text ∙ family_text (group_series c.args.settings c.args.group.now) c.add_members.new.texts c.args.out.now.items c.len-start.result (search rules) (search rules) c.args.settings.format

pub returns-clause-doubled : goal.returns-clause-doubled
returns-clause-doubled c =
    c.in_ok-text.ensures.doubled
    ∙ ap (λ n. n % 2 ^ 64) (family_doubled (group_series c.args.settings c.args.group.now) c.add_members.new.texts c.args.out.now.items c.len-start.result (search rules) (search rules))
