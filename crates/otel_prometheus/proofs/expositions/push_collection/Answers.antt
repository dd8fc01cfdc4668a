use Rattle.std.proofs.Common.{rules}
use Rattle.otel_prometheus.proofs.CollectedLemmas.{whole_text, whole_doubled}
use Rattle.otel_prometheus.proofs.expositions.push_collection.Goals as goal

pub returns-clause-text : goal.returns-clause-text
returns-clause-text c =
    whole_text c.args.settings c.args.collected.now c.args.groups.now c.requires c.args.out.now.items c.push_target.new.out.items c.push_groups.new.out.items c.push_end.new.out.items
    (search rules) c.in_ok-count.ensures.text c.in_ok-push_end.ensures

pub returns-clause-doubled : goal.returns-clause-doubled
returns-clause-doubled c = whole_doubled c.args.settings c.args.collected.now c.args.groups.now _ c.requires c.in_ok-count.ensures.doubled
