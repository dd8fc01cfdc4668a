use Rattle.std.proofs.Common.{◌≡◌, ◌++◌, map, ap, sym, ◌∙◌, rules}
use Rattle.otel_prometheus.specs.Labels.{point_labels}
use Rattle.otel_prometheus.specs.Rising.{name_in, value_front}
use Rattle.otel_prometheus.proofs.RisingLemmas.{fronts_within, made_of_keys, spelled_fronts}
use Rattle.otel_prometheus.proofs.rising.Names.push_labels.Goals as goal

pub push_around-requires-clause-within : goal.push_around-requires-clause-within
push_around-requires-clause-within c =
    let own = c.args.self.now in
    fronts_within own.names.items c.as_slice-fronts.result.now c.in-Some.count (c.as_slice-fronts.ensures.value ∙ own.are_in_front) (sym own.stands_before ∙ c.in-Some.is)

pub returns : goal.returns
returns c =
    let own = c.args.self.now in
    let attributes = c.args.attributes.now in
    let fronts = c.as_slice-fronts.result.now in
    let count = c.in-Some.count in
    let behind : fronts ≡ map value_front own.names.items = c.as_slice-fronts.ensures.value ∙ own.are_in_front in
    let made : own.names.items ≡ map (name_in own.has_bounds) attributes = made_of_keys own.has_bounds attributes own.keys.items own.names.items c.requires.keys own.are_names in
    let old = c.args.out.now.items in
    c.close.ensures old (point_labels c.args.settings own.has_bounds c.args.scope.now attributes) (search rules)
    (c.in_ok-push_around.ensures
    ∙ ap (λ t. old ++ t) (spelled_fronts c.args.settings own.has_bounds c.args.scope.now attributes fronts own.names.items count c.args.scope_text.now behind made (sym own.stands_before ∙ c.in-Some.is) c.requires.of_scope))
