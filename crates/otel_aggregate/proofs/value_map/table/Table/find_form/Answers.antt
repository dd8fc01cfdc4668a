use Rattle.std.proofs.Common.{◌∙◌, ap, sym, is_some, List}
use Rattle.std.specs.Option.{option_copied}
use Rattle.otel_common.specs.Canonical.{canon}
use Rattle.otel_common.specs.declared.attributes.KeyValue.{KeyValue}
use Rattle.otel_model_stream.specs.Sets.{allowed_part}
use Rattle.otel_aggregate.specs.value_map.Slots.{look_in}
use Rattle.otel_aggregate.proofs.value_map.KeyedLemmas.{has_lookup, if_found, unfound}
use Rattle.otel_aggregate.proofs.value_map.table.Table.find_form.Goals as goal

pub returns-clause-placed : goal.returns-clause-placed
returns-clause-placed g c =
    let look = look_in g.A.Aggregator.meaning c.self.inside.slots in
    let l : List KeyValue = allowed_part (option_copied c.args.allow) c.args.list.now in
    rw (← c.self.view_is) (ap is_some c.form_in.ensures ∙ sym (has_lookup (canon l) look c.self.inside.keys.sets))

pub returns-clause-named : goal.returns-clause-named
returns-clause-named g c =
    let look = look_in g.A.Aggregator.meaning c.self.inside.slots in
    let l : List KeyValue = allowed_part (option_copied c.args.allow) c.args.list.now in
    rw (← c.self.view_is) (if_found look c.self.inside.none c.self.inside.keys.sets c.self.inside.keys.aliases (canon l) c.form_in.result c.self.invariant.0 (λ _. c.form_in.ensures))

pub returns-clause-unknown : goal.returns-clause-unknown
returns-clause-unknown g c =
    let look = look_in g.A.Aggregator.meaning c.self.inside.slots in
    let l : List KeyValue = allowed_part (option_copied c.args.allow) c.args.list.now in
    rw (← c.self.view_is) (unfound look c.self.inside.none c.self.inside.keys.sets c.self.inside.keys.aliases l c.form_in.result c.self.invariant.0 c.form_in.ensures)
