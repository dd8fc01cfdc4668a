use Rattle.std.proofs.Common.{◌∙◌, ◌&&◌, ◌||◌, not, Bool, List, ap, sym}
use Rattle.std.specs.List.{list_all}
use Rattle.std.specs.Option.{option_copied}
use Rattle.otel_common.specs.declared.attributes.KeyValue.{KeyValue}
use Rattle.otel_data.specs.Values.{has_key}
use Rattle.otel_model_stream.specs.Sets.{AllowList}
use Rattle.otel_aggregate.specs.sets.Keys.{is_kept}
use Rattle.otel_aggregate.proofs.sets.FormLemmas.{is_form}
use Rattle.otel_aggregate.proofs.sets.forms.is_form_of.Goals as goal

-- whether each key that is kept of a list is in the set
abbrev all_there : AllowList → List KeyValue → List KeyValue → Bool
all_there allow set l = list_all (λ given. not (is_kept allow given.key) || has_key set given.key) l

pub returns-then-are_first : goal.returns-then-are_first
returns-then-are_first c =
    c.have_keys.ensures
    ∙ ap (λ b. b && all_there (option_copied c.args.allow) c.args.set.now c.args.list.now) (sym c.if-are_first.true ∙ c.are_first.ensures)
    ∙ is_form (option_copied c.args.allow) c.args.list.now c.args.set.now c.requires

pub returns-else-are_first : goal.returns-else-are_first
returns-else-are_first c =
    c.if-are_first.false
    ∙ ap (λ b. b && all_there (option_copied c.args.allow) c.args.set.now c.args.list.now) (sym c.if-are_first.false ∙ c.are_first.ensures)
    ∙ is_form (option_copied c.args.allow) c.args.list.now c.args.set.now c.requires
