use Rattle.std.proofs.Common.{rules, ◌≡◌, ◌∙◌, is_some, sym}
use Rattle.std.proofs.lemmas.Map.Made.{filter_same_pairs}
use Rattle.slab.specs.Slab.{get}
use Rattle.otel_aggregate.specs.value_map.Slots.{look_in, kept_of}
use Rattle.otel_aggregate.proofs.value_map.TableLemmas.{is_some-map}
use Rattle.otel_aggregate.proofs.value_map.key_table.keep_filled.Goals as goal

pub returns : goal.returns
returns g c =
    c.trim.ensures ∙ filter_same_pairs _ (λ e. is_some (look_in g.A.Aggregator.meaning c.args.slots.now e.1)) _ (λ k v b w f call.
    let there : b ≡ is_some (get c.args.slots.now v) = search rules in
    search (rules, there ∙ sym (is_some-map (kept_of g.A.Aggregator.meaning) (get c.args.slots.now v)))) _ _ c.retain.ensures.filtered
