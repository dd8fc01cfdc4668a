use Rattle.std.proofs.Common.{◌∙◌, ap, refl, is_some}
use Rattle.otel_aggregate.specs.value_map.Keyed.{is_lasting, is_counted}
use Rattle.otel_aggregate.proofs.value_map.KeyedLemmas.{kept-new, same_number}
use Rattle.otel_aggregate.proofs.value_map.table.Table.new.Goals as goal

pub invariant_of-result : goal.invariant_of-result
invariant_of-result g c =
    let here = rw (same_number c.fill-none.result) at (c.fill-none.ensures.look c.fill-none.result) in
    let laws = kept-new _ c.fill-none.result (ap is_some here) (ap is_lasting here ∙ c.requires.lasting) (ap is_counted here ∙ c.requires.uncounted) in
    rw (c.new.ensures.sets, c.new.ensures.aliases) (laws, refl)
