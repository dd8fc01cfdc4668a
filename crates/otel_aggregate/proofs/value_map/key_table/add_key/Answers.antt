use Rattle.std.proofs.Common.{◌∙◌}
use Rattle.indexmap.proofs.CallerLemmas.{insert_entry-new}
use Rattle.otel_aggregate.proofs.value_map.key_table.add_key.Goals as goal

pub returns : goal.returns
returns c =
    let e = rw c.unwrap.ensures at c.insert.ensures.entries in
    record { keys = e ∙ insert_entry-new _ c.args.numbers.now c.args.key c.args.number c.requires.absent }
