use Rattle.std.proofs.Common.{◌≡◌, ◌+◌, map}
use Rattle.otel_model_stream.specs.Entries.{number_counted}
use Rattle.otel_aggregate.specs.value_map.Hashed.{plain}
use Rattle.otel_aggregate.specs.value_map.Slots.{look_in, entry_at}
use Rattle.otel_aggregate.proofs.value_map.table.count_counted.Given as goal

-- those counted so far and those among the sets that are left are all
abbrev pub invariant-loop-number : goal.invariant-loop-number
invariant-loop-number g l =
    let look = look_in g.A.Aggregator.meaning l.slots in
    l.count + number_counted (map (entry_at look) (map plain l.number-iterator)) ≡ number_counted (map (entry_at look) l.fn.keys.sets)
