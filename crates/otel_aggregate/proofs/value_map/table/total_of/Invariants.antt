use Rattle.std.proofs.Common.{◌≡◌, ◌+◌, map}
use Rattle.otel_model_stream.specs.Folds.{wrap}
use Rattle.otel_model_stream.specs.Totals.{points_total}
use Rattle.otel_aggregate.specs.value_map.Hashed.{plain}
use Rattle.otel_aggregate.specs.value_map.Slots.{look_in, entry_at}
use Rattle.otel_aggregate.proofs.value_map.TableLemmas.{shown_of}
use Rattle.otel_aggregate.proofs.value_map.table.total_of.Given as goal

-- the total so far and that of the sets that are left are all
abbrev pub invariant-loop-number : goal.invariant-loop-number
invariant-loop-number g l =
    let look = look_in g.A.Aggregator.meaning l.slots in
    wrap (l.total + points_total (shown_of l.every (map (entry_at look) (map plain l.number-iterator)))) ≡ wrap (points_total (shown_of l.every (map (entry_at look) l.fn.keys.sets)))
