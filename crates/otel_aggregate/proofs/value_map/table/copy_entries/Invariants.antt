use Rattle.std.proofs.Common.{◌≡◌, ◌++◌, map}
use Rattle.std.specs.List.{AllByRecursion}
use Rattle.std.specs.Map.{keys_of}
use Rattle.otel_aggregate.specs.value_map.Hashed.{plain}
use Rattle.otel_aggregate.specs.value_map.Slots.{look_in, entry_at}
use Rattle.otel_aggregate.specs.value_map.Keyed.{Fits}
use Rattle.otel_aggregate.proofs.value_map.table.copy_entries.Given as goal

-- the keys that are left fit, the copies so far and the entries that are left are all, and so are their keys
abbrev pub invariant-loop-set : goal.invariant-loop-set
invariant-loop-set g l =
    let look = look_in g.A.Aggregator.meaning l.slots in
    AllByRecursion (Fits look) (map plain l.set-iterator)
    × (l.made.table.none ≡ l.fn.made.table.none)
    × (l.made.table.entries ++ map (entry_at look) (map plain l.set-iterator) ≡ map (entry_at look) l.fn.keys.sets)
    × (keys_of l.made.numbers.sets ++ keys_of (map plain l.set-iterator) ≡ keys_of l.fn.keys.sets)
