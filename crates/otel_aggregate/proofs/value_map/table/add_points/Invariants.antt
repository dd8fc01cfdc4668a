use Rattle.std.proofs.Common.{◌≡◌, ◌++◌, map}
use Rattle.std.specs.List.{AllByRecursion}
use Rattle.otel_aggregate.specs.value_map.Hashed.{plain}
use Rattle.otel_aggregate.specs.value_map.Slots.{look_in, entry_at}
use Rattle.otel_aggregate.specs.value_map.Keyed.{Fits}
use Rattle.otel_aggregate.proofs.value_map.TableLemmas.{shown_of}
use Rattle.otel_aggregate.proofs.value_map.table.add_points.Given as goal

-- the keys that are left fit, their points can be shown, and the points so far and those of the sets that are left are
-- all
abbrev pub invariant-loop-set : goal.invariant-loop-set
invariant-loop-set g l =
    let look = look_in g.A.Aggregator.meaning l.slots in
    let maker = g.M.PointMaker in
    AllByRecursion (Fits look) (map plain l.set-iterator)
    × AllByRecursion (maker.can_show l.maker) (shown_of l.every (map (entry_at look) (map plain l.set-iterator)))
    × (map maker.seen l.points.items ++ map (maker.shown l.maker) (shown_of l.every (map (entry_at look) (map plain l.set-iterator)))
    ≡ map maker.seen l.fn.points.items ++ map (maker.shown l.maker) (shown_of l.every (map (entry_at look) l.fn.keys.sets)))
