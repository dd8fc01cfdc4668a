use Rattle.otel_prometheus.proofs.Arrays.{Writing}
use Rattle.otel_prometheus.proofs.values.write_items.Given as goal

-- with the items that are left the array is whole
abbrev pub invariant-loop-item : goal.invariant-loop-item
invariant-loop-item g l = Writing g.T.Item.json l.fn.out l.out l.items l.item-index
