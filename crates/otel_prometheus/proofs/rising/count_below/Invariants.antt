use Rattle.std.proofs.Common.{◌≡◌, ◌+◌, ◌≤◌, drop}
use Rattle.otel_prometheus.specs.Rising.{count_below}
use Rattle.otel_prometheus.proofs.rising.count_below.Given as goal

-- with those among the names that are left all are counted
abbrev pub invariant-loop-name : goal.invariant-loop-name
invariant-loop-name l = record {
  counted : l.count + count_below (drop l.name-index l.names) ≡ count_below l.names;
  within : l.count ≤ l.name-index;
}
