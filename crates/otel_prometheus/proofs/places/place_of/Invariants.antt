use Rattle.std.proofs.Common.{◌≡◌, ◌++◌, List, ℕ, take, drop}
use Rattle.otel_prometheus.specs.Labels.{with_label}
use Rattle.otel_prometheus.proofs.places.place_of.Given as goal

-- the label belongs behind those so far
abbrev pub invariant-loop-index : goal.invariant-loop-index
invariant-loop-index l = (v : List ℕ) → with_label l.labels (l.name, v) ≡ take l.index l.labels ++ with_label (drop l.index l.labels) (l.name, v)
