use Rattle.std.proofs.Common.{◌≡◌, ◌++◌, map, drop}
use Rattle.otel_prometheus.proofs.rising.keys_of.Given as goal

-- with the keys that are left all are there
abbrev pub invariant-loop-attribute : goal.invariant-loop-attribute
invariant-loop-attribute l = l.keys.items ++ map (λ a. a.key) (drop l.attribute-index l.attributes) ≡ map (λ a. a.key) l.attributes
