use Rattle.std.proofs.Common.{◌≡◌, map, drop}
use Rattle.otel_prometheus.proofs.rising.Names.fit.Given as goal

-- if the keys that are left are those of the attributes that are left, all are
abbrev pub invariant-loop-attribute : goal.invariant-loop-attribute
invariant-loop-attribute l = l.left ≡ map (λ a. a.key) (drop l.attribute-index l.attributes) → l.self.keys.items ≡ map (λ a. a.key) l.attributes
