use Rattle.std.proofs.Common.{◌≡◌, ◌++◌, drop}
use Rattle.otel_prometheus.specs.Rising.{front_texts}
use Rattle.otel_prometheus.proofs.rising.push_each.Given as goal

-- with the labels that are left the text is whole
abbrev pub invariant-loop-front : goal.invariant-loop-front
invariant-loop-front l = l.out.items ++ front_texts (drop l.front-index l.fronts) l.left ≡ l.fn.out.items ++ front_texts l.fronts l.attributes
