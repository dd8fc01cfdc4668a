use Rattle.std.proofs.Common.{◌≡◌, ◌++◌, map, take}
use Rattle.otel_prometheus.proofs.headings.with_ends.Given as goal

-- the names so far have the ends so far
abbrev pub invariant-loop-end : goal.invariant-loop-end
invariant-loop-end l = l.names.items ≡ map (λ end. l.name ++ end.now) (take l.end-index l.ends)
