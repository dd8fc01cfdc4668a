use Rattle.std.proofs.Common.{flat_map, take}
use Rattle.otel_prometheus.specs.Groups.{members_of}
use Rattle.otel_prometheus.specs.Standing.{AreGroups}
use Rattle.otel_prometheus.proofs.families.grouped.Given as goal

-- the families are those of the scopes so far
abbrev pub invariant-loop-scope : goal.invariant-loop-scope
invariant-loop-scope l = AreGroups l.found (flat_map members_of (take l.scope-index l.scopes))
