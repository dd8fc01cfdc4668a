use Rattle.std.proofs.Common.{◌≡◌, drop}
use Rattle.std.specs.List.{fold, flat_map}
use Rattle.otel_common.specs.Hashes.{key_value_writes}
use Rattle.otel_aggregate.specs.sets.Keys.{shown}
use Rattle.otel_aggregate.specs.value_map.Hashed.{fed_set}
use Rattle.otel_aggregate.specs.value_map.Hashing.{write}
use Rattle.otel_aggregate.proofs.sets.listed.hash_references.Given as goal

-- what is left, fed after what was, is all
abbrev pub invariant-loop-at : goal.invariant-loop-at
invariant-loop-at l =
    fold write l.state (flat_map key_value_writes (shown (drop l.at l.references)))
    ≡ fed_set l.fn.hasher (shown l.references)
