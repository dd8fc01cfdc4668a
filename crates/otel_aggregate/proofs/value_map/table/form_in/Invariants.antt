use Rattle.std.proofs.Common.{◌≡◌, map}
use Rattle.std.specs.List.{AllByRecursion}
use Rattle.std.specs.Map.{lookup}
use Rattle.std.specs.Option.{option_copied}
use Rattle.otel_common.specs.Canonical.{canon}
use Rattle.otel_common.specs.Equality.{set_eq}
use Rattle.otel_model_stream.specs.Sets.{allowed_part}
use Rattle.otel_aggregate.specs.value_map.Hashed.{plain}
use Rattle.otel_aggregate.specs.value_map.Keyed.{Fits}
use Rattle.otel_aggregate.specs.value_map.Slots.{Look}
use Rattle.otel_aggregate.proofs.value_map.table.form_in.Given as goal

-- the sets that are left fit, and the form is found among them where it is found at all
abbrev pub invariant-loop-set : goal.invariant-loop-set
invariant-loop-set l =
    ((look : Look) × AllByRecursion (Fits look) (map plain l.set-iterator))
    × (lookup (set_eq (canon (allowed_part (option_copied l.allow) l.list))) (map plain l.set-iterator) ≡ lookup (set_eq (canon (allowed_part (option_copied l.allow) l.list))) l.keys.sets)
