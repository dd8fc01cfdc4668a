use Rattle.std.proofs.Common.{◌≡◌, drop}
use Rattle.std.specs.Option.{option_copied}
use Rattle.otel_data.specs.Values.{is_first}
use Rattle.otel_model_stream.specs.Sets.{allowed_part}
use Rattle.otel_aggregate.proofs.sets.forms.is_first.Given as goal

-- no attribute before the next one is kept and has the key
abbrev pub invariant-loop-given : goal.invariant-loop-given
invariant-loop-given l =
    is_first (allowed_part (option_copied l.allow) (drop l.given-index l.list)) l.own ≡ is_first (allowed_part (option_copied l.allow) l.list) l.own
