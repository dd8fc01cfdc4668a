-- Errors, by kind and text.
use Rattle.std.specs.Prelude.{◌≡◌, ℕ, List}
use Rattle.otel_common.specs.declared.metrics.MetricError.{MetricError}
use Rattle.otel_common.specs.declared.metrics.MetricError.TheVariants.{Other, Config}

-- an error of no particular kind, with this text
abbrev pub IsOther : MetricError → List ℕ → Type 0
IsOther (Other message) text = message.now ≡ text
IsOther _ text = ⊥

-- a configuration error with this text
abbrev pub IsConfig : MetricError → List ℕ → Type 0
IsConfig (Config message) text = message.now ≡ text
IsConfig _ text = ⊥
