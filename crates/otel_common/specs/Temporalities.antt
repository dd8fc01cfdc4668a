-- Temporalities: their names, and which of them reset streams.
use Rattle.std.specs.Prelude.{ℕ, Bool, true, false, List, map, cond, codes, Result, Ok, Err}
use Rattle.std.specs.Char.{to_ascii_lowercase}
use Rattle.otel_common.specs.Equality.{bytes_eq}
use Rattle.otel_common.specs.declared.metrics.Temporality.{Temporality}
use Rattle.otel_common.specs.declared.metrics.Temporality.TheVariants.{Cumulative, Delta, LowMemory}

-- a text with its ASCII letters in lower case
abbrev pub lowered_name : List ℕ → List ℕ
lowered_name s = map to_ascii_lowercase s

-- the temporality with this name, ignoring ASCII case, if there is one
abbrev pub temporality_named : List ℕ → Result Temporality (Unit {0})
temporality_named s =
    cond (bytes_eq (lowered_name s) (codes "cumulative")) (Ok Cumulative)
    (cond (bytes_eq (lowered_name s) (codes "delta")) (Ok Delta)
    (cond (bytes_eq (lowered_name s) (codes "lowmemory")) (Ok LowMemory) (Err tt)))

-- whether the temporality makes each collection reset streams (Metrics SDK, "MetricReader"): only `Delta` does
abbrev pub resets : Temporality → Bool
resets Cumulative = false
resets Delta = true
resets LowMemory = false
