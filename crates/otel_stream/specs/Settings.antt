-- The settings of a stream, and which are valid (Metrics SDK, "View", "Stream configuration" and "Cardinality limits").
use Rattle.std.specs.Prelude.{◌≡◌, ℕ, ◌-◌, ◌^◌, nat_eq, ℤ, cond, List, Option, Some, None}
use Rattle.std.specs.Option.{option_or}
use Rattle.otel_common.specs.Aggregations.{rises}
use Rattle.otel_common.specs.declared.metrics.Aggregation.{Aggregation}
use Rattle.otel_common.specs.declared.metrics.Aggregation.TheVariants.{Drop, Default, Sum, LastValue, ExplicitBucketHistogram}
use Rattle.otel_stream.specs.Units.{UnitFault, Long, NotAscii, optional_unit_fault}
use Rattle.otel_stream.specs.declared.stream_fault.StreamFault.{StreamFault}
use Rattle.otel_stream.specs.declared.stream_fault.StreamFault.TheVariants.{UnitLength, UnitInvalidChar, LimitZero, LimitMax, Boundaries}
use Rattle.otel_stream.specs.declared.stream_spec.StreamSpec.{StreamSpec}

-- no settings: everything is left to the instrument and the reader
abbrev pub nothing_said : StreamSpec
nothing_said = record { name = None; description = None; unit = None; aggregation = None; allow = None; limit = None }

-- a unit's fault as a stream's
abbrev pub fault_by_unit : Option UnitFault → Option StreamFault
fault_by_unit None = None
fault_by_unit (Some Long) = Some UnitLength
fault_by_unit (Some NotAscii) = Some UnitInvalidChar

-- a limit must be neither 0 nor the greatest 64-bit number
abbrev pub limit_fault : ℕ → Option StreamFault
limit_fault limit = cond (nat_eq limit 0) (Some LimitZero) (cond (nat_eq limit (2 ^ 64 - 1)) (Some LimitMax) None)

-- having no limit is valid
abbrev pub optional_limit_fault : Option ℕ → Option StreamFault
optional_limit_fault None = None
optional_limit_fault (Some limit) = limit_fault limit

-- so is having no bounds; bounds must rise
abbrev pub optional_bounds_fault : Option (List ℤ) → Option StreamFault
optional_bounds_fault None = None
optional_bounds_fault (Some bounds) = cond (rises bounds) None (Some Boundaries)

-- the first fault in the order unit, limit, bounds. The name is not checked
abbrev pub stream_fault : Option (List ℕ) → Option ℕ → Option (List ℤ) → Option StreamFault
stream_fault unit limit bounds =
    option_or (fault_by_unit (optional_unit_fault unit))
    (option_or (optional_limit_fault limit) (optional_bounds_fault bounds))

-- the bounds of an aggregation, if it has any
abbrev pub bounds_of : Option Aggregation → Option (List ℤ)
bounds_of None = None
bounds_of (Some Drop) = None
bounds_of (Some Default) = None
bounds_of (Some Sum) = None
bounds_of (Some LastValue) = None
bounds_of (Some (ExplicitBucketHistogram bounds m)) = Some bounds

-- the fault of a stream's settings, if there is one
abbrev pub settings_fault : StreamSpec → Option StreamFault
settings_fault s = stream_fault s.unit s.limit (bounds_of s.aggregation)

-- the settings have no fault
abbrev pub IsLawful : StreamSpec → Type 0
IsLawful s = settings_fault s ≡ None
