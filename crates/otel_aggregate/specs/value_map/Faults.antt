-- Why a bind is refused.
use Rattle.std.specs.Prelude.{◌≡◌, ◌⊎◌, ℕ, ◌-◌, ◌^◌}
use Rattle.otel_common.specs.declared.faults.Fault.{Fault}
use Rattle.otel_common.specs.declared.faults.Fault.TheVariants.{OutOfMemory, Exhausted}

-- for want of memory; or since the entry that it would use has as many live handles as can be counted in 64 bits
abbrev pub IsBindFault : ℕ → Fault → Type 0
IsBindFault handles fault = (fault ≡ OutOfMemory) ⊎ ((fault ≡ Exhausted) × (handles ≡ 2 ^ 64 - 1))
