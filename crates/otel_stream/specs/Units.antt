-- Which units are valid (Metrics API, "Instrument unit").
use Rattle.std.specs.Prelude.{ℕ, nat_lt, Bool, cond, not, List, length, Option, Some, None, is_none}
use Rattle.std.specs.List.{list_any}

-- why a unit is invalid, in the order of the checks
pub data UnitFault : Type 0 where
  Long : UnitFault
  NotAscii : UnitFault

-- whether every byte is ASCII
abbrev pub is_ascii : List ℕ → Bool
is_ascii bytes = not (list_any (λ b. nat_lt 127 b) bytes)

-- the fault of a unit, if there is one: more than 63 bytes, or else a byte outside ASCII
abbrev pub unit_fault : List ℕ → Option UnitFault
unit_fault unit =
    cond (nat_lt 63 (length unit)) (Some Long)
    (cond (is_ascii unit) None (Some NotAscii))

-- having no unit is valid
abbrev pub optional_unit_fault : Option (List ℕ) → Option UnitFault
optional_unit_fault None = None
optional_unit_fault (Some unit) = unit_fault unit

-- whether a unit has no fault
abbrev pub is_good_unit : List ℕ → Bool
is_good_unit unit = is_none (unit_fault unit)
