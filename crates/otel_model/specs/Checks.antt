-- Which names, units and bounds of an instrument are valid, and which settings of a stream (Metrics API, "Instrument
-- name syntax" and "Instrument unit"; Metrics SDK, "Explicit Bucket Histogram Aggregation").
use Rattle.std.specs.Prelude.{ℕ, nat_lt, nat_le, nat_eq, Bool, false, cond, ◌&&◌, ◌||◌, not, List, [], ◌∷◌, length, Option, Some, None, codes, is_none}
use Rattle.std.specs.List.{list_any}
pub use Rattle.otel_common.specs.Aggregations.{rises, aggregation_bounds_fault_text}
pub use Rattle.otel_stream.specs.Compatible.{incompatible_text}
pub use Rattle.otel_stream.specs.Settings.{fault_by_unit, limit_fault, optional_limit_fault, optional_bounds_fault, stream_fault}
pub use Rattle.otel_stream.specs.Units.{UnitFault, NotAscii, is_ascii, unit_fault, optional_unit_fault, is_good_unit}
pub use Rattle.otel_stream.specs.declared.stream_fault.StreamFault.{StreamFault}
pub use Rattle.otel_stream.specs.declared.stream_fault.StreamFault.TheVariants.{UnitLength, UnitInvalidChar, LimitZero, LimitMax, Boundaries}

-- ======== names ========
-- why a name is invalid, in the order of the checks
pub data NameFault : Type 0 where
  Empty : NameFault
  Long : NameFault
  BadStart : NameFault
  BadCharacter : NameFault

-- a byte from `least` to `greatest`, both included
abbrev pub is_within : ℕ → ℕ → ℕ → Bool
is_within least greatest b = nat_le least b && nat_le b greatest

-- an ASCII letter
abbrev pub is_letter : ℕ → Bool
is_letter b = is_within 65 90 b || is_within 97 122 b

-- an ASCII digit
abbrev pub is_digit : ℕ → Bool
is_digit b = is_within 48 57 b

-- an ASCII letter, a digit, `_`, `.`, `-` or `/`
abbrev pub is_name_byte : ℕ → Bool
is_name_byte b = is_letter b || (is_digit b || (nat_eq b 95 || (nat_eq b 46 || (nat_eq b 45 || nat_eq b 47))))

-- there is a first byte, and it is no ASCII letter
abbrev pub starts_badly : List ℕ → Bool
starts_badly [] = false
starts_badly (b ∷ bytes) = not (is_letter b)

-- the first fault of a name, if it has one: it is empty, it has more than 255 bytes, it does not start with an ASCII
-- letter, or it has a character that names may not have
abbrev pub name_fault : List ℕ → Option NameFault
name_fault name =
    cond (nat_eq (length name) 0) (Some Empty)
    (cond (nat_lt 255 (length name)) (Some Long)
    (cond (starts_badly name) (Some BadStart)
    (cond (list_any (λ b. not (is_name_byte b)) name) (Some BadCharacter) None)))

-- the message for each fault
abbrev pub name_fault_text : NameFault → List ℕ
name_fault_text Empty = codes "name must be non-empty"
name_fault_text Long = codes "name must be less than 256 characters"
name_fault_text BadStart = codes "name must start with an alphabetic character"
name_fault_text BadCharacter = codes "characters in name must be ASCII and belong to the alphanumeric characters, '_', '.', '-' and '/'"

-- whether a name is valid
abbrev pub is_good_name : List ℕ → Bool
is_good_name name = is_none (name_fault name)

-- ======== units ========
-- the message for each fault
abbrev pub unit_fault_text : UnitFault → List ℕ
unit_fault_text UnitFault.Long = codes "unit must be less than 64 characters"
unit_fault_text NotAscii = codes "characters in unit must be ASCII"

-- ======== bounds ========
-- the message for bounds of an instrument that do not rise
abbrev pub bounds_fault_text : List ℕ
bounds_fault_text = codes "Bucket boundaries must be sorted and non-duplicate"

-- the message for bounds of a stream that do not rise
abbrev pub stream_bounds_fault_text : List ℕ
stream_bounds_fault_text = codes "Bucket boundaries must be sorted and not contain any duplicates"

-- ======== streams ========
-- the message for each fault
abbrev pub stream_fault_text : StreamFault → List ℕ
stream_fault_text UnitLength = unit_fault_text UnitFault.Long
stream_fault_text UnitInvalidChar = unit_fault_text NotAscii
stream_fault_text LimitZero = codes "Cardinality limit must be greater than 0"
stream_fault_text LimitMax = codes "Cardinality limit must be less than usize::MAX"
stream_fault_text Boundaries = stream_bounds_fault_text
