-- Worked rows on names, units, bounds and settings of streams.
use Rattle.std.specs.Prelude.{◌≡◌, ℕ, ℤ, pos, true, false, List, [], ◌∷◌, ◌++◌, map, replicate, Option, Some, None, codes}
use Rattle.std.proofs.Common.{refl}
use Rattle.otel_model.specs.Calls.{ascii_lowercase}
use Rattle.otel_model.specs.Checks.{is_within, is_letter, is_digit, is_name_byte, starts_badly, name_fault, name_fault_text, is_good_name, Empty, Long, BadStart, BadCharacter, is_ascii, unit_fault, optional_unit_fault, is_good_unit, unit_fault_text, UnitFault, NotAscii, rises, bounds_fault_text, stream_bounds_fault_text, aggregation_bounds_fault_text, incompatible_text, StreamFault, UnitLength, UnitInvalidChar, LimitZero, LimitMax, Boundaries, stream_fault, stream_fault_text}
use Rattle.otel_model_rows.specs.Rows.{up_from, bytes}

-- ======== characters ========
-- both ends are included
pub within : map (is_within 3 5) (up_from 8 0) ≡ false ∷ false ∷ false ∷ true ∷ true ∷ true ∷ false ∷ false ∷ []
within = refl

-- of all bytes `A` to `Z` and `a` to `z`
pub letters : map is_letter bytes ≡ replicate 65 false ++ (replicate 26 true ++ (replicate 6 false ++ (replicate 26 true ++ replicate 133 false)))
letters = refl

-- `0` to `9`
pub digits : map is_digit bytes ≡ replicate 48 false ++ (replicate 10 true ++ replicate 198 false)
digits = refl

-- `-`, `.`, `/` and the digits, which follow each other, the letters, and `_`
pub name_bytes : map is_name_byte bytes ≡ replicate 45 false ++ (replicate 13 true ++ (replicate 7 false ++ (replicate 26 true ++ (replicate 4 false ++ (true ∷ false ∷ (replicate 26 true ++ replicate 133 false))))))
name_bytes = refl

-- only `A` to `Z` are changed, each to its lower case
pub lowered : ascii_lowercase bytes ≡ up_from 65 0 ++ (up_from 26 97 ++ up_from 165 91)
lowered = refl

-- bytes up to 127
pub ascii : map (λ b. is_ascii (b ∷ [])) bytes ≡ replicate 128 true ++ replicate 128 false
ascii = refl

-- ======== names ========
-- a name of one byte: good, or with the fault of its first byte
pub one_byte : map (λ b. starts_badly (b ∷ [])) bytes ≡ replicate 65 true ++ (replicate 26 false ++ (replicate 6 true ++ (replicate 26 false ++ replicate 133 true)))
one_byte = refl

pub nothing_starts : starts_badly [] ≡ false
nothing_starts = refl

pub row_16 : name_fault [] ≡ Some Empty
row_16 = refl

pub row_16_longest : name_fault (replicate 255 97) ≡ None
row_16_longest = refl

pub row_16_long : name_fault (replicate 256 97) ≡ Some Long
row_16_long = refl

pub row_16_start : name_fault (codes "_x") ≡ Some BadStart
row_16_start = refl

pub row_16_character : name_fault (codes "Total $ Count") ≡ Some BadCharacter
row_16_character = refl

pub good_name : name_fault (codes "validateName") ≡ None
good_name = refl

pub good_slash : name_fault (codes "allow/slash") ≡ None
good_slash = refl

pub good_underscore : name_fault (codes "allow_under_score") ≡ None
good_underscore = refl

pub good_dots : name_fault (codes "allow.dots.ok") ≡ None
good_dots = refl

pub good_dash : name_fault (codes "z-0Z") ≡ None
good_dash = refl

-- the last character counts too
pub bad_end : name_fault (codes "a$") ≡ Some BadCharacter
bad_end = refl

-- the first fault counts: the length, the first letter, the others
pub long_first : name_fault (replicate 256 36) ≡ Some Long
long_first = refl

pub start_next : name_fault (codes "0$") ≡ Some BadStart
start_next = refl

pub good_names : map is_good_name (codes "a" ∷ [] ∷ replicate 256 97 ∷ codes "0" ∷ codes "a$" ∷ []) ≡ true ∷ false ∷ false ∷ false ∷ false ∷ []
good_names = refl

pub name_texts : map name_fault_text (Empty ∷ Long ∷ BadStart ∷ BadCharacter ∷ [])
    ≡ codes "name must be non-empty"
    ∷ codes "name must be less than 256 characters"
    ∷ codes "name must start with an alphabetic character"
    ∷ codes "characters in name must be ASCII and belong to the alphanumeric characters, '_', '.', '-' and '/'"
    ∷ []
name_texts = refl

-- a character of three bytes
pub bad_character : name_fault (117 ∷ 233 ∷ 148 ∷ 136 ∷ []) ≡ Some BadCharacter
bad_character = refl

pub bad_space : name_fault (codes "invalid name") ≡ Some BadCharacter
bad_space = refl

pub bad_first_slash : name_fault (codes "/not / allowed") ≡ Some BadStart
bad_first_slash = refl

-- ======== units ========
pub long_unit : unit_fault (replicate 64 48) ≡ Some UnitFault.Long
long_unit = refl

pub longest_unit : unit_fault (replicate 63 48) ≡ None
longest_unit = refl

pub bad_unit : unit_fault (117 ∷ 233 ∷ 148 ∷ 136 ∷ []) ≡ Some NotAscii
bad_unit = refl

pub good_unit : unit_fault (codes "Kb/sec") ≡ None
good_unit = refl

pub percent_unit : unit_fault (codes "%") ≡ None
percent_unit = refl

pub empty_unit : unit_fault [] ≡ None
empty_unit = refl

-- no unit is a good one
pub optional_units : map optional_unit_fault (None ∷ Some (codes "s") ∷ Some (233 ∷ []) ∷ []) ≡ None ∷ None ∷ Some NotAscii ∷ []
optional_units = refl

pub good_units : map is_good_unit ([] ∷ codes "s" ∷ (233 ∷ []) ∷ replicate 64 115 ∷ []) ≡ true ∷ true ∷ false ∷ false ∷ []
good_units = refl

pub unit_texts : map unit_fault_text (UnitFault.Long ∷ NotAscii ∷ []) ≡ codes "unit must be less than 64 characters" ∷ codes "characters in unit must be ASCII" ∷ []
unit_texts = refl

-- ======== bounds ========
pub bounds_texts : bounds_fault_text ∷ stream_bounds_fault_text ∷ aggregation_bounds_fault_text ∷ []
    ≡ codes "Bucket boundaries must be sorted and non-duplicate"
    ∷ codes "Bucket boundaries must be sorted and not contain any duplicates"
    ∷ codes "aggregation: explicit bucket histogram: non-monotonic boundaries"
    ∷ []
bounds_texts = refl

pub no_bounds : map rises ([] ∷ (pos 1 ∷ []) ∷ []) ≡ true ∷ true ∷ []
no_bounds = refl

pub rising : rises (pos 1 ∷ pos 2 ∷ pos 5 ∷ []) ≡ true
rising = refl

pub falling : rises (pos 1 ∷ pos 5 ∷ pos 2 ∷ []) ≡ false
falling = refl

pub doubled : rises (pos 1 ∷ pos 5 ∷ pos 5 ∷ []) ≡ false
doubled = refl

-- ======== settings of streams ========
abbrev limited : ℕ → Option StreamFault
limited limit = stream_fault None (Some limit) None

pub row_16_limit_0 : limited 0 ≡ Some LimitZero
row_16_limit_0 = refl

pub row_16_greatest : limited 18446744073709551615 ≡ Some LimitMax
row_16_greatest = refl

pub row_16_last_good : limited 18446744073709551614 ≡ None
row_16_last_good = refl

pub limit_1 : limited 1 ≡ None
limit_1 = refl

pub limit_10 : limited 10 ≡ None
limit_10 = refl

pub limit_100 : limited 100 ≡ None
limit_100 = refl

pub limit_1000 : limited 1000 ≡ None
limit_1000 = refl

abbrev measured_in : List ℕ → Option StreamFault
measured_in unit = stream_fault (Some unit) None None

-- a unit of 64 digits, and one with a character of three bytes
pub stream_long_unit : measured_in (replicate 64 48) ≡ Some UnitLength
stream_long_unit = refl

pub stream_longest_unit : measured_in (replicate 63 48) ≡ None
stream_longest_unit = refl

pub stream_bad_unit : measured_in (codes "utf8char" ++ 233 ∷ 148 ∷ 136 ∷ []) ≡ Some UnitInvalidChar
stream_bad_unit = refl

pub stream_kilobytes : measured_in (codes "kb") ≡ None
stream_kilobytes = refl

pub stream_rate : measured_in (codes "Kb/sec") ≡ None
stream_rate = refl

pub stream_percent : measured_in (codes "%") ≡ None
stream_percent = refl

pub stream_empty_unit : measured_in [] ≡ None
stream_empty_unit = refl

abbrev bounded : List ℤ → Option StreamFault
bounded bounds = stream_fault None None (Some bounds)

pub stream_rising : bounded (pos 1 ∷ pos 2 ∷ pos 5 ∷ pos 10 ∷ pos 20 ∷ pos 50 ∷ pos 100 ∷ []) ≡ None
stream_rising = refl

pub stream_falling : bounded (pos 1 ∷ pos 5 ∷ pos 2 ∷ pos 10 ∷ []) ≡ Some Boundaries
stream_falling = refl

pub stream_doubled : bounded (pos 1 ∷ pos 2 ∷ pos 5 ∷ pos 5 ∷ pos 10 ∷ []) ≡ Some Boundaries
stream_doubled = refl

pub stream_without_bounds : bounded [] ≡ None
stream_without_bounds = refl

pub stream_texts : map stream_fault_text (UnitLength ∷ UnitInvalidChar ∷ LimitZero ∷ LimitMax ∷ Boundaries ∷ [])
    ≡ codes "unit must be less than 64 characters"
    ∷ codes "characters in unit must be ASCII"
    ∷ codes "Cardinality limit must be greater than 0"
    ∷ codes "Cardinality limit must be less than usize::MAX"
    ∷ codes "Bucket boundaries must be sorted and not contain any duplicates"
    ∷ []
stream_texts = refl

pub incompatible : incompatible_text ≡ codes "incompatible aggregation"
incompatible = refl

-- nothing is set, and all is set
pub nothing_set : stream_fault None None None ≡ None
nothing_set = refl

pub all_set : stream_fault (Some (codes "ms")) (Some 100) (Some (pos 1 ∷ [])) ≡ None
all_set = refl

-- the first of several faults: the length of the unit, its characters, the limit, the bounds
abbrev falling_bounds : Option (List ℤ)
falling_bounds = Some (pos 2 ∷ pos 1 ∷ [])

pub length_first : stream_fault (Some (replicate 64 233)) (Some 0) falling_bounds ≡ Some UnitLength
length_first = refl

pub characters_next : stream_fault (Some (233 ∷ [])) (Some 0) falling_bounds ≡ Some UnitInvalidChar
characters_next = refl

pub limit_next : stream_fault (Some (codes "ms")) (Some 0) falling_bounds ≡ Some LimitZero
limit_next = refl

pub greatest_next : stream_fault None (Some 18446744073709551615) falling_bounds ≡ Some LimitMax
greatest_next = refl

pub bounds_last : stream_fault (Some []) (Some 1) falling_bounds ≡ Some Boundaries
bounds_last = refl
