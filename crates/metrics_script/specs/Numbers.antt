-- Numbers in a script.
use Rattle.std.specs.Prelude.{◌≡◌, ℕ, ◌^◌, ◌<◌, ◌++◌, List, cond, drop, codes, FitsSigned}
use Rattle.std.specs.Int.{w64}
use Rattle.otel_data.specs.declared.numbers.NumberValue.{NumberValue}
use Rattle.otel_data.specs.declared.numbers.NumberValue.TheVariants.{U64, I64}
use Rattle.std.specs.Str.Parse.{IsNumeral, digits_value, signed_digits_value, starts_with_minus}

-- one or more decimal digits of a number that fits 64 bits; leading zeros are allowed
abbrev pub IsUnsigned : List ℕ → Type 0
IsUnsigned word = IsNumeral 10 word × (digits_value 10 word < 2 ^ 64)

-- the same with an optional minus sign, of a signed number that fits 64 bits
abbrev pub IsSigned : List ℕ → Type 0
IsSigned word = IsNumeral 10 (cond (starts_with_minus word) (drop 1 word) word) × FitsSigned w64 (signed_digits_value 10 word)

-- `u:` and an unsigned number, or `i:` and a signed one
abbrev pub IsNumberWord : List ℕ → NumberValue → Type 0
IsNumberWord word (U64 number) = (digits : List ℕ) × (word ≡ codes "u:" ++ digits) × IsUnsigned digits × (number ≡ digits_value 10 digits)
IsNumberWord word (I64 number) = (digits : List ℕ) × (word ≡ codes "i:" ++ digits) × IsSigned digits × (number ≡ signed_digits_value 10 digits)
