-- Attributes in a script.
use Rattle.std.specs.Prelude.{◌≡◌, ◌==◌, ◌<◌, ℕ, Bool, ◌++◌, List, [], length, codes, if◌then◌else◌}
use Rattle.std.specs.Bool.{MatchBool}
use Rattle.std.specs.Cmp.Lexicographic.{pointwise}
use Rattle.std.specs.List.{AllZip, slice_split, position_or_len, before_first, after_first}
use Rattle.std.specs.Str.{IsUtf8}
use Rattle.std.specs.Str.Parse.{signed_digits_value}
use Rattle.otel_common.specs.declared.attributes.KeyValue.{KeyValue}
use Rattle.otel_common.specs.declared.attributes.Value.{Value}
use Rattle.otel_common.specs.declared.attributes.Value.TheVariants as value
use Rattle.percent_encoding.specs.Percent.{percent_decode}
use Rattle.metrics_script.specs.Numbers.{IsSigned}

-- `,`
abbrev pub is_comma : ℕ → Bool
is_comma byte = byte == 44

-- `=`
abbrev pub is_equals_sign : ℕ → Bool
is_equals_sign byte = byte == 61

-- `true` or `false`
abbrev pub IsTruthWord : List ℕ → Bool → Type 0
IsTruthWord word truth = word ≡ (if truth then codes "true" else codes "false")

-- `b:` and a truth value, `i:` and a signed number, or `s:` and a text with escapes that has to be UTF-8; there are no
-- arrays
abbrev pub IsValueWord : List ℕ → Value → Type 0
IsValueWord word (value.Bool truth) = (rest : List ℕ) × (word ≡ codes "b:" ++ rest) × IsTruthWord rest truth
IsValueWord word (value.I64 number) = (digits : List ℕ) × (word ≡ codes "i:" ++ digits) × IsSigned digits × (number ≡ signed_digits_value 10 digits)
IsValueWord word (value.String text) = (escaped : List ℕ) × (word ≡ codes "s:" ++ escaped) × (text ≡ percent_decode escaped) × IsUtf8 text
IsValueWord word (value.Array _) = ⊥

-- before the first `=` stands the key, with escapes, which has to be UTF-8; after it stands the value
abbrev pub IsAttributeWord : List ℕ → KeyValue → Type 0
IsAttributeWord word attribute = (position_or_len is_equals_sign word < length word) × (attribute.key ≡ percent_decode (before_first is_equals_sign word)) × IsUtf8 attribute.key × IsValueWord (after_first is_equals_sign word) attribute.value

-- `-` for none, or else attributes with commas between them
abbrev pub ReadsAttributes : List ℕ → List KeyValue → Type 0
ReadsAttributes word attributes = MatchBool (pointwise ◌==◌ word (codes "-")) (attributes ≡ []) (AllZip IsAttributeWord (slice_split is_comma word) attributes)
