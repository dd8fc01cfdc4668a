-- Samples, and how they are spelled.
use Rattle.std.specs.Prelude.{◌≡◌, ℕ, ◌^◌, ◌<◌, ◌==◌, ◌||◌, ℤ, pos, negsuc, List, [], ◌∷◌, ◌++◌, Bool, true, cond, flat_map}
use Rattle.std.specs.Char.{is_ascii_alphabetic, is_ascii_digit}
use Rattle.std.specs.Fmt.{signed_decimal}

-- a label: its name and its value
abbrev pub Pair : Type 0
Pair = List ℕ × List ℕ

-- a label with one more value, behind a semicolon
abbrev pub joined : Pair → List ℕ → Pair
joined l value = (l.0, l.1 ++ 59 ∷ value)

pub record Sample : Type 0 where
  pub name : List ℕ
  pub labels : List Pair
  pub value : ℤ

-- ======== how samples are spelled ========
-- a backslash goes before a backslash and a quote, and the end of a line is `\n`
abbrev pub escaped_byte : ℕ → List ℕ
escaped_byte b = cond (b == 92) (92 ∷ 92 ∷ []) (cond (b == 34) (92 ∷ 34 ∷ []) (cond (b == 10) (92 ∷ 110 ∷ []) (b ∷ [])))

abbrev pub escaped : List ℕ → List ℕ
escaped text = flat_map escaped_byte text

-- whether a byte can't stand for itself
abbrev pub is_special : ℕ → Bool
is_special b = (b == 92) || (b == 34) || (b == 10)

-- a text is some bytes that stand for themselves, a byte, and the rest
pub record IsSplit (text plain : List ℕ) (byte : ℕ) (rest : List ℕ) : Type 0 where
  pub whole : text ≡ plain ++ byte ∷ rest
  pub stands : escaped plain ≡ plain

-- name="value"
abbrev pub label_text : Pair → List ℕ
label_text l = l.0 ++ (61 ∷ 34 ∷ (escaped l.1 ++ 34 ∷ []))

-- a comma before each label, and the closing brace
abbrev pub more_labels_text : List Pair → List ℕ
more_labels_text [] = 125 ∷ []
more_labels_text (l ∷ ls) = 44 ∷ (label_text l ++ more_labels_text ls)

-- the labels in braces; nothing if there are none
abbrev pub labels_text : List Pair → List ℕ
labels_text [] = []
labels_text (l ∷ ls) = 123 ∷ (label_text l ++ more_labels_text ls)

-- each label with a comma, and then the last one with the closing brace
abbrev pub with_last_text : List Pair → Pair → List ℕ
with_last_text [] m = label_text m ++ 125 ∷ []
with_last_text (l ∷ ls) m = label_text l ++ 44 ∷ with_last_text ls m

-- a line: the name, the spelled labels and the digits of the value
abbrev pub line_text : List ℕ → List ℕ → List ℕ → List ℕ
line_text name labels digits = name ++ (labels ++ 32 ∷ (digits ++ 10 ∷ []))

abbrev pub sample_text : Sample → List ℕ
sample_text s = line_text s.name (labels_text s.labels) (signed_decimal s.value)

-- ======== what may be spelled ========
-- a letter or `_`
abbrev pub is_letter : ℕ → Bool
is_letter b = is_ascii_alphabetic b || (b == 95)

abbrev pub is_label_byte : ℕ → Bool
is_label_byte b = is_letter b || is_ascii_digit b

abbrev pub is_metric_letter : ℕ → Bool
is_metric_letter b = is_letter b || (b == 58)

abbrev pub is_metric_byte : ℕ → Bool
is_metric_byte b = is_label_byte b || (b == 58)

abbrev pub AreAll : (ℕ → Bool) → List ℕ → Type 0
AreAll test [] = Unit {0}
AreAll test (b ∷ bs) = (test b ≡ true) × AreAll test bs

-- [a-zA-Z_][a-zA-Z0-9_]*
abbrev pub IsLabelName : List ℕ → Type 0
IsLabelName [] = ⊥
IsLabelName (b ∷ bs) = (is_letter b ≡ true) × AreAll is_label_byte bs

-- [a-zA-Z_:][a-zA-Z0-9_:]*
abbrev pub IsMetricName : List ℕ → Type 0
IsMetricName [] = ⊥
IsMetricName (b ∷ bs) = (is_metric_letter b ≡ true) × AreAll is_metric_byte bs

abbrev pub AreLabels : List Pair → Type 0
AreLabels [] = Unit {0}
AreLabels (l ∷ ls) = IsLabelName l.0 × AreLabels ls

-- a number of 64 bits, with a sign or without
abbrev pub IsNumber : ℤ → Type 0
IsNumber (pos n) = n < 2 ^ 64
IsNumber (negsuc n) = n < 2 ^ 63

pub record IsSample (s : Sample) : Type 0 where
  pub name : IsMetricName s.name
  pub labels : AreLabels s.labels
  pub value : IsNumber s.value
