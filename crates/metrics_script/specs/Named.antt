-- Words of a line that consist of a name, `=` and a value.
use Rattle.std.specs.Prelude.{◌&&◌, ℕ, nat_lt, Bool, IsTrue, List, length, Option}
use Rattle.std.specs.List.{list_all, list_any, position_or_len}
use Rattle.metrics_script.specs.Attributes.{is_equals_sign}
use Rattle.metrics_script.specs.Options.{is_named, ReadsOption}

-- whether the word has an `=`
abbrev pub has_value : List ℕ → Bool
has_value word = nat_lt (position_or_len is_equals_sign word) (length word)

-- whether the word has one of these names before its first `=`
abbrev pub has_name_of : List (List ℕ) → List ℕ → Bool
has_name_of names word = has_value word && list_any (λ name. is_named name word) names

-- if every word has a value, the option with this name cannot be read from the words
abbrev pub ReadsNothing : {X : Type 0} → (List ℕ → X → Type 0) → List ℕ → List (List ℕ) → Type 0
ReadsNothing {X} Reads name words = IsTrue (list_all has_value words) → (option : Option X) → ¬ ReadsOption Reads name words option
