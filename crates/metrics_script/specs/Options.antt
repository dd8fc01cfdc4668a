-- Options of a line that builds an instrument.
use Rattle.std.specs.Prelude.{◌≡◌, ◌==◌, ◌<◌, ◌||◌, ℕ, Bool, IsTrue, List, map, filter, length, codes, Option, None, MatchOption}
use Rattle.std.specs.Bool.{MatchBool}
use Rattle.std.specs.Cmp.Lexicographic.{pointwise}
use Rattle.std.specs.List.{All, AllZip, position_or_len, before_first, after_first}
use Rattle.std.specs.Option.{option_to_list}
use Rattle.std.specs.Str.{IsUtf8}
use Rattle.metrics_script.specs.Attributes.{is_equals_sign}
use Rattle.metrics_script.specs.Boundaries.{ReadsBoundaries}
use Rattle.metrics_script.specs.Texts.{text_of_word}
use Rattle.metrics_script.specs.declared.options.Options.{Options}

-- a text, with escapes, that has to be UTF-8
abbrev pub ReadsText : List ℕ → List ℕ → Type 0
ReadsText word text = (text ≡ text_of_word word) × IsUtf8 text

-- whether the text before the first `=` of the word is this name
abbrev pub is_named : List ℕ → List ℕ → Bool
is_named name word = pointwise ◌==◌ (before_first is_equals_sign word) name

-- the name of an option, `=` and a value
abbrev pub IsOptionWord : List ℕ → Type 0
IsOptionWord word = (position_or_len is_equals_sign word < length word) × IsTrue (is_named (codes "description") word || is_named (codes "unit") word || is_named (codes "bounds") word)

-- the texts after the first `=` of the words with this name
abbrev pub values_named : List ℕ → List (List ℕ) → List (List ℕ)
values_named name words = map (after_first is_equals_sign) (filter (is_named name) words)

-- the option with this name: none if no word has the name, and otherwise what the only word that has it says
abbrev pub ReadsOption : {X : Type 0} → (List ℕ → X → Type 0) → List ℕ → List (List ℕ) → Option X → Type 0
ReadsOption Reads name words option = AllZip Reads (values_named name words) (option_to_list option)

-- each word is an option, and none is given twice
abbrev pub ReadsOptions : List (List ℕ) → Options → Type 0
ReadsOptions words options = All IsOptionWord words × ReadsOption ReadsText (codes "description") words options.description × ReadsOption ReadsText (codes "unit") words options.unit × ReadsOption ReadsBoundaries (codes "bounds") words options.boundaries

-- a word with this name sets the option, which was not set before; any other word leaves the option as it was
abbrev pub AddsOption : {X : Type 0} → (List ℕ → X → Type 0) → List ℕ → List ℕ → Option X → Option X → Type 0
AddsOption Reads name word old new = MatchBool (is_named name word) ((old ≡ None) × MatchOption new ⊥ (Reads (after_first is_equals_sign word))) (new ≡ old)

-- what one more word adds
abbrev pub AddsWord : List ℕ → Options → Options → Type 0
AddsWord word old new = IsOptionWord word × AddsOption ReadsText (codes "description") word old.description new.description × AddsOption ReadsText (codes "unit") word old.unit new.unit × AddsOption ReadsBoundaries (codes "bounds") word old.boundaries new.boundaries
