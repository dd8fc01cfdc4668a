-- Views in a script.
use Rattle.std.specs.Prelude.{◌≡◌, ◌==◌, ℕ, List, [], codes, Option, Some, None, MatchOption}
use Rattle.std.specs.Bool.{MatchBool}
use Rattle.std.specs.Cmp.Lexicographic.{pointwise}
use Rattle.otel_stream.specs.declared.selector.InstrumentSelector.{InstrumentSelector}
use Rattle.otel_stream.specs.declared.selector.NameCriterion.TheVariants.{Exact}
use Rattle.otel_stream.specs.declared.selector.SelectorView.{SelectorView}
use Rattle.otel_stream.specs.Selectors.{any_instrument}
use Rattle.metrics_script.specs.Options.{ReadsText}
use Rattle.metrics_script.specs.Streams.{ReadsStream}

-- selects the instruments of a name, or all if there is none
abbrev pub selector_of : Option (List ℕ) → InstrumentSelector
selector_of None = any_instrument
selector_of (Some name) = record any_instrument { name = Some (Exact name) }

-- the word `*` for all instruments, or else a name
abbrev pub IsSelectorWord : List ℕ → Option (List ℕ) → Type 0
IsSelectorWord word name = MatchBool (pointwise ◌==◌ word (codes "*")) (name ≡ None) (MatchOption name ⊥ (ReadsText word))

-- the instruments of the view, and what is said of their streams
abbrev pub ReadsView : List ℕ → List (List ℕ) → SelectorView → Type 0
ReadsView word words view = (name : Option (List ℕ)) × IsSelectorWord word name × (view.selector ≡ selector_of name) × ReadsStream words view.stream
