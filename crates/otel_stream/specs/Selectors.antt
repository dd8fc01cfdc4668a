-- Views by a selector (Metrics SDK, "Instrument selection criteria").
use Rattle.std.specs.Prelude.{ℕ, ◌==◌, ◌&&◌, ◌||◌, cond, Bool, true, false, List, [], ◌∷◌, Option, Some, None}
use Rattle.std.specs.List.{starts_with}
use Rattle.otel_common.specs.Equality.{bytes_eq}
use Rattle.otel_common.specs.declared.scopes.InstrumentationScope.{InstrumentationScope}
use Rattle.otel_stream.specs.Answers.{kind_eq}
use Rattle.otel_stream.specs.declared.instrument.Instrument.{Instrument}
use Rattle.otel_stream.specs.declared.selector.InstrumentSelector.{InstrumentSelector}
use Rattle.otel_stream.specs.declared.selector.NameCriterion.{NameCriterion}
use Rattle.otel_stream.specs.declared.selector.NameCriterion.TheVariants.{Exact, Prefix, Pattern}
use Rattle.otel_stream.specs.declared.selector.SelectorView.{SelectorView}
use Rattle.otel_stream.specs.declared.stream_spec.StreamSpec.{StreamSpec}

-- whether some end of a text fits: all of it, what is left behind its first bytes, or nothing
abbrev pub some_end : (List ℕ → Bool) → List ℕ → Bool
some_end fits [] = fits []
some_end fits (byte ∷ text) = fits (byte ∷ text) || some_end fits text

-- whether a text is one byte, any or this one, and then a text that fits
abbrev pub byte_and : Bool → ℕ → (List ℕ → Bool) → List ℕ → Bool
byte_and is_any wanted fits [] = false
byte_and is_any wanted fits (byte ∷ text) = (is_any || wanted == byte) && fits text

-- what `*` stands for is any text, and what `?` stands for is any byte
abbrev pub one_sign : Bool → ℕ → (List ℕ → Bool) → List ℕ → Bool
one_sign true sign fits text = some_end fits text
one_sign false sign fits text = byte_and (sign == 63) sign fits text

-- whether the whole text fits the pattern: `*` (42) stands for any text, `?` (63) for any byte, other bytes for themselves
abbrev pub matches : List ℕ → List ℕ → Bool
matches [] [] = true
matches [] (byte ∷ text) = false
matches (sign ∷ pattern) text = one_sign (sign == 42) sign (matches pattern) text

abbrev pub is_named : List ℕ → NameCriterion → Bool
is_named name (Exact wanted) = bytes_eq name wanted
is_named name (Prefix prefix) = starts_with ◌==◌ name prefix
is_named name (Pattern pattern) = matches pattern name

-- whether there is a text, this one
abbrev pub is_text : Option (List ℕ) → List ℕ → Bool
is_text None wanted = false
is_text (Some text) wanted = bytes_eq text wanted

-- a criterion that is not given is always met
abbrev pub is_met : {A : Type 0} → (A → Bool) → Option A → Bool
is_met test None = true
is_met test (Some wanted) = test wanted

abbrev pub selects_scope : InstrumentSelector → InstrumentationScope → Bool
selects_scope selector scope =
    is_met (bytes_eq scope.name) selector.scope_name
    && is_met (is_text scope.version) selector.scope_version
    && is_met (is_text scope.schema_url) selector.scope_schema_url

-- whether the instrument meets all criteria that are given
abbrev pub selects : InstrumentSelector → Instrument → Bool
selects selector instrument =
    is_met (is_named instrument.name) selector.name
    && is_met (kind_eq instrument.kind) selector.kind
    && is_met (bytes_eq instrument.unit) selector.unit
    && selects_scope selector instrument.scope

-- no criterion
abbrev pub any_instrument : InstrumentSelector
any_instrument = record { name = None; kind = None; unit = None; scope_name = None; scope_version = None; scope_schema_url = None }

-- the stream of the view, if it selects the instrument
abbrev pub stream_for : SelectorView → Instrument → Option StreamSpec
stream_for view instrument = cond (selects view.selector instrument) (Some view.stream) None
