-- What the worked rows of this crate are written in: attributes, values, and a provider in some states.
use Rattle.std.specs.Prelude.{ℕ, pos, false, List, [], ◌∷◌, Some, None}
use Rattle.otel_common.specs.declared.attributes.KeyValue.{KeyValue}
use Rattle.otel_common.specs.declared.attributes.Value.TheVariants as value
use Rattle.otel_common.specs.declared.metrics.Temporality.TheVariants.{Cumulative}
use Rattle.otel_common.specs.declared.scopes.InstrumentationScope.{InstrumentationScope}
use Rattle.otel_stream.specs.Answers.{ReaderAnswers, answers_preferring, answers_wanting}
use Rattle.otel_model.specs.Calls.{InstrumentKind, Counter, ObservableCounter, About, Number, Meter, Build, Record, Shutdown}
use Rattle.otel_model.specs.Machine.{new_state}
use Rattle.otel_model.specs.Resources.{empty_resource}
use Rattle.otel_model.specs.State.{State}
use Rattle.otel_model.specs.Steps.{after, state_of}

-- an attribute with a key of one byte and an integer
abbrev pub pair : ℕ → ℕ → KeyValue
pair key n = record { key = key ∷ []; value = value.I64 (pos n) }

abbrev pub x1 : List KeyValue
x1 = pair 120 1 ∷ []

abbrev pub y1 : List KeyValue
y1 = pair 121 1 ∷ []

abbrev pub z1 : List KeyValue
z1 = pair 122 1 ∷ []

abbrev pub u64 : ℕ → Number
u64 n = record { signed = false; amount = record { bits = n; wide = pos n } }

abbrev pub m : InstrumentationScope
m = record { name = 109 ∷ []; version = None; schema_url = None; attributes = [] }

abbrev pub about : InstrumentKind → About
about kind = record { kind = kind; signed = false; name = 97 ∷ []; description = None; unit = None; bounds = None }

abbrev pub cumulative : ReaderAnswers
cumulative = answers_preferring Cumulative

-- a reader with room for one set in each stream
abbrev pub limited : ReaderAnswers
limited = answers_wanting (λ kind. Cumulative) (λ kind. Some 1) (λ kind. None)

-- a provider of these readers, with a counter, an observable counter, and a counter without a scope, which feeds nothing
abbrev pub begun_with : List ReaderAnswers → State
begun_with readers = state_of [] (new_state empty_resource 7 readers) (Meter m ∷ Build (Some 0) (about Counter) 100 ∷ Build (Some 0) (about ObservableCounter) 100 ∷ Build None (about Counter) 100 ∷ [])

abbrev pub begun : State
begun = begun_with (cumulative ∷ [])

-- the same after a shutdown
abbrev pub ended : State
ended = after [] begun Shutdown

-- with a limited reader behind another one; the counter took records of both sets
abbrev pub used : State
used = state_of [] (begun_with (cumulative ∷ limited ∷ [])) (Record 0 (u64 1) x1 ∷ Record 0 (u64 1) y1 ∷ [])
