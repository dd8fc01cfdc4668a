-- The laws of the model, stated of views, a list of calls and their replies: for a provider as `build` gave it, but for
-- the law on the order of attributes, which is for any provider.
use Rattle.std.specs.Prelude.{◌≡◌, ℕ, List, ◌∷◌, ◌++◌, map, Some, slice_get}
use Rattle.otel_common.specs.declared.attributes.KeyValue.{KeyValue}
use Rattle.otel_model.specs.Calls as model
use Rattle.otel_model.specs.Calls.{Number}
use Rattle.otel_model.specs.Demands.{ReaderAnswers, Views}
use Rattle.otel_model.specs.Laws.{OfReader, OfStream}
use Rattle.otel_model.specs.Machine.{new_state}
use Rattle.otel_model.specs.Resources.{Resource}
use Rattle.otel_model.specs.State.{ReaderPart, State, Stream}
use Rattle.otel_model.specs.Steps.{Run}
use Rattle.otel_model.specs.Orders.{IsReordered}
use Rattle.opentelemetry_sdk.specs.Correspondence.{call_of, reply_of}
use Rattle.opentelemetry_sdk.specs.declared.calls.Call.{Call}
use Rattle.opentelemetry_sdk.specs.declared.calls.Reply.{Reply}

-- if the provider began as built with this resource, identity and readers, P holds of them
abbrev pub FromBuilt : State → (Resource → ℕ → List ReaderAnswers → Type 0) → Type 0
FromBuilt old P = (resource : Resource) (identity : ℕ) (readers : List ReaderAnswers) → old ≡ new_state resource identity readers → P resource identity readers

-- P holds of each reader of a provider that began as built
abbrev pub OfReaders : OfReader → Views → State → List Call → List Reply → State → Type 0
OfReaders P views old calls replies new = FromBuilt old (λ resource identity readers.
    (r : ℕ) (answers : ReaderAnswers) (part : ReaderPart) → slice_get readers r ≡ Some answers → slice_get new.readers r ≡ Some part
    → P views resource (map call_of calls) (map reply_of replies) new r answers part)

-- P holds of each stream of each reader
abbrev pub OfStreams : OfStream → Views → State → List Call → List Reply → State → Type 0
OfStreams P = OfReaders (λ views resource calls replies new r answers part.
    (j : ℕ) (s : Stream) → slice_get part.streams j ≡ Some s → P views calls replies new r answers part s)

-- P holds of what each reader is answered
abbrev pub OfAnswers : (Views → Resource → ℕ → List model.Call → List model.Reply → ℕ → ReaderAnswers → Type 0) → Views → State → List Call → List Reply → Type 0
OfAnswers P views old calls replies = FromBuilt old (λ resource identity readers.
    (r : ℕ) (answers : ReaderAnswers) → slice_get readers r ≡ Some answers → P views resource identity (map call_of calls) (map reply_of replies) r answers)

-- the same replies and state also belong to the calls with the attributes of one record in another order, where no key
-- occurs twice
abbrev pub InAnyOrder : Views → State → List Call → List Reply → State → Type 0
InAnyOrder views old calls replies new = (before later : List model.Call) (n : ℕ) (v : Number) (l m : List KeyValue) → IsReordered l m
    → map call_of calls ≡ before ++ model.Record n v l ∷ later → Run views old (before ++ model.Record n v m ∷ later) (map reply_of replies) new
