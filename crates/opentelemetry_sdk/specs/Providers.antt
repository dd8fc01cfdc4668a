-- What a provider and its builder are in the words of the model. `P` is the bundle of their parts, `V` the type of
-- their views, `R` that of their readers, `U` and `I` those of their callbacks for unsigned and for signed values.
use Rattle.std.specs.Prelude.{ℕ, List, Option, map}
use Rattle.otel_stream.specs.declared.registered.Registered.{Registered}
use Rattle.otel_aggregate.specs.value_map.Hashing.{unseeded}
use Rattle.otel_common.specs.declared.metrics.Aggregation.{Aggregation}
use Rattle.otel_common.specs.declared.metrics.Temporality.{Temporality}
use Rattle.otel_model.specs.Demands.{Instrument, ReaderAnswers, StreamSpec, Views}
use Rattle.otel_model.specs.Resources.{Resource}
use Rattle.otel_model.specs.State.{State}
use Rattle.otel_stream.specs.Requests.{Wanted, wanted_by}
use Rattle.otel_stream.specs.declared.instrument.InstrumentKind.{InstrumentKind}
use Rattle.opentelemetry_sdk.specs.declared.provider.Provider.{Provider}
use Rattle.opentelemetry_sdk.specs.declared.provider.ProviderBuilder.{ProviderBuilder}

-- the resource of a builder
abbrev pub resource_of : {P V R U I : Type 0} → ProviderBuilder P V R U I → Resource
resource_of b = b.resource

-- the identity of its provider
abbrev pub identity_of_builder : {P V R U I : Type 0} → ProviderBuilder P V R U I → ℕ
identity_of_builder b = b.identity

-- the seed of a builder that was given none
abbrev pub fixed_hash_seed : ℕ
fixed_hash_seed = unseeded.seed

-- the seed from which its provider hashes sets
abbrev pub hash_seed_of_builder : {P V R U I : Type 0} → ProviderBuilder P V R U I → ℕ
hash_seed_of_builder b = b.hasher.seed

-- what each of a builder's readers answered for each kind of instrument
abbrev pub answers_of_readers : {P V R U I : Type 0} → ProviderBuilder P V R U I → List ReaderAnswers
answers_of_readers b = b.answers

-- a provider's state: all of it but the views, the readers and the callbacks
abbrev pub state_of : {P V R U I : Type 0} → Provider P V R U I → State
state_of p = p.core.state

-- a provider's identity
abbrev pub identity_of : {P V R U I : Type 0} → Provider P V R U I → ℕ
identity_of p = p.core.state.shared.identity

-- the seed from which a provider hashes sets of attributes, on which no reply depends
abbrev pub hash_seed_of : {P V R U I : Type 0} → Provider P V R U I → ℕ
hash_seed_of p = p.core.hash_seed

-- the readers of a builder
abbrev pub builder_readers : {P V R U I : Type 0} → ProviderBuilder P V R U I → List R
builder_readers b = b.readers.items

-- the readers of a provider
abbrev pub provider_readers : {P V R U I : Type 0} → Provider P V R U I → List R
provider_readers p = p.readers.items

-- what each of a provider's readers wants, as these functions of a reader say
abbrev pub wants_of : {P V R U I : Type 0} → (R → InstrumentKind → Temporality) → (R → InstrumentKind → Option ℕ) → (R → InstrumentKind → Option Aggregation) → Provider P V R U I → List Wanted
wants_of preference limit aggregation p = map (wanted_by preference limit aggregation) p.readers.items

-- the views of a provider, as what they answer
abbrev pub views_of : {P V R U I : Type 0} → (V → Instrument → Option StreamSpec) → Provider P V R U I → Views
views_of answer p = map answer p.views.items

-- the views themselves
abbrev pub builder_views : {P V R U I : Type 0} → ProviderBuilder P V R U I → List V
builder_views b = b.views.items

abbrev pub provider_views : {P V R U I : Type 0} → Provider P V R U I → List V
provider_views p = p.views.items

-- the callbacks of a provider, in order of registration
abbrev pub callbacks_of : {P V R U I : Type 0} → Provider P V R U I → List (Registered U I)
callbacks_of p = p.callbacks.items
