-- How a collection takes observations in, and the drafts that it takes them into (Metrics SDK, "Observations inside
-- asynchronous callbacks").
use Rattle.std.specs.Prelude.{◌≡◌, ℕ, true, List, [], ◌∷◌, fold, All, Option, Some, IfSome, slice_get}
use Rattle.std.specs.Option.{option_map}
use Rattle.otel_stream.specs.declared.observation.Observed.{Observed}
use Rattle.otel_aggregate.specs.Any.{DraftContents, form_of, is_signed_value, amount_of}
use Rattle.otel_model.specs.Calls as model
use Rattle.otel_model.specs.Calls.{or_else, is_observable}
use Rattle.otel_model.specs.Demands.{Demand}
use Rattle.otel_model.specs.State.{ReaderPart}
use Rattle.otel_model.specs.Streams.{aggregate_of}
use Rattle.opentelemetry_sdk.specs.pipeline.Pipelines.{FeedsType, all_without_pending, changed_each}
use Rattle.opentelemetry_sdk.specs.pipeline.Streams.{StreamContents, contents_after_record, without_pending}

-- an observation in the words of the model
abbrev pub observed_of : Observed → model.Observed
observed_of o = record { instrument = o.instrument; value = record { signed = is_signed_value o.value; amount = amount_of o.value }; attributes = o.attributes }

-- each observation has the number type of the streams that its instrument feeds
abbrev pub AreTypedFor : List Observed → ReaderPart → Type 0
AreTypedFor os p = All (λ o. FeedsType o.instrument (is_signed_value o.value) p) os

-- ======== taken in ========
-- the numbers of the streams that take an observation in
abbrev pub observing_numbers : List (List ℕ) → Observed → List ℕ
observing_numbers feeds o = or_else (slice_get feeds o.instrument) []

-- the streams, once those that its instrument feeds take an observation in, as a record
abbrev pub observed_in : List (List ℕ) → List StreamContents → Observed → List StreamContents
observed_in feeds streams o = changed_each (contents_after_record o.value o.attributes) (observing_numbers feeds o) streams

-- the streams, once these observations are taken in, one after another
abbrev pub observed_all : List (List ℕ) → List Observed → List StreamContents → List StreamContents
observed_all feeds os streams = fold (observed_in feeds) streams os

-- ======== drafts ========
-- a draft with what this stream has
abbrev pub draft_of : StreamContents → DraftContents
draft_of h = record { is_signed = h.stream.demand.identity.signed; form = form_of (aggregate_of h.stream.demand); table = h.stream.machine.table; recorded = h.stream.recorded }

-- the draft can change places with a stream of this demand: number type and form are the same, and the instrument is
-- observable, so that no handle holds an entry
pub record IsDraftOf (d : DraftContents) (demand : Demand) : Type 0 where
  pub number : d.is_signed ≡ demand.identity.signed
  pub form : d.form ≡ form_of (aggregate_of demand)
  pub observable : is_observable demand.identity.kind ≡ true

-- the stream with what its draft has in place of its own, if it has a draft; in any case nothing is prepared, and no
-- room is made
abbrev pub drafted : Option DraftContents → StreamContents → StreamContents
drafted d h = record (without_pending h) {
  stream = record h.stream {
    machine = record h.stream.machine { table = or_else (option_map (λ x. x.table) d) h.stream.machine.table };
    recorded = or_else (option_map (λ x. x.recorded) d) h.stream.recorded;
  };
}

-- the same for each stream of a list
abbrev pub drafted_all : List (Option DraftContents) → List StreamContents → List StreamContents
drafted_all [] hs = all_without_pending hs
drafted_all (d ∷ ds) [] = []
drafted_all (d ∷ ds) (h ∷ hs) = drafted d h ∷ drafted_all ds hs

-- the drafts can change places with these streams
abbrev pub AreDraftsOf : List (Option DraftContents) → List StreamContents → Type 0
AreDraftsOf [] hs = Unit {0}
AreDraftsOf (d ∷ ds) [] = ⊥
AreDraftsOf (d ∷ ds) (h ∷ hs) = IfSome d (λ x. IsDraftOf x h.stream.demand) × AreDraftsOf ds hs

-- the stream with this number, if there is one, is of an observable instrument
abbrev pub IsObservable : List StreamContents → ℕ → Type 0
IsObservable streams n = (h : StreamContents) → slice_get streams n ≡ Some h → is_observable h.stream.demand.identity.kind ≡ true

-- the same of the streams with these numbers
abbrev pub AreObservable : List StreamContents → List ℕ → Type 0
AreObservable streams ns = All (IsObservable streams) ns

-- the same of the streams that take these observations in
abbrev pub AreObservableIn : List (List ℕ) → List Observed → List StreamContents → Type 0
AreObservableIn feeds os streams = All (λ o. AreObservable streams (observing_numbers feeds o)) os
