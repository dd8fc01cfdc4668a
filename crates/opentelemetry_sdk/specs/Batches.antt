-- Records of series that all streams know, which are made series by series.
use Rattle.std.specs.Prelude.{◌≡◌, ℕ, List, [], ◌∷◌, map, slice_get, true, None}
use Rattle.std.specs.List.{AllByRecursion as EachOf}
use Rattle.otel_data.specs.declared.numbers.NumberValue.{NumberValue}
use Rattle.otel_model.specs.Places.{HasPlaces}
use Rattle.otel_model.specs.Refusals.{record_refusal}
use Rattle.otel_model.specs.State.{InstrumentState, ReaderPart, State}
use Rattle.opentelemetry_sdk.specs.Correspondence.{number_of}
use Rattle.opentelemetry_sdk.specs.Groups.{listed_at, series_at}
use Rattle.opentelemetry_sdk.specs.Known.{is_known}
use Rattle.opentelemetry_sdk.specs.States.{IsSound}
use Rattle.opentelemetry_sdk.specs.pipeline.Pipelines.{Piped, changed_by, part_of}
use Rattle.opentelemetry_sdk.specs.pipeline.Streams.{contents_prepared}
use Rattle.opentelemetry_sdk.specs.declared.metrics.shared.series.Series.{Series}

-- in this state of a provider the readers have these parts, and the instruments are these
pub record IsIn (st : State) (ps : List ReaderPart) (is : List InstrumentState) : Type 0 where
  pub sound : IsSound st
  pub readers : st.readers ≡ ps
  pub instruments : st.shared.instruments ≡ is

-- the instrument of the series takes these values, and all streams that it feeds know the series' attributes: a record of
-- them makes no entry there
pub record IsKnownGroup (ss : List Series) (st : State) (g : ℕ × List NumberValue) : Type 0 where
  pub taken : EachOf (λ (v : NumberValue). record_refusal (slice_get st.shared.instruments (series_at ss g.0).instrument) (number_of v).signed ≡ None) g.1
  pub known : is_known (series_at ss g.0).instrument (series_at ss g.0).attributes st ≡ true
  pub placed : HasPlaces (listed_at ss g.0) st

-- a reader, once a record of the series is prepared beside the others, to be made before them
abbrev pub prepared_of : Series → Piped → Piped
prepared_of s p = changed_by (contents_prepared s.attributes) s.instrument p

-- the same of each of these series, the first one to be made first
abbrev pub prepared_for : List Series → List (ℕ × List NumberValue) → Piped → Piped
prepared_for ss [] p = p
prepared_for ss (g ∷ gs) p = prepared_of (series_at ss g.0) (prepared_for ss gs p)

-- in this state of a provider all streams know these series, and these are its readers, with records of the series prepared
pub record AreReadyIn (ss : List Series) (gs : List (ℕ × List NumberValue)) (st : State) (ps : List Piped) (is : List InstrumentState) : Type 0 where
  pub readers : List Piped
  pub prepared : ps ≡ map (prepared_for ss gs) readers
  pub inside : IsIn st (map part_of readers) is
  pub known : EachOf (IsKnownGroup ss st) gs
