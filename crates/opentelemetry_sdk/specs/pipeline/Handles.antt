-- Handles in one reader's streams (Metrics API, "Synchronous Instrument API").
use Rattle.std.specs.Prelude.{◌≡◌, ℕ, true, false, List, [], All, None}
use Rattle.std.specs.List.{AllByRecursion as EachOf}
use Rattle.otel_stream.specs.declared.observation.Observed.{Observed}
use Rattle.otel_common.specs.declared.attributes.KeyValue.{KeyValue}
use Rattle.otel_model_stream.specs.Events.{held_by}
use Rattle.otel_model.specs.Calls.{is_observable, Call, Record, Bind, RecordBound, Unbind}
use Rattle.otel_aggregate.specs.Any.{is_signed_value}
use Rattle.otel_model.specs.Demands.{Identity}
use Rattle.otel_model.specs.Sent.{is_fed}
use Rattle.otel_model.specs.State.{Stream, ReaderPart}
use Rattle.opentelemetry_sdk.specs.pipeline.Pipelines.{Piped, IsReadyFor, FeedsType, number_of, part_of}
use Rattle.opentelemetry_sdk.specs.declared.pipeline.change.Change.{Change}
use Rattle.opentelemetry_sdk.specs.declared.pipeline.change.Change.TheVariants as change

-- ======== what the streams of a reader have ========
-- the instrument feeds only streams of synchronous instruments
abbrev pub FeedsSynchronous : ℕ → ReaderPart → Type 0
FeedsSynchronous instrument p = (x : Identity) → is_fed p.feeds instrument x ≡ true → is_observable x.kind ≡ false

-- the instrument feeds only streams of observable instruments
abbrev pub FeedsObservable : ℕ → ReaderPart → Type 0
FeedsObservable instrument p = (x : Identity) → is_fed p.feeds instrument x ≡ true → is_observable x.kind ≡ true

-- the same of the instruments of all these observations
abbrev pub AreObservableFor : List Observed → ReaderPart → Type 0
AreObservableFor os p = All (λ (o : Observed). FeedsObservable o.instrument p) os

-- no stream has a live handle with this number
abbrev pub IsNewAt : ℕ → ReaderPart → Type 0
IsNewAt h p = EachOf (λ (q : Stream). held_by h q.machine.live ≡ None) p.streams

-- only streams that the instrument feeds have a live handle with this number
abbrev pub IsHeldByFed : ℕ → ℕ → ReaderPart → Type 0
IsHeldByFed instrument h p = EachOf (λ (q : Stream). is_fed p.feeds instrument q.demand.identity ≡ false → held_by h q.machine.live ≡ None) p.streams

-- ======== changes ========
-- the change, of the streams that the instrument feeds, stands for this call, where the next handle has the number `next`
abbrev pub StandsFor : ℕ → Change → ℕ → Call → Piped → Type 0
StandsFor n (change.Prepared value) next call p = (l : List KeyValue) × (call ≡ Record n (number_of value) l) × IsReadyFor false n l p × FeedsType n (is_signed_value value) (part_of p)
StandsFor n (change.Each values) next call p = ⊥
StandsFor n (change.Empty value) next call p = (call ≡ Record n (number_of value) []) × FeedsType n (is_signed_value value) (part_of p)
StandsFor n (change.Held h place value) next call p = (call ≡ RecordBound h (number_of value)) × FeedsType n (is_signed_value value) (part_of p) × FeedsSynchronous n (part_of p) × IsHeldByFed n h (part_of p)
StandsFor n (change.Bind h) next call p = (l : List KeyValue) × (call ≡ Bind n l) × (h ≡ next) × IsReadyFor true n l p × FeedsSynchronous n (part_of p) × IsNewAt h (part_of p)
StandsFor n (change.Unbind h) next call p = (call ≡ Unbind h) × FeedsSynchronous n (part_of p) × IsHeldByFed n h (part_of p)
