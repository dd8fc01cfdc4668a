-- Words of the lines that are calls.
use Rattle.std.specs.Prelude.{◌≡◌, ℕ, List, codes, Option, Some, None}
use Rattle.std.specs.Str.Parse.{digits_value}
use Rattle.otel_stream.specs.declared.observation.Observed.{Observed}
use Rattle.opentelemetry_sdk.specs.declared.calls.Call.{Call}
use Rattle.opentelemetry_sdk.specs.declared.calls.Call.TheVariants.{Collect}
use Rattle.opentelemetry_sdk.specs.declared.values.sorts.InstrumentSort.{InstrumentSort}
use Rattle.opentelemetry_sdk.specs.declared.values.sorts.InstrumentSort.TheVariants.{U64Counter, U64ObservableCounter, I64UpDownCounter, I64ObservableUpDownCounter, U64Gauge, I64Gauge, U64ObservableGauge, I64ObservableGauge, U64Histogram}
use Rattle.metrics_script.specs.Attributes.{ReadsAttributes}
use Rattle.metrics_script.specs.Numbers.{IsUnsigned, IsNumberWord}

-- an unsigned number, such as that of a meter, an instrument or a reader, a moment, or a limit
abbrev pub IsIndexWord : List ℕ → ℕ → Type 0
IsIndexWord word number = IsUnsigned word × (number ≡ digits_value 10 word)

-- the number of a meter, or `none`
abbrev pub IsMeterWord : List ℕ → Option ℕ → Type 0
IsMeterWord word None = word ≡ codes "none"
IsMeterWord word (Some number) = IsIndexWord word number

-- the name of the builder of this sort of instrument
abbrev pub IsSortWord : List ℕ → InstrumentSort → Type 0
IsSortWord word U64Counter = word ≡ codes "u64_counter"
IsSortWord word U64ObservableCounter = word ≡ codes "u64_observable_counter"
IsSortWord word I64UpDownCounter = word ≡ codes "i64_up_down_counter"
IsSortWord word I64ObservableUpDownCounter = word ≡ codes "i64_observable_up_down_counter"
IsSortWord word U64Gauge = word ≡ codes "u64_gauge"
IsSortWord word I64Gauge = word ≡ codes "i64_gauge"
IsSortWord word U64ObservableGauge = word ≡ codes "u64_observable_gauge"
IsSortWord word I64ObservableGauge = word ≡ codes "i64_observable_gauge"
IsSortWord word U64Histogram = word ≡ codes "u64_histogram"

-- an observation: the instrument, the value and the attributes
abbrev pub IsObservedOf : List ℕ → List ℕ → List ℕ → Observed → Type 0
IsObservedOf instrument number attributes observed = IsIndexWord instrument observed.instrument × IsNumberWord number observed.value × ReadsAttributes attributes observed.attributes

-- a collection of a reader at a moment, with these observations
abbrev pub IsCollectOf : List ℕ → List ℕ → List Observed → Call → Type 0
IsCollectOf reader now observations (Collect r at observed) = IsIndexWord reader r × IsIndexWord now at × (observed ≡ observations)
IsCollectOf reader now observations _ = ⊥
