-- A value for each kind of instrument (Metrics SDK, "Instrument").
use Rattle.std.specs.Prelude.{Option, None}
use Rattle.otel_stream.specs.declared.by_kind.ByKind.{ByKind}
use Rattle.otel_stream.specs.declared.instrument.InstrumentKind.{InstrumentKind}
use Rattle.otel_stream.specs.declared.instrument.InstrumentKind.TheVariants.{Counter, UpDownCounter, Histogram, ObservableCounter, ObservableUpDownCounter, Gauge, ObservableGauge}

-- the value for a kind
abbrev pub at_kind : {A : Type 0} → ByKind A → InstrumentKind → A
at_kind values Counter = values.counter
at_kind values UpDownCounter = values.up_down_counter
at_kind values Histogram = values.histogram
at_kind values ObservableCounter = values.observable_counter
at_kind values ObservableUpDownCounter = values.observable_up_down_counter
at_kind values Gauge = values.gauge
at_kind values ObservableGauge = values.observable_gauge

-- no value for any kind
abbrev pub for_no_kind : {A : Type 0} → ByKind (Option A)
for_no_kind = record {
  counter = None;
  up_down_counter = None;
  histogram = None;
  observable_counter = None;
  observable_up_down_counter = None;
  gauge = None;
  observable_gauge = None;
}
