-- Kinds of instruments in a script.
use Rattle.std.specs.Prelude.{ℕ, List, codes}
use Rattle.otel_stream.specs.declared.instrument.InstrumentKind.{InstrumentKind}
use Rattle.otel_stream.specs.declared.instrument.InstrumentKind.TheVariants.{Counter, UpDownCounter, Histogram, ObservableCounter, ObservableUpDownCounter, Gauge, ObservableGauge}

-- the word for each kind
abbrev pub kind_word : InstrumentKind → List ℕ
kind_word Counter = codes "counter"
kind_word UpDownCounter = codes "updowncounter"
kind_word Histogram = codes "histogram"
kind_word ObservableCounter = codes "observablecounter"
kind_word ObservableUpDownCounter = codes "observableupdowncounter"
kind_word Gauge = codes "gauge"
kind_word ObservableGauge = codes "observablegauge"
