-- What a temporality preference means for each kind of instrument (Metrics SDK, "MetricReader").
use Rattle.otel_common.specs.declared.metrics.Temporality.{Temporality}
use Rattle.otel_common.specs.declared.metrics.Temporality.TheVariants.{Cumulative, Delta, LowMemory}
use Rattle.otel_stream.specs.declared.instrument.InstrumentKind.{InstrumentKind}
use Rattle.otel_stream.specs.declared.instrument.InstrumentKind.TheVariants.{Counter, UpDownCounter, Histogram, ObservableUpDownCounter}

-- `Cumulative` is cumulative for every kind, `Delta` is delta for all but the two up-down kinds, and `LowMemory` is
-- delta only for `Counter` and `Histogram`
abbrev pub temporality_preference : InstrumentKind → Temporality → Temporality
temporality_preference kind Cumulative = Cumulative
temporality_preference UpDownCounter Delta = Cumulative
temporality_preference ObservableUpDownCounter Delta = Cumulative
temporality_preference kind Delta = Delta
temporality_preference Counter LowMemory = Delta
temporality_preference Histogram LowMemory = Delta
temporality_preference kind LowMemory = Cumulative
