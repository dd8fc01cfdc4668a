-- Which aggregations can be used with a kind of instrument (Metrics SDK, "Aggregation").
use Rattle.std.specs.Prelude.{ℕ, Bool, true, false, List, codes}
use Rattle.otel_common.specs.declared.metrics.Aggregation.{Aggregation}
use Rattle.otel_common.specs.declared.metrics.Aggregation.TheVariants.{Drop, Default, Sum, LastValue, ExplicitBucketHistogram}
use Rattle.otel_stream.specs.declared.instrument.InstrumentKind.{InstrumentKind}
use Rattle.otel_stream.specs.declared.instrument.InstrumentKind.TheVariants.{Gauge, ObservableGauge}

-- whether the aggregation can be used with the kind
abbrev pub fits : InstrumentKind → Aggregation → Bool
fits kind Drop = true
fits kind Default = true
fits kind (ExplicitBucketHistogram bounds m) = true
fits Gauge Sum = false
fits ObservableGauge Sum = false
fits kind Sum = true
fits Gauge LastValue = true
fits ObservableGauge LastValue = true
fits kind LastValue = false

-- the text of the error if it can't
abbrev pub incompatible_text : List ℕ
incompatible_text = codes "incompatible aggregation"
