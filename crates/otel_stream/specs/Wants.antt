-- What a manual reader wants (Metrics SDK, "MetricReader").
use Rattle.std.specs.Prelude.{ℕ, Option}
use Rattle.otel_common.specs.declared.metrics.Aggregation.{Aggregation}
use Rattle.otel_common.specs.declared.metrics.Temporality.{Temporality}
use Rattle.otel_stream.specs.ByKind.{at_kind, for_no_kind}
use Rattle.otel_stream.specs.declared.instrument.InstrumentKind.{InstrumentKind}
use Rattle.otel_stream.specs.declared.wants.Wants.{Wants}

-- this temporality, and no limit or aggregation for any kind
abbrev pub temporality_alone : Temporality → Wants
temporality_alone temporality = record { temporality = temporality; limits = for_no_kind; aggregations = for_no_kind }

-- the limit for a kind, if there is one
abbrev pub limit_of : Wants → InstrumentKind → Option ℕ
limit_of wants kind = at_kind wants.limits kind

-- the aggregation for a kind, if there is one
abbrev pub aggregation_of : Wants → InstrumentKind → Option Aggregation
aggregation_of wants kind = at_kind wants.aggregations kind
