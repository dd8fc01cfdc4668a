-- The run that the rows on laws speak of: a view, two readers, three instruments with units and descriptions, a bound
-- handle, a refused record, a collection of the second reader, and records after it.
use Rattle.std.specs.Prelude.{ℕ, Bool, false, true, List, [], ◌∷◌, Some, None}
use Rattle.otel_data.specs.declared.aggregated.AggregatedMetrics.TheVariants.{U64}
use Rattle.otel_data.specs.declared.aggregated.MetricData.TheVariants as data_of
use Rattle.otel_data.specs.declared.collections.Metric.{Metric}
use Rattle.otel_data.specs.declared.collections.ResourceMetrics.{ResourceMetrics}
use Rattle.otel_data.specs.declared.points.SumDataPoint.{SumDataPoint}
use Rattle.otel_model_stream.specs.Sets.{AttributeSet}
use Rattle.otel_model_stream.specs.Folds.{Fold, Total, Last}
use Rattle.otel_model_stream.specs.Entries.{Entry}
use Rattle.otel_model_stream.specs.Events.{Handles}
use Rattle.otel_model_stream.specs.Machine.{Machine}
use Rattle.otel_model.specs.Calls.{Text, InstrumentKind, Counter, ObservableCounter, About, Call, Meter, Build, Record, Bind, RecordBound, Collect, UnknownInstrument, Reply}
use Rattle.otel_model.specs.Demands.{Sum, Delta, Temporality, Identity, Demand, Views, ReaderAnswers, nothing_said}
use Rattle.otel_model.specs.Given.{Heading}
use Rattle.otel_model.specs.Machine.{new_state}
use Rattle.otel_model.specs.Resources.{Resource}
use Rattle.otel_model.specs.State.{InstrumentState, Shared, Stream, ReaderPart, State}
use Rattle.otel_model_rows.specs.Rows.{a, b, m, about, add, observe, pair, u64, x1, y1, if_named, cumulative, delta}

-- ======== the calls ========
abbrev pub c : Text
c = 99 ∷ []

abbrev pub unit_1 : Text
unit_1 = 49 ∷ []

abbrev pub product : Resource
product = record { attributes = pair 97 1 ∷ []; schema_url = None }

-- the view describes the first instrument's stream, and limits it to one set
abbrev pub views : Views
views = if_named a (record nothing_said { description = Some b; limit = Some 1 }) ∷ []

abbrev pub readers : List ReaderAnswers
readers = cumulative ∷ delta ∷ []

abbrev pub start : State
start = new_state product 5 readers

abbrev with_unit : About → About
with_unit i = record i { unit = Some unit_1 }

abbrev pub calls : List Call
calls = Meter m
    ∷ Build (Some 0) (with_unit (about Counter a)) 100
    ∷ Build (Some 0) (with_unit (about Counter b)) 110
    ∷ Build (Some 0) (about ObservableCounter c) 120
    ∷ add 3 x1
    ∷ Bind 0 x1
    ∷ Record 1 (u64 2) []
    ∷ Record 7 (u64 9) []
    ∷ Collect 1 200 (observe 2 10 x1 ∷ [])
    ∷ RecordBound 0 (u64 4)
    ∷ Record 1 (u64 6) y1
    ∷ []

-- ======== the replies ========
abbrev pub point : AttributeSet → ℕ → SumDataPoint ℕ
point s n = record { attributes = s; exemplars = []; value = n }

abbrev pub metric : Text → Text → Text → ℕ → Temporality → List (SumDataPoint ℕ) → Metric
metric name description unit from temporality points = record {
  name = name;
  description = description;
  unit = unit;
  content = U64 (data_of.Sum (record { data_points = points; start_time = from; time = 200; temporality = temporality; is_monotonic = true }));
}

abbrev pub collected : ResourceMetrics
collected = record {
  resource = product;
  scope_metrics = record {
    scope = m;
    metrics = metric a b unit_1 100 Delta (point x1 3 ∷ []) ∷ metric b [] unit_1 110 Delta (point [] 2 ∷ []) ∷ metric c [] [] 120 Delta (point x1 10 ∷ []) ∷ [];
  } ∷ [];
}

abbrev pub replies : List Reply
replies = Reply.Meter (Some 0)
    ∷ Reply.Instrument 0
    ∷ Reply.Instrument 1
    ∷ Reply.Instrument 2
    ∷ Reply.Done
    ∷ Reply.Handle 0
    ∷ Reply.Done
    ∷ Reply.Refused UnknownInstrument
    ∷ Reply.Collected collected
    ∷ Reply.Done
    ∷ Reply.Done
    ∷ []

-- ======== the state after them ========
abbrev identity_of : InstrumentKind → Text → Text → Text → Identity
identity_of kind name description unit = record { scope = m; kind = kind; signed = false; description = description; unit = unit; name = name }

abbrev summed : ℕ → Identity → Demand
summed limit x = record { identity = x; spelling = x.name; aggregation = Sum; allow = None; limit = limit }

abbrev pub demand_a : Demand
demand_a = summed 1 (identity_of Counter a b unit_1)

abbrev pub demand_b : Demand
demand_b = summed 2000 (identity_of Counter b [] unit_1)

abbrev pub demand_c : Demand
demand_c = summed 2000 (identity_of ObservableCounter c [] [])

abbrev pub heading_a : Heading
heading_a = record { scope = m; name = a; description = b; unit = unit_1; signed = false }

abbrev pub heading_b : Heading
heading_b = record { scope = m; name = b; description = []; unit = unit_1; signed = false }

-- an entry that was updated
abbrev pub entry : AttributeSet → ℕ → ℕ → Entry
entry s total handles = record { set = s; counted = true; updated = true; fold = Total total; handles = handles }

abbrev pub machine_of : Fold → Bool → List Entry → Handles → Machine
machine_of none updated entries live = record { table = record { none = record { set = []; counted = false; updated = updated; fold = none; handles = 0 }; entries = entries }; live = live }

-- of the reader of deltas: 4 at x are pending, and 6 at y
abbrev pub stream_a : Stream
stream_a = record { demand = demand_a; machine = machine_of (Total 0) false (entry x1 4 1 ∷ []) ((0, x1) ∷ []); start = 200; reported = []; recorded = 7; exported = 3 }

abbrev pub stream_b : Stream
stream_b = record { demand = demand_b; machine = machine_of (Total 0) false (entry y1 6 0 ∷ []) []; start = 200; reported = []; recorded = 8; exported = 2 }

-- 10 was observed at x
abbrev pub stream_c : Stream
stream_c = record { demand = demand_c; machine = machine_of (Last 0) false [] []; start = 200; reported = (x1, Last 10) ∷ []; recorded = 0; exported = 0 }

-- of the other reader: all that was recorded is pending
abbrev pub total_a : Stream
total_a = record { demand = demand_a; machine = machine_of (Total 0) false (entry x1 7 1 ∷ []) ((0, x1) ∷ []); start = 100; reported = []; recorded = 7; exported = 0 }

abbrev pub total_b : Stream
total_b = record { demand = demand_b; machine = machine_of (Total 2) true (entry y1 6 0 ∷ []) []; start = 110; reported = []; recorded = 8; exported = 0 }

abbrev pub total_c : Stream
total_c = record { demand = demand_c; machine = machine_of (Last 0) false [] []; start = 120; reported = []; recorded = 0; exported = 0 }

abbrev pub fed : List (List Identity)
fed = (demand_a.identity ∷ []) ∷ (demand_b.identity ∷ []) ∷ (demand_c.identity ∷ []) ∷ []

abbrev pub part_of : ReaderAnswers → Stream → Stream → Stream → ReaderPart
part_of answers s t u = record { answers = answers; fates = demand_a ∷ demand_b ∷ demand_c ∷ []; streams = s ∷ t ∷ u ∷ []; feeds = fed }

abbrev pub totals_part : ReaderPart
totals_part = part_of cumulative total_a total_b total_c

abbrev pub deltas_part : ReaderPart
deltas_part = part_of delta stream_a stream_b stream_c

-- an instrument that accepted this many records, and what they add up to
abbrev pub accepting : InstrumentKind → ℕ → ℕ → InstrumentState
accepting kind count sum = record { kind = kind; signed = false; count = count; sum = sum }

abbrev pub instruments : List InstrumentState
instruments = accepting Counter 2 7 ∷ accepting Counter 2 8 ∷ accepting ObservableCounter 0 0 ∷ []

abbrev pub shared : Shared
shared = record { resource = product; identity = 5; meters = m ∷ []; instruments = instruments; live = (0, 0) ∷ []; next = 1; shut = false }

abbrev pub state_with : ReaderPart → State
state_with p = record { shared = shared; readers = totals_part ∷ p ∷ [] }

abbrev pub state : State
state = state_with deltas_part
