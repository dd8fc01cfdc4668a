-- The machine of a provider (Metrics SDK, "MeterProvider", "MetricReader"): how each call changes what all readers
-- share and each reader's part.
use Rattle.std.specs.Prelude.{ℕ, ◌+◌, ◌==◌, true, false, cond, List, [], ◌∷◌, ◌++◌, map, fold, Option, Some, None}
use Rattle.otel_common.specs.declared.scopes.InstrumentationScope.{InstrumentationScope}
use Rattle.otel_model_stream.specs.Sets.{AttributeSet}
use Rattle.otel_model_stream.specs.Folds.{Aggregate, Amount, wrap}
use Rattle.otel_model_stream.specs.Events.{Event, Kind, Point, held_by}
pub use Rattle.otel_model_stream.specs.Lists.{changed_at}
use Rattle.otel_model_stream.specs.Machine.{Machine, begin, step, run, points}
use Rattle.otel_model_stream.specs.Totals.{size, points_total}
use Rattle.otel_model.specs.Resources.{Resource}
use Rattle.otel_model.specs.Calls.{About, Observed, Call, Meter, Build, Record, Bind, RecordBound, Unbind, Collect, Flush, Shutdown}
use Rattle.otel_model.specs.Demands.{Identity, Views, ReaderAnswers, Demand, is_known, is_dropped, is_drop, demands_on, fed_identities}
use Rattle.otel_model.specs.Streams.{is_delta, kind_of, aggregate_of}
use Rattle.otel_model.specs.Collections.{shows_differences}
use Rattle.otel_model.specs.State.{InstrumentState, LiveHandle, Shared, Stream, ReaderPart, State}
use Rattle.otel_model.specs.Refusals.{instrument_held}
use Rattle.otel_model.specs.Sent.{has_scope, scope_of, observed_events, sent_events}

-- ======== what is shared ========
-- the meters, with one more for the scope unless it has one already: the same scope gives the same meter
abbrev pub with_meter : InstrumentationScope → List InstrumentationScope → List InstrumentationScope
with_meter scope ms = cond (has_scope scope ms) ms (ms ++ scope ∷ [])

-- a new instrument, which has accepted nothing
abbrev pub new_instrument : About → InstrumentState
new_instrument about = record { kind = about.kind; signed = about.signed; count = 0; sum = 0 }

-- the instrument after one more measurement. An instrument that ignores its measurements accepts them, too
abbrev pub instrument_after_record : Amount → InstrumentState → InstrumentState
instrument_after_record v i = record i { count = wrap (i.count + 1); sum = wrap (i.sum + v.bits) }

-- the instruments after one more measurement at the instrument of a handle; unchanged if there is none
abbrev pub accepted_by : Option ℕ → Amount → List InstrumentState → List InstrumentState
accepted_by None v is = is
accepted_by (Some n) v is = changed_at n (instrument_after_record v) is

-- the live handles without the first one with this number
abbrev pub without_handle : ℕ → List LiveHandle → List LiveHandle
without_handle h [] = []
without_handle h (p ∷ ps) = cond (p.0 == h) ps (p ∷ without_handle h ps)

-- what is shared, after a call that isn't refused. After a shutdown no meters are added
abbrev pub shared_after : Shared → Call → Shared
shared_after s (Meter scope) = record s { meters = cond s.shut s.meters (with_meter scope s.meters) }
shared_after s (Build meter about now) = record s { instruments = s.instruments ++ new_instrument about ∷ [] }
shared_after s (Record n v l) = record s { instruments = changed_at n (instrument_after_record v.amount) s.instruments }
shared_after s (Bind n l) = record s { live = s.live ++ (s.next, n) ∷ []; next = s.next + 1 }
shared_after s (RecordBound h v) = record s { instruments = accepted_by (instrument_held h s.live) v.amount s.instruments }
shared_after s (Unbind h) = record s { live = without_handle h s.live }
shared_after s (Collect r now os) = s
shared_after s Flush = s
shared_after s Shutdown = record s { shut = true }

-- ======== a stream ========
-- the machine of the stream of a demand, after these events
abbrev pub machine_after : ReaderAnswers → Demand → List Event → Machine → Machine
machine_after answers d es m = run (aggregate_of d) (kind_of answers d) d.limit m es

-- the points of a stream at a collection, once its observations are recorded
abbrev pub points_at : ReaderAnswers → List (List Identity) → List Observed → Stream → List Point
points_at answers feeds os s = points (kind_of answers s.demand) (machine_after answers s.demand (observed_events feeds s.demand os) s.machine)

-- the start time of a stream after a call: a collection of a delta stream makes its own time the new start
abbrev pub start_after : ReaderAnswers → Demand → Call → ℕ → ℕ
start_after answers d (Meter scope) start = start
start_after answers d (Build meter about now) start = start
start_after answers d (Record n v l) start = start
start_after answers d (Bind n l) start = start
start_after answers d (RecordBound h v) start = start
start_after answers d (Unbind h) start = start
start_after answers d (Collect r now os) start = cond (is_delta answers d) now start
start_after answers d Flush start = start
start_after answers d Shutdown start = start

-- the points that a stream keeps to take differences from, after a call: a collection replaces them if the stream shows
-- differences
abbrev pub reported_after : ReaderAnswers → List (List Identity) → Call → Stream → List Point
reported_after answers feeds (Meter scope) s = s.reported
reported_after answers feeds (Build meter about now) s = s.reported
reported_after answers feeds (Record n v l) s = s.reported
reported_after answers feeds (Bind n l) s = s.reported
reported_after answers feeds (RecordBound h v) s = s.reported
reported_after answers feeds (Unbind h) s = s.reported
reported_after answers feeds (Collect r now os) s = cond (shows_differences answers s.demand) (points_at answers feeds os s) s.reported
reported_after answers feeds Flush s = s.reported
reported_after answers feeds Shutdown s = s.reported

-- the total `more` if the handle is live, otherwise the total as it was
abbrev pub if_held : Option AttributeSet → ℕ → ℕ → ℕ
if_held None more total = total
if_held (Some g) more total = more

-- the total of what was recorded, after one more event
abbrev pub recorded_with : Aggregate → Machine → ℕ → Event → ℕ
recorded_with σ m total (Event.Record s v) = wrap (total + size σ v)
recorded_with σ m total (Event.Bind h s) = total
recorded_with σ m total (Event.RecordBound h v) = if_held (held_by h m.live) (wrap (total + size σ v)) total
recorded_with σ m total (Event.Unbind h) = total
recorded_with σ m total Event.Collect = total

-- the total of what was recorded, after a list of events
abbrev pub recorded_over : Aggregate → Kind → ℕ → Machine → ℕ → List Event → ℕ
recorded_over σ kind limit m total [] = total
recorded_over σ kind limit m total (e ∷ es) = recorded_over σ kind limit (step σ kind limit m e) (recorded_with σ m total e) es

-- the total of what a stream recorded, after the events that a call sends
abbrev pub recorded_after : ReaderAnswers → List Event → Stream → ℕ
recorded_after answers es s = recorded_over (aggregate_of s.demand) (kind_of answers s.demand) s.demand.limit s.machine s.recorded es

-- the total of what a stream exported, after a call: a collection of a delta stream adds the total of its points
abbrev pub exported_after : ReaderAnswers → List (List Identity) → Call → Stream → ℕ
exported_after answers feeds (Meter scope) s = s.exported
exported_after answers feeds (Build meter about now) s = s.exported
exported_after answers feeds (Record n v l) s = s.exported
exported_after answers feeds (Bind n l) s = s.exported
exported_after answers feeds (RecordBound h v) s = s.exported
exported_after answers feeds (Unbind h) s = s.exported
exported_after answers feeds (Collect r now os) s = cond (is_delta answers s.demand) (wrap (s.exported + points_total (points_at answers feeds os s))) s.exported
exported_after answers feeds Flush s = s.exported
exported_after answers feeds Shutdown s = s.exported

-- a stream after a call
abbrev pub stream_after : ReaderAnswers → List (List Identity) → ℕ → Call → Stream → Stream
stream_after answers feeds next call s = record {
  demand = s.demand;
  machine = machine_after answers s.demand (sent_events feeds next s.demand call) s.machine;
  start = start_after answers s.demand call s.start;
  reported = reported_after answers feeds call s;
  recorded = recorded_after answers (sent_events feeds next s.demand call) s;
  exported = exported_after answers feeds call s;
}

-- ======== a build ========
-- the new stream of a demand
abbrev pub new_stream : ℕ → Demand → Stream
new_stream now d = record { demand = d; machine = begin (aggregate_of d); start = now; reported = []; recorded = 0; exported = 0 }

-- the table of fates after a demand: it keeps the first demand of each identity
abbrev pub enter : List Demand → Demand → List Demand
enter fates d = cond (is_known fates d.identity) fates (fates ++ d ∷ [])

-- the streams after a demand: the first demand of an identity makes a stream, unless its aggregation is `Drop`
abbrev pub make : ℕ → List Demand → List Stream → Demand → List Stream
make now fates ss d = cond (is_known fates d.identity) ss (ss ++ cond (is_drop d.aggregation) [] (new_stream now d ∷ []))

-- a reader's part after one demand
abbrev pub part_after_demand : ℕ → ReaderPart → Demand → ReaderPart
part_after_demand now p d = record p { fates = enter p.fates d; streams = make now p.fates p.streams d }

-- the demands of a build; the table of fates tells which identities are dropped
abbrev pub build_demands : Views → ReaderPart → Option InstrumentationScope → About → List Demand
build_demands views p scope about = demands_on (λ ds. is_dropped (fold enter p.fates ds)) views p.answers scope about

-- the reader's part with the streams that the new instrument feeds
abbrev pub with_feeds : List Demand → ReaderPart → ReaderPart
with_feeds ds p = record p { feeds = p.feeds ++ fed_identities (is_dropped p.fates) ds ∷ [] }

-- a reader's part after a build
abbrev pub part_after_build : Views → Option InstrumentationScope → About → ℕ → ReaderPart → ReaderPart
part_after_build views scope about now p = with_feeds (build_demands views p scope about) (fold (part_after_demand now) p (build_demands views p scope about))

-- ======== all readers: a call changes each by itself, and a collection changes its own reader alone ========
-- a reader's part after a call that is no build
abbrev pub part_after_call : ℕ → Call → ReaderPart → ReaderPart
part_after_call next call p = record p { streams = map (stream_after p.answers p.feeds next call) p.streams }

-- all readers' parts after a call that isn't refused
abbrev pub readers_after : Views → Shared → Call → List ReaderPart → List ReaderPart
readers_after views s (Meter scope) ps = ps
readers_after views s (Build meter about now) ps = map (part_after_build views (scope_of s.meters meter) about now) ps
readers_after views s (Record n v l) ps = map (part_after_call s.next (Record n v l)) ps
readers_after views s (Bind n l) ps = map (part_after_call s.next (Bind n l)) ps
readers_after views s (RecordBound h v) ps = map (part_after_call s.next (RecordBound h v)) ps
readers_after views s (Unbind h) ps = map (part_after_call s.next (Unbind h)) ps
readers_after views s (Collect r now os) ps = changed_at r (part_after_call s.next (Collect r now os)) ps
readers_after views s Flush ps = ps
readers_after views s Shutdown ps = ps

-- the provider after a call that isn't refused
abbrev pub accepted_after : Views → State → Call → State
accepted_after views st call = record { shared = shared_after st.shared call; readers = readers_after views st.shared call st.readers }

-- ======== a new provider ========
-- a reader's part before the first call
abbrev pub new_part : ReaderAnswers → ReaderPart
new_part answers = record { answers = answers; fates = []; streams = []; feeds = [] }

-- the provider before its first call
abbrev pub new_state : Resource → ℕ → List ReaderAnswers → State
new_state resource identity readers = record {
  shared = record { resource = resource; identity = identity; meters = []; instruments = []; live = []; next = 0; shut = false };
  readers = map new_part readers;
}
