-- What calls make (Metrics SDK, "View", "MetricReader"), read off the calls alone: meters, builds, demands, streams and
-- the history of each stream. No tables, entries or counters are kept.
use Rattle.std.specs.Prelude.{ℕ, ◌==◌, Bool, true, false, cond, ◌&&◌, not, List, [], ◌∷◌, ◌++◌, map, filter, length, Option}
use Rattle.std.specs.List.{list_any}
use Rattle.otel_common.specs.declared.scopes.InstrumentationScope.{InstrumentationScope}
use Rattle.otel_model_stream.specs.Events.{Event, Point}
use Rattle.otel_model_stream.specs.Windows.{Window, opening, window, points_of}
use Rattle.otel_model.specs.Resources.{Resource}
use Rattle.otel_data.specs.declared.collections.ResourceMetrics.{ResourceMetrics}
use Rattle.otel_model.specs.Calls.{About, Observed, Call, Meter, Build, Record, Bind, RecordBound, Unbind, Collect, Flush, Shutdown, Fault, OutOfMemory, UnknownMeter, UnknownInstrument, UnknownHandle, UnknownReader, WrongNumber, WrongKind, AlreadyShutdown, ReaderShutDown, ReadersFailed, Exhausted, LedgerFull, UseWorker, WorkersMissing, Reply}
use Rattle.otel_model.specs.Demands.{Identity, Demand, Views, ReaderAnswers, is_known, is_dropped, is_drop, demands_on, fed_identities}
use Rattle.otel_model.specs.Streams.{is_delta, kind_of, aggregate_of}
use Rattle.otel_model.specs.Collections.{metric, collection}
use Rattle.otel_model.specs.Sent.{has_scope, scope_of, observed_events, sent_events}

-- ======== the calls that count ========
-- whether the call is a shutdown
abbrev pub is_shutdown : Call → Bool
is_shutdown (Meter scope) = false
is_shutdown (Build meter about now) = false
is_shutdown (Record n v l) = false
is_shutdown (Bind n l) = false
is_shutdown (RecordBound h v) = false
is_shutdown (Unbind h) = false
is_shutdown (Collect r now os) = false
is_shutdown Flush = false
is_shutdown Shutdown = true

-- whether the fault is that readers failed
abbrev pub is_failed : Fault → Bool
is_failed OutOfMemory = false
is_failed UnknownMeter = false
is_failed UnknownInstrument = false
is_failed UnknownHandle = false
is_failed UnknownReader = false
is_failed WrongNumber = false
is_failed WrongKind = false
is_failed AlreadyShutdown = false
is_failed ReaderShutDown = false
is_failed (ReadersFailed failed first) = true
is_failed Exhausted = false
is_failed LedgerFull = false
is_failed UseWorker = false
is_failed WorkersMissing = false

-- whether a call with this reply counts as made: it was not refused, or is a shutdown in which readers failed
abbrev pub counts : Call → Reply → Bool
counts call (Reply.Meter n) = true
counts call (Reply.Instrument n) = true
counts call (Reply.Handle n) = true
counts call Reply.Done = true
counts call (Reply.Collected c) = true
counts call (Reply.Refused f) = is_shutdown call && is_failed f

-- the calls that count as made, in order
abbrev pub made_calls : List Call → List Reply → List Call
made_calls [] replies = []
made_calls (call ∷ calls) [] = []
made_calls (call ∷ calls) (reply ∷ replies) = cond (counts call reply) (call ∷ made_calls calls replies) (made_calls calls replies)

-- what f gives for each element and the elements before it, put together in order
abbrev pub gather : {Y X : Type 0} → (List Y → Y → List X) → List Y → List Y → List X
gather f before [] = []
gather f before (y ∷ ys) = f before y ++ gather f (before ++ y ∷ []) ys

-- ======== meters, builds, handles ========
-- whether the call is a bind
abbrev pub is_bind : Call → Bool
is_bind (Meter scope) = false
is_bind (Build meter about now) = false
is_bind (Record n v l) = false
is_bind (Bind n l) = true
is_bind (RecordBound h v) = false
is_bind (Unbind h) = false
is_bind (Collect r now os) = false
is_bind Flush = false
is_bind Shutdown = false

-- whether a shutdown is among the calls
abbrev pub is_shut : List Call → Bool
is_shut calls = list_any is_shutdown calls

-- how many of the calls are binds
abbrev pub binds_in : List Call → ℕ
binds_in calls = length (filter is_bind calls)

-- the scope of the meter that a call asks for; nothing after a shutdown
abbrev pub scope_asked : List Call → Call → List InstrumentationScope
scope_asked before (Meter scope) = cond (is_shut before) [] (scope ∷ [])
scope_asked before (Build meter about now) = []
scope_asked before (Record n v l) = []
scope_asked before (Bind n l) = []
scope_asked before (RecordBound h v) = []
scope_asked before (Unbind h) = []
scope_asked before (Collect r now os) = []
scope_asked before Flush = []
scope_asked before Shutdown = []

-- the scope, unless it is among those before
abbrev pub new_scope : List InstrumentationScope → InstrumentationScope → List InstrumentationScope
new_scope before scope = cond (has_scope scope before) [] (scope ∷ [])

-- the meters: the scopes asked for, each once, in order of first request
abbrev pub meters_in : List Call → List InstrumentationScope
meters_in calls = gather new_scope [] (gather scope_asked [] calls)

-- an instrument as a build makes it: its meter's scope, none for the meter `None`, and what the build says about it
pub record Built : Type 0 where
  pub scope : Option InstrumentationScope
  pub about : About

-- the instrument that a call builds, if it builds one
abbrev pub build_in : List Call → Call → List Built
build_in before (Meter scope) = []
build_in before (Build meter about now) = record { scope = scope_of (meters_in before) meter; about = about } ∷ []
build_in before (Record n v l) = []
build_in before (Bind n l) = []
build_in before (RecordBound h v) = []
build_in before (Unbind h) = []
build_in before (Collect r now os) = []
build_in before Flush = []
build_in before Shutdown = []

-- the instruments that a list of calls builds, in order
abbrev pub builds_in : List Call → List Built
builds_in calls = gather build_in [] calls

-- ======== demands, streams, feeding ========
-- the compatible demands of a build after the demands `earlier`
abbrev pub demands_after : Views → ReaderAnswers → List Demand → Built → List Demand
demands_after views answers earlier i = demands_on (λ ds. is_dropped (earlier ++ ds)) views answers i.scope i.about

-- the demands `earlier`, followed by the compatible demands of a list of builds
abbrev pub demands_of : Views → ReaderAnswers → List Demand → List Built → List Demand
demands_of views answers earlier [] = earlier
demands_of views answers earlier (i ∷ is) = demands_of views answers (earlier ++ demands_after views answers earlier i) is

-- the demand, unless one of the demands before has its identity
abbrev pub new_demand : List Demand → Demand → List Demand
new_demand before d = cond (is_known before d.identity) [] (d ∷ [])

-- the first demand of each identity in a list, in order
abbrev pub firsts : List Demand → List Demand
firsts ds = gather new_demand [] ds

-- the streams of a list of builds: the first demand of each identity, without those whose aggregation is `Drop`
abbrev pub streams_of : Views → ReaderAnswers → List Built → List Demand
streams_of views answers is = filter (λ d. not (is_drop d.aggregation)) (firsts (demands_of views answers [] is))

-- for each build, after the demands `earlier`, the identities of the streams that its instrument feeds
abbrev pub feeds_of : Views → ReaderAnswers → List Demand → List Built → List (List Identity)
feeds_of views answers earlier [] = []
feeds_of views answers earlier (i ∷ is) =
    fed_identities (is_dropped (earlier ++ demands_after views answers earlier i)) (demands_after views answers earlier i)
    ∷ feeds_of views answers (earlier ++ demands_after views answers earlier i) is

-- all compatible demands of the builds among these calls, in order
abbrev pub demands_by : Views → ReaderAnswers → List Call → List Demand
demands_by views answers calls = demands_of views answers [] (builds_in calls)

-- for each build among these calls the identities of the streams that its instrument feeds
abbrev pub feeds_by : Views → ReaderAnswers → List Call → List (List Identity)
feeds_by views answers calls = feeds_of views answers [] (builds_in calls)

-- whether a build among these calls demanded the identity of d
abbrev pub is_demanded : Views → ReaderAnswers → Demand → List Call → Bool
is_demanded views answers d calls = is_known (demands_by views answers calls) d.identity

-- ======== the history of a stream ========
-- whether a call concerns reader r: it is not a collection of another reader
abbrev pub concerns : ℕ → Call → Bool
concerns r (Meter scope) = true
concerns r (Build meter about now) = true
concerns r (Record n v l) = true
concerns r (Bind n l) = true
concerns r (RecordBound h v) = true
concerns r (Unbind h) = true
concerns r (Collect q now os) = q == r
concerns r Flush = true
concerns r Shutdown = true

-- the events that a call sends to the stream of d at reader r, if the stream was demanded before: measurements and
-- binds at instruments that feed it, measurements through and ends of any handles, and the reader's collections, each
-- after its observations
abbrev pub events_at : Views → ReaderAnswers → ℕ → Demand → List Call → Call → List Event
events_at views answers r d before call =
    cond (is_demanded views answers d before)
    (cond (concerns r call) (sent_events (feeds_by views answers before) (binds_in before) d call) []) []

-- all events of the stream of d at reader r
abbrev pub history : Views → ReaderAnswers → ℕ → Demand → List Call → List Event
history views answers r d calls = gather (events_at views answers r d) [] calls

-- the window in which the history of the stream of d ends
abbrev pub window_of : ReaderAnswers → Demand → List Event → Window
window_of answers d es = window (kind_of answers d) d.limit opening es

-- the window of the stream of d at reader r after these calls
abbrev pub window_after : Views → ReaderAnswers → ℕ → Demand → List Call → Window
window_after views answers r d calls = window_of answers d (history views answers r d calls)

-- the points of the window in which a history ends
abbrev pub window_points : ReaderAnswers → Demand → List Event → List Point
window_points answers d es = points_of (aggregate_of d) (kind_of answers d) d.limit (window_of answers d es)

-- the points of a stream after these calls and the observations of a collection, before differences are taken
abbrev pub points_with : Views → ReaderAnswers → ℕ → Demand → List Call → List Observed → List Point
points_with views answers r d before os = window_points answers d (history views answers r d before ++ observed_events (feeds_by views answers before) d os)

-- the points of a stream in the collection that a call makes, if it makes one, before differences are taken
abbrev pub shown_by : Views → ReaderAnswers → ℕ → Demand → List Call → Call → List (List Point)
shown_by views answers r d before (Meter scope) = []
shown_by views answers r d before (Build meter about now) = []
shown_by views answers r d before (Record n v l) = []
shown_by views answers r d before (Bind n l) = []
shown_by views answers r d before (RecordBound h v) = []
shown_by views answers r d before (Unbind h) = []
shown_by views answers r d before (Collect q now os) = points_with views answers r d before os ∷ []
shown_by views answers r d before Flush = []
shown_by views answers r d before Shutdown = []

-- the same, for a stream that was demanded before and the collections of reader r alone
abbrev pub shown_at : Views → ReaderAnswers → ℕ → Demand → List Call → Call → List (List Point)
shown_at views answers r d before call = cond (is_demanded views answers d before) (cond (concerns r call) (shown_by views answers r d before call) []) []

-- the points of the stream of d in each of reader r's collections, before differences are taken
abbrev pub shown_points : Views → ReaderAnswers → ℕ → Demand → List Call → List (List Point)
shown_points views answers r d calls = gather (shown_at views answers r d) [] calls

-- the last element, or the given one if there is none
abbrev pub last_or : {X : Type 0} → X → List X → X
last_or x [] = x
last_or x (y ∷ ys) = last_or y ys

-- the time of a call that may set the start of the stream of d at reader r: of each build up to the one that demands
-- the stream and, if it is a delta stream, of the reader's collections after that
abbrev pub moment_at : Views → ReaderAnswers → ℕ → Demand → List Call → Call → List ℕ
moment_at views answers r d before (Meter scope) = []
moment_at views answers r d before (Build meter about now) = cond (is_demanded views answers d before) [] (now ∷ [])
moment_at views answers r d before (Record n v l) = []
moment_at views answers r d before (Bind n l) = []
moment_at views answers r d before (RecordBound h v) = []
moment_at views answers r d before (Unbind h) = []
moment_at views answers r d before (Collect q now os) = cond (is_demanded views answers d before) (cond (q == r) (cond (is_delta answers d) (now ∷ []) []) []) []
moment_at views answers r d before Flush = []
moment_at views answers r d before Shutdown = []

-- the start time of the stream of d at reader r: the last of these times
abbrev pub start_of : Views → ReaderAnswers → ℕ → Demand → List Call → ℕ
start_of views answers r d calls = last_or 0 (gather (moment_at views answers r d) [] calls)

-- the points of the stream in the reader's last collection, before differences were taken; none if there was none
abbrev pub reported_of : Views → ReaderAnswers → ℕ → Demand → List Call → List Point
reported_of views answers r d calls = last_or [] (shown_points views answers r d calls)

-- ======== collections ========
-- the collection that reader r makes after these calls, with its observations
abbrev pub collection_of : Views → Resource → ReaderAnswers → ℕ → List Call → ℕ → List Observed → ResourceMetrics
collection_of views resource answers r before now os = collection resource (meters_in before)
    (map (λ (d : Demand). (d.identity.scope, metric answers now (start_of views answers r d before) (reported_of views answers r d before) d (points_with views answers r d before os))) (streams_of views answers (builds_in before)))

-- the collection of reader r that a call makes, if it makes one
abbrev pub made_by : Views → Resource → ReaderAnswers → ℕ → List Call → Call → List ResourceMetrics
made_by views resource answers r before (Meter scope) = []
made_by views resource answers r before (Build meter about now) = []
made_by views resource answers r before (Record n v l) = []
made_by views resource answers r before (Bind n l) = []
made_by views resource answers r before (RecordBound h v) = []
made_by views resource answers r before (Unbind h) = []
made_by views resource answers r before (Collect q now os) = cond (q == r) (collection_of views resource answers r before now os ∷ []) []
made_by views resource answers r before Flush = []
made_by views resource answers r before Shutdown = []

-- the collections that reader r makes in a list of calls
abbrev pub collections_of : Views → Resource → ReaderAnswers → ℕ → List Call → List ResourceMetrics
collections_of views resource answers r calls = gather (made_by views resource answers r) [] calls

-- the collection in a reply, if it has one
abbrev pub shown_in : Reply → List ResourceMetrics
shown_in (Reply.Meter n) = []
shown_in (Reply.Instrument n) = []
shown_in (Reply.Handle n) = []
shown_in Reply.Done = []
shown_in (Reply.Collected c) = c ∷ []
shown_in (Reply.Refused f) = []

-- the collection that reader r was given in reply to a call, if it was given one
abbrev pub collected_by : ℕ → Call → Reply → List ResourceMetrics
collected_by r (Meter scope) reply = []
collected_by r (Build meter about now) reply = []
collected_by r (Record n v l) reply = []
collected_by r (Bind n l) reply = []
collected_by r (RecordBound h v) reply = []
collected_by r (Unbind h) reply = []
collected_by r (Collect q now os) reply = cond (q == r) (shown_in reply) []
collected_by r Flush reply = []
collected_by r Shutdown reply = []

-- the collections that reader r was given in a list of calls with these replies
abbrev pub given_collections : ℕ → List Call → List Reply → List ResourceMetrics
given_collections r [] replies = []
given_collections r (call ∷ calls) [] = []
given_collections r (call ∷ calls) (reply ∷ replies) = collected_by r call reply ++ given_collections r calls replies
