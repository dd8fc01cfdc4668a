-- Worked rows on what is read off the calls: meters, builds, streams, histories, windows, moments, collections, totals.
use Rattle.std.specs.Prelude.{◌≡◌, ℕ, ◌+◌, true, false, List, [], ◌∷◌, ◌++◌, map, length, Some, None, codes}
use Rattle.std.proofs.Common.{refl}
use Rattle.otel_common.specs.Canonical.{canon}
use Rattle.otel_common.specs.declared.scopes.InstrumentationScope.{InstrumentationScope}
use Rattle.otel_data.specs.declared.collections.ResourceMetrics.{ResourceMetrics}
use Rattle.otel_model_stream.specs.Sets.{over_set}
use Rattle.otel_model_stream.specs.Events.{Event, Point}
use Rattle.otel_model_stream.specs.Folds.{Total, Last}
use Rattle.otel_model_stream.specs.Windows.{Window, opening}
use Rattle.otel_model.specs.Calls.{Counter, ObservableCounter, About, Call, Meter, Build, Record, Bind, RecordBound, Unbind, Collect, Flush, Shutdown, UnknownReader, Reply}
use Rattle.otel_model.specs.Demands.{Aggregation, Drop, LastValue, Identity, Demand, Views, own_demand}
use Rattle.otel_model.specs.History.{gather, is_shut, binds_in, scope_asked, new_scope, meters_in, Built, build_in, builds_in, demands_after, demands_of, new_demand, firsts, streams_of, feeds_of, demands_by, feeds_by, is_demanded, events_at, history, window_of, window_after, window_points, points_with, shown_by, shown_at, shown_points, last_or, moment_at, start_of, reported_of, collection_of, made_by, collections_of, shown_in, collected_by, given_collections}
use Rattle.otel_model.specs.Resources.{empty_resource}
use Rattle.otel_model.specs.Sent.{has_scope, scope_of, is_fed, set_for, observed_events, sent_events}
use Rattle.otel_model.specs.Totals.{exported_in, recorded_in}
use Rattle.otel_model_rows.specs.Rows.{a, b, m, scope_named, about, u64, x1, y1, if_named, named, aggregating, limit_1, cumulative, delta, moments, seen, one, delta_sum, observe}

-- ======== lists ========
-- each number with how many come before it
pub gathered : gather (λ (before : List ℕ) n. (length before + n) ∷ n ∷ []) (7 ∷ []) (10 ∷ 20 ∷ []) ≡ 11 ∷ 10 ∷ 22 ∷ 20 ∷ []
gathered = refl

pub last_of_list : map {B = ℕ} (last_or 5) ([] ∷ (1 ∷ []) ∷ (1 ∷ 2 ∷ 3 ∷ []) ∷ []) ≡ 5 ∷ 1 ∷ 3 ∷ []
last_of_list = refl

-- ======== meters and builds ========
abbrev n : InstrumentationScope
n = scope_named b

-- one call of each kind
abbrev each_call : List Call
each_call = Meter m ∷ Build (Some 0) (about Counter a) 100 ∷ Record 0 (u64 1) x1 ∷ Bind 0 x1 ∷ RecordBound 0 (u64 1) ∷ Unbind 0 ∷ Collect 0 200 [] ∷ Flush ∷ Shutdown ∷ []

pub shut_or_not : map is_shut ([] ∷ each_call ∷ (Shutdown ∷ Flush ∷ []) ∷ (Meter m ∷ Flush ∷ []) ∷ []) ≡ false ∷ true ∷ true ∷ false ∷ []
shut_or_not = refl

pub numbers_of_binds : map binds_in ([] ∷ each_call ∷ (Bind 3 [] ∷ Unbind 0 ∷ Bind 3 [] ∷ []) ∷ []) ≡ 0 ∷ 1 ∷ 2 ∷ []
numbers_of_binds = refl

pub scopes_there : map (λ s. has_scope s (m ∷ n ∷ [])) (m ∷ n ∷ record m { version = Some [] } ∷ []) ≡ true ∷ true ∷ false ∷ []
scopes_there = refl

pub scopes_named : map (scope_of (m ∷ n ∷ [])) (None ∷ Some 0 ∷ Some 1 ∷ Some 2 ∷ []) ≡ None ∷ Some m ∷ Some n ∷ None ∷ []
scopes_named = refl

pub scopes_asked : map (scope_asked []) each_call ≡ (m ∷ []) ∷ [] ∷ [] ∷ [] ∷ [] ∷ [] ∷ [] ∷ [] ∷ [] ∷ []
scopes_asked = refl

pub scopes_asked_after : map (scope_asked (Shutdown ∷ [])) each_call ≡ [] ∷ [] ∷ [] ∷ [] ∷ [] ∷ [] ∷ [] ∷ [] ∷ [] ∷ []
scopes_asked_after = refl

pub new_scopes : (new_scope (m ∷ []) n ≡ n ∷ []) × (new_scope (m ∷ []) m ≡ [])
new_scopes = (refl, refl)

-- each scope once, and none after a shutdown
pub meters : meters_in (Meter m ∷ Flush ∷ Meter n ∷ Meter m ∷ Shutdown ∷ Meter (scope_named (codes "late")) ∷ []) ≡ m ∷ n ∷ []
meters = refl

abbrev counter : About
counter = about Counter a

pub builds_of_each : map (build_in (Meter m ∷ [])) each_call ≡ [] ∷ (record { scope = Some m; about = counter } ∷ []) ∷ [] ∷ [] ∷ [] ∷ [] ∷ [] ∷ [] ∷ [] ∷ []
builds_of_each = refl

abbrev observable : About
observable = about ObservableCounter b

pub builds : builds_in (Meter m ∷ Build (Some 0) counter 100 ∷ Build None counter 100 ∷ Meter n ∷ Shutdown ∷ Build (Some 1) observable 100 ∷ [])
    ≡ record { scope = Some m; about = counter } ∷ record { scope = None; about = counter } ∷ record { scope = Some n; about = observable } ∷ []
builds = refl

-- ======== streams and what feeds them ========
abbrev own : Demand
own = own_demand cumulative m counter

abbrev named_as : List ℕ → Aggregation → Demand
named_as name aggregation = record own { identity = record own.identity { name = name }; spelling = name; aggregation = aggregation }

abbrev x : List ℕ
x = codes "x"

-- counter `a` drops a stream `x`, and would have one that does not fit; counter `b` demands `x` and `a`
abbrev views : Views
views = if_named a (record (named x) { aggregation = Some Drop }) ∷ if_named a (aggregating LastValue) ∷ if_named b (named x) ∷ if_named b (named a) ∷ []

abbrev first_build : Built
first_build = record { scope = Some m; about = counter }

abbrev second_build : Built
second_build = record { scope = Some m; about = about Counter b }

abbrev first_demands : List Demand
first_demands = named_as x Drop ∷ own ∷ []

abbrev second_demands : List Demand
second_demands = named_as x Aggregation.Sum ∷ own ∷ []

-- the own demand comes only if what the views demand is dropped already, or is dropped by this build
pub demands_of_build : (demands_after views cumulative [] first_build ≡ first_demands)
    × (demands_after views cumulative (named_as x Aggregation.Sum ∷ []) first_build ≡ named_as x Drop ∷ [])
    × (demands_after views cumulative first_demands second_build ≡ second_demands)
demands_of_build = (refl, refl, refl)

pub demands_of_each : (demands_of views cumulative [] (first_build ∷ second_build ∷ []) ≡ named_as x Drop ∷ own ∷ named_as x Aggregation.Sum ∷ own ∷ []) × (demands_of views cumulative (own ∷ []) [] ≡ own ∷ [])
demands_of_each = (refl, refl)

pub new_demands : (new_demand (own ∷ []) (named_as x Drop) ≡ named_as x Drop ∷ []) × (new_demand (own ∷ []) (record own { limit = 5 }) ≡ [])
new_demands = (refl, refl)

pub first_demands_alone : firsts (named_as x Drop ∷ own ∷ named_as x Aggregation.Sum ∷ own ∷ []) ≡ named_as x Drop ∷ own ∷ []
first_demands_alone = refl

-- without what drops
pub streams : streams_of views cumulative (first_build ∷ second_build ∷ []) ≡ own ∷ []
streams = refl

pub fed : (feeds_of views cumulative [] (first_build ∷ second_build ∷ record first_build { scope = None } ∷ []) ≡ (own.identity ∷ []) ∷ (own.identity ∷ []) ∷ [] ∷ [])
    × (feeds_of views cumulative (named_as x Aggregation.Sum ∷ []) (first_build ∷ second_build ∷ []) ≡ ((named_as x Drop).identity ∷ []) ∷ ((named_as x Drop).identity ∷ own.identity ∷ []) ∷ [])
fed = (refl, refl)

abbrev both_built : List Call
both_built = Meter m ∷ Build (Some 0) counter 100 ∷ Build (Some 0) (about Counter b) 170 ∷ []

pub by_calls : (demands_by views cumulative both_built ≡ named_as x Drop ∷ own ∷ named_as x Aggregation.Sum ∷ own ∷ []) × (feeds_by views cumulative both_built ≡ (own.identity ∷ []) ∷ (own.identity ∷ []) ∷ [])
by_calls = (refl, refl)

pub demanded : map (is_demanded views cumulative own) ([] ∷ (Meter m ∷ []) ∷ both_built ∷ (Build None counter 100 ∷ []) ∷ []) ≡ false ∷ false ∷ true ∷ false ∷ []
demanded = refl

-- ======== what calls send ========
abbrev feeding : List (List Identity)
feeding = (own.identity ∷ []) ∷ ((named_as x Drop).identity ∷ own.identity ∷ []) ∷ ((named_as x Drop).identity ∷ []) ∷ []

pub fed_by : map (λ k. is_fed feeding k own.identity) (0 ∷ 1 ∷ 2 ∷ 3 ∷ []) ≡ true ∷ true ∷ false ∷ false ∷ []
fed_by = refl

abbrev only_x : Demand
only_x = record own { allow = Some (x ∷ []) }

pub sets_for : (set_for only_x (y1 ++ x1) ≡ x1) × (set_for own (y1 ++ x1) ≡ x1 ++ y1)
unfolding canon
sets_for = (refl, refl)

pub observed : observed_events feeding own (observe 0 1 x1 ∷ observe 2 2 x1 ∷ observe 1 4 y1 ∷ observe 7 8 [] ∷ []) ≡ Event.Record x1 (u64 1).amount ∷ Event.Record y1 (u64 4).amount ∷ []
unfolding canon
observed = refl

-- at instruments that feed the stream, through any handle, and observations before the collection
pub sent : map (sent_events feeding 9 own) (each_call ++ (Record 2 (u64 1) x1 ∷ Bind 2 x1 ∷ Collect 3 200 (observe 0 1 x1 ∷ observe 2 2 x1 ∷ []) ∷ []))
    ≡ [] ∷ [] ∷ (Event.Record x1 (u64 1).amount ∷ []) ∷ (Event.Bind 9 x1 ∷ []) ∷ (Event.RecordBound 0 (u64 1).amount ∷ []) ∷ (Event.Unbind 0 ∷ []) ∷ (Event.Collect ∷ []) ∷ [] ∷ []
    ∷ [] ∷ [] ∷ (Event.Record x1 (u64 1).amount ∷ Event.Collect ∷ []) ∷ []
unfolding canon
sent = refl

-- ======== the history of a stream ========
-- counter `b`, whose handle is 0, and then counter `a`, whose handle is 1 and whose limit is 1
abbrev calls : List Call
calls = Meter m ∷ Build (Some 0) (about Counter b) 90 ∷ Bind 0 x1 ∷ Collect 0 95 [] ∷ RecordBound 0 (u64 1)
    ∷ Build (Some 0) counter 100 ∷ Record 1 (u64 1) x1 ∷ Bind 1 y1 ∷ Collect 1 150 [] ∷ RecordBound 1 (u64 4) ∷ RecordBound 0 (u64 2) ∷ Collect 0 200 [] ∷ Unbind 1 ∷ Flush ∷ Record 1 (u64 8) x1 ∷ []

abbrev events_of_0_without_collections : List Event
events_of_0_without_collections = Event.Record x1 (u64 1).amount ∷ Event.Bind 1 y1 ∷ Event.RecordBound 1 (u64 4).amount ∷ Event.RecordBound 0 (u64 2).amount ∷ Event.Unbind 1 ∷ Event.Record x1 (u64 8).amount ∷ []

abbrev small : Demand
small = record own { limit = 1 }

abbrev events_of_0 : List Event
events_of_0 = Event.Record x1 (u64 1).amount ∷ Event.Bind 1 y1 ∷ Event.RecordBound 1 (u64 4).amount ∷ Event.RecordBound 0 (u64 2).amount ∷ Event.Collect ∷ Event.Unbind 1 ∷ Event.Record x1 (u64 8).amount ∷ []

-- nothing that comes before the build, and of the collections only the reader's own
pub history_of_0 : history limit_1 delta 0 small calls ≡ events_of_0
unfolding canon
history_of_0 = refl

pub history_of_1 : history limit_1 delta 1 small calls ≡ Event.Record x1 (u64 1).amount ∷ Event.Bind 1 y1 ∷ Event.Collect ∷ Event.RecordBound 1 (u64 4).amount ∷ Event.RecordBound 0 (u64 2).amount ∷ Event.Unbind 1 ∷ Event.Record x1 (u64 8).amount ∷ []
unfolding canon
history_of_1 = refl

-- where counter `a` was not demanded, where it was, and another reader's collection
pub events_of_calls : (events_at limit_1 delta 0 small (Meter m ∷ []) (RecordBound 0 (u64 1)) ≡ [])
    × (events_at limit_1 delta 0 small (Meter m ∷ Build (Some 0) counter 100 ∷ []) (RecordBound 0 (u64 1)) ≡ Event.RecordBound 0 (u64 1).amount ∷ [])
    × (events_at limit_1 delta 0 small (Meter m ∷ Build (Some 0) counter 100 ∷ []) (Collect 0 200 []) ≡ Event.Collect ∷ [])
    × (events_at limit_1 delta 0 small (Meter m ∷ Build (Some 0) counter 100 ∷ []) (Collect 1 200 []) ≡ [])
events_of_calls = (refl, refl, refl, refl)

-- handle 1 is at the overflow set for good
abbrev last_window : Window
last_window = record {
  start = record { sets = x1 ∷ over_set ∷ []; uncounted = true; held = (1, over_set) ∷ [] };
  events = Event.Unbind 1 ∷ Event.Record x1 (u64 8).amount ∷ [];
}

pub windows : (window_of delta small events_of_0 ≡ last_window) × (window_after limit_1 delta 0 small calls ≡ last_window) × (window_of cumulative small events_of_0 ≡ record { start = opening.start; events = events_of_0_without_collections })
unfolding canon
windows = (refl, refl, refl)

pub points_of_windows : (window_points delta small events_of_0 ≡ (x1, Total 8) ∷ []) × (window_points cumulative small events_of_0 ≡ (x1, Total 9) ∷ (over_set, Total 4) ∷ [])
points_of_windows = (refl, refl)

abbrev first_points : List Point
first_points = (x1, Total 1) ∷ (over_set, Total 4) ∷ []

-- in each collection, and in the last one
pub points_shown : (shown_points limit_1 delta 0 small calls ≡ first_points ∷ []) × (shown_points limit_1 delta 1 small calls ≡ ((x1, Total 1) ∷ []) ∷ []) × (reported_of limit_1 delta 0 small calls ≡ first_points) × (reported_of limit_1 delta 0 small both_built ≡ [])
unfolding canon
points_shown = (refl, refl, refl, refl)

pub shown_by_calls : map (λ call. shown_by limit_1 delta 0 small calls call) each_call ≡ [] ∷ [] ∷ [] ∷ [] ∷ [] ∷ [] ∷ (((x1, Total 8) ∷ []) ∷ []) ∷ [] ∷ [] ∷ []
unfolding canon
shown_by_calls = refl

pub shown_to_reader : (shown_at limit_1 delta 0 small calls (Collect 0 300 []) ≡ ((x1, Total 8) ∷ []) ∷ []) × (shown_at limit_1 delta 0 small calls (Collect 1 300 []) ≡ []) × (shown_at limit_1 delta 0 small (Meter m ∷ []) (Collect 0 300 []) ≡ [])
unfolding canon
shown_to_reader = (refl, refl, refl)

-- observations come last
abbrev observing : List Call
observing = Meter m ∷ Build (Some 0) observable 100 ∷ Collect 0 200 (observe 0 3 x1 ∷ []) ∷ []

abbrev own_observed : Demand
own_observed = own_demand delta m observable

pub points_observed : points_with [] delta 0 own_observed observing (observe 0 5 y1 ∷ observe 7 6 y1 ∷ []) ≡ (y1, Last 5) ∷ []
unfolding canon
points_observed = refl

-- ======== moments ========
pub starts : (start_of limit_1 delta 0 small calls ≡ 200) × (start_of limit_1 delta 1 small calls ≡ 150) × (start_of limit_1 cumulative 0 small calls ≡ 100) × (start_of limit_1 delta 0 (own_demand delta m (about Counter b)) calls ≡ 200) × (start_of [] delta 0 own [] ≡ 0)
starts = (refl, refl, refl, refl, refl)

-- of builds before the stream is demanded, and of the reader's collections after that
pub moments_before : map (moment_at [] delta 0 own (Meter m ∷ [])) each_call ≡ [] ∷ (100 ∷ []) ∷ [] ∷ [] ∷ [] ∷ [] ∷ [] ∷ [] ∷ [] ∷ []
moments_before = refl

pub moments_after : map (moment_at [] delta 0 own (Meter m ∷ Build (Some 0) counter 90 ∷ [])) each_call ≡ [] ∷ [] ∷ [] ∷ [] ∷ [] ∷ [] ∷ (200 ∷ []) ∷ [] ∷ [] ∷ []
moments_after = refl

pub moments_of_others : (moment_at [] delta 1 own (Meter m ∷ Build (Some 0) counter 90 ∷ []) (Collect 0 200 []) ≡ []) × (moment_at [] cumulative 0 own (Meter m ∷ Build (Some 0) counter 90 ∷ []) (Collect 0 200 []) ≡ [])
moments_of_others = (refl, refl)

-- ======== collections ========
pub next_collection : (seen (collection_of limit_1 empty_resource delta 0 calls 300 []) ≡ one a (delta_sum ((x1, 8) ∷ []))) × (moments (collection_of limit_1 empty_resource delta 0 calls 300 []) ≡ (200, 300) ∷ [])
unfolding canon
next_collection = (refl, refl)

pub collections_read : map seen (collections_of limit_1 empty_resource delta 0 calls) ≡ [] ∷ (one b (delta_sum ((x1, 3) ∷ [])) ++ one a (delta_sum ((x1, 1) ∷ (over_set, 4) ∷ []))) ∷ []
unfolding canon
collections_read = refl

abbrev nothing : ResourceMetrics
nothing = record { resource = empty_resource; scope_metrics = [] }

pub made_by_calls : map (made_by [] empty_resource delta 0 []) (each_call ++ Collect 1 200 [] ∷ []) ≡ [] ∷ [] ∷ [] ∷ [] ∷ [] ∷ [] ∷ (nothing ∷ []) ∷ [] ∷ [] ∷ [] ∷ []
made_by_calls = refl

pub shown_in_replies : map shown_in (Reply.Meter None ∷ Reply.Instrument 0 ∷ Reply.Handle 0 ∷ Reply.Done ∷ Reply.Collected nothing ∷ Reply.Refused UnknownReader ∷ []) ≡ [] ∷ [] ∷ [] ∷ [] ∷ (nothing ∷ []) ∷ [] ∷ []
shown_in_replies = refl

pub collected_by_calls : map (λ call. collected_by 0 call (Reply.Collected nothing)) (each_call ++ Collect 1 200 [] ∷ []) ≡ [] ∷ [] ∷ [] ∷ [] ∷ [] ∷ [] ∷ (nothing ∷ []) ∷ [] ∷ [] ∷ [] ∷ []
collected_by_calls = refl

pub given : (given_collections 0 (Collect 0 200 [] ∷ Collect 1 200 [] ∷ Collect 0 300 [] ∷ Collect 0 400 [] ∷ []) (Reply.Collected nothing ∷ Reply.Collected nothing ∷ Reply.Refused UnknownReader ∷ Reply.Collected nothing ∷ []) ≡ nothing ∷ nothing ∷ [])
    × (given_collections 0 (Collect 0 200 [] ∷ Collect 0 300 [] ∷ []) (Reply.Collected nothing ∷ []) ≡ nothing ∷ [])
given = (refl, refl)

-- ======== totals ========
pub totals_read : (recorded_in limit_1 delta 0 small calls ≡ 13) × (exported_in limit_1 delta 0 small calls ≡ 5) × (exported_in limit_1 delta 1 small calls ≡ 1) × (exported_in limit_1 cumulative 0 small calls ≡ 0)
unfolding canon
totals_read = (refl, refl, refl, refl)
