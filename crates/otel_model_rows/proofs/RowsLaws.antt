-- Worked rows on the statements of laws about runs: what each denies of a wrong state, and what follows from each for a
-- run.
use Rattle.std.specs.Prelude.{◌≡◌, ℕ, nat_eq, ◌+◌, ◌≤◌, Bool, true, false, List, [], ◌∷◌, ◌++◌, length, replicate, Option, Some, None, pos}
use Rattle.std.specs.List.{list_any, AllZip}
use Rattle.std.proofs.Common.{refl, sym, ap, arith, true≢false}
use Rattle.otel_common.specs.Equality.{bytes_eq}
use Rattle.otel_data.specs.declared.aggregated.AggregatedMetrics.TheVariants.{U64}
use Rattle.otel_data.specs.declared.aggregated.MetricData.TheVariants as data_of
use Rattle.otel_data.specs.declared.collections.Metric.{Metric}
use Rattle.otel_data.specs.declared.collections.ResourceMetrics.{ResourceMetrics}
use Rattle.otel_model_stream.specs.Entries.{Entry}
use Rattle.otel_model_stream.specs.Events.{Event}
use Rattle.otel_model_stream.specs.Folds.{Total, wrap}
use Rattle.otel_model_stream.specs.Totals.{recorded_total, points_total}
use Rattle.otel_model_stream.specs.Windows.{Window}
use Rattle.otel_model_stream.specs.Sets.{over_set}
use Rattle.otel_model.specs.Answered.{OfMetric, OfEachCollection, IsMetricOf, HasMetrics, OfEachMetric, HasFewPoints, ShowsWindow, ShowsAll}
use Rattle.otel_model.specs.Calls.{Counter, ObservableCounter, Call, Meter, Build, Collect, Reply}
use Rattle.otel_model.specs.Collections.{ScopedMetric, differences}
use Rattle.otel_model.specs.Demands.{Identity, Demand, Views, ReaderAnswers, Cumulative, own_demand, has_identity}
use Rattle.otel_model.specs.History.{history, window_points, reported_of}
use Rattle.otel_model.specs.Laws.{IsRun, OfReader, OfEachReader, IsAnsweredAsOnly, IsAsOnlyReader, IsAsOnlyReaderFromAny, AreApart, names, AreNumbered, HasStreamsOfBuilds, AreStreamsOfBuilds, HasFeedsOfBuilds, AreFeedsOfBuilds, AreStreamsApart, AreFeedsApart, AreFeedsStreams, HasPlacesOfHistories, ArePlacesOfHistories, counted_places, HasCountedOfHistories, AreCountedOfHistories, IsGivenCollections, AreCollectionsOfHistories, OfStream, OfEachStream, HasRecordedTotal, IsRecordedTotal, HasExportedTotal, IsExportedTotal, HasPendingPoints, ArePendingPoints, Conserves, IsConserved, KeepsBalance, IsBalanceKept, HasAccepted, IsAccepted, OfAnsweredMetrics, AreAnsweredFew, AreAnsweredTotals, IsAllAnswered, IsAllShown, ArePointsFew, answers_in, KeepsReaders, AreReadersKept, AreReadersKeptAtOnce}
use Rattle.otel_model.specs.Machine.{new_state, new_part, new_stream}
use Rattle.otel_model.specs.Only.{with_one_reader, EachAsAlone}
use Rattle.otel_model.specs.Resources.{Resource, empty_resource}
use Rattle.otel_model.specs.State.{Stream, ReaderPart, State}
use Rattle.otel_model.specs.Steps.{after}
use Rattle.otel_model.specs.Streams.{aggregate_of}
use Rattle.otel_model.specs.Totals.{exported_in, recorded_in}
use Rattle.otel_model_rows.specs.Rows.{a, b, m, scope_named, about, x1, y1, pair, cumulative, delta}

-- ======== a run ========
-- a meter and a counter, at a delta reader, and then a collection
abbrev built_calls : List Call
built_calls = Meter m ∷ Build (Some 0) (about Counter a) 100 ∷ []

abbrev built_replies : List Reply
built_replies = Reply.Meter (Some 0) ∷ Reply.Instrument 0 ∷ []

abbrev fresh : State
fresh = new_state empty_resource 0 (delta ∷ [])

abbrev with_meter : State
with_meter = after [] fresh (Meter m)

abbrev built : State
built = after [] with_meter (Build (Some 0) (about Counter a) 100)

pub built_run : IsRun [] empty_resource 0 (delta ∷ []) built_calls built_replies built
built_run = (with_meter, (refl, refl), (built, (refl, refl), refl))

abbrev nothing : ResourceMetrics
nothing = record { resource = empty_resource; scope_metrics = [] }

abbrev collected : State
collected = after [] built (Collect 0 200 [])

pub collected_run : IsRun [] empty_resource 0 (delta ∷ []) (built_calls ++ Collect 0 200 [] ∷ []) (built_replies ++ Reply.Collected nothing ∷ []) collected
collected_run = (with_meter, (refl, refl), (built, (refl, refl), (collected, (refl, refl), refl)))

abbrev is_there : {X : Type 0} → List X → Bool
is_there [] = false
is_there (x ∷ xs) = true

-- a run begins with the state of a new provider
pub begins_anew : IsRun [] empty_resource 0 (delta ∷ []) [] [] built → ⊥
begins_anew e = true≢false (ap (λ (st : State). is_there st.shared.meters) e)

-- ======== what statements are about ========
abbrev own : Demand
own = own_demand delta m (about Counter a)

abbrev stream : Stream
stream = new_stream 100 own

abbrev part : ReaderPart
part = record { answers = delta; fates = own ∷ []; streams = stream ∷ []; feeds = (own.identity ∷ []) ∷ [] }

-- of each reader and each stream of each run: what holds of none is denied
pub some_reader : OfEachReader (λ views resource calls replies new r answers p. ⊥) → ⊥
some_reader h = h [] empty_resource 0 (delta ∷ []) built_calls built_replies built built_run 0 delta part refl refl

pub some_stream : OfEachStream (λ views calls replies new r answers p s. ⊥) → ⊥
some_stream h = h [] empty_resource 0 (delta ∷ []) built_calls built_replies built built_run 0 delta part refl refl 0 stream refl

-- of each collection that a reader was given
pub some_collection : OfEachCollection (λ before now os c. ⊥) 0 (built_calls ++ Collect 0 200 [] ∷ []) (built_replies ++ Reply.Collected nothing ∷ []) → ⊥
some_collection h = h built_calls [] built_replies [] 200 [] nothing refl refl refl

-- a metric for each stream
has_none : (c : ResourceMetrics) → HasMetrics (λ d x. ⊥) empty_resource (m ∷ []) (own ∷ []) c → ⊥
has_none c (ms, zipped, e) = of ms zipped
  where
    of : (ms : List ScopedMetric) → AllZip (IsMetricOf (λ d x. ⊥)) (own ∷ []) ms → ⊥
    of [] z = z
    of (x ∷ xs) z = z.0.holds

pub some_metric : OfEachMetric (λ views answers r before os d x. ⊥) [] empty_resource 0 (built_calls ++ Collect 0 200 [] ∷ []) (built_replies ++ Reply.Collected nothing ∷ []) 0 delta → ⊥
some_metric h = has_none nothing (h built_calls [] built_replies [] 200 [] nothing refl refl refl)

pub some_answered_metric : OfAnsweredMetrics (λ views answers r before os d x. ⊥) → ⊥
some_answered_metric h = has_none nothing (h [] empty_resource 0 (delta ∷ []) (built_calls ++ Collect 0 200 [] ∷ []) (built_replies ++ Reply.Collected nothing ∷ []) collected collected_run 0 delta refl built_calls [] built_replies [] 200 [] nothing refl refl refl)

-- ======== each reader as the only one ========
-- a wrong reply
pub not_as_only : IsAnsweredAsOnly [] empty_resource 0 (Meter m ∷ []) (Reply.Done ∷ []) 0 delta → ⊥
not_as_only e = cc

pub not_as_alone : EachAsAlone [] fresh (Meter m ∷ []) (Reply.Done ∷ []) → ⊥
not_as_alone h = let e : (Reply.Done ∷ [] ≡ Reply.Meter (Some 0) ∷ []) = h 0 (new_part delta) refl in cc

pub as_only : IsAnsweredAsOnly [] empty_resource 0 built_calls built_replies 0 delta
as_only = refl

pub only_reader : IsAsOnlyReader → IsAnsweredAsOnly [] empty_resource 0 built_calls built_replies 0 delta
only_reader h = h [] empty_resource 0 (delta ∷ []) built_calls built_replies built built_run 0 delta refl

pub only_reader_from_any : IsAsOnlyReaderFromAny → EachAsAlone [] fresh built_calls built_replies
only_reader_from_any h = h [] fresh built_calls built_replies built built_run

pub one_reader : with_one_reader part (new_state empty_resource 0 (cumulative ∷ delta ∷ [])) ≡ record { shared = (new_state empty_resource 0 []).shared; readers = part ∷ [] }
one_reader = refl

-- ======== identities ========
abbrev other : Identity
other = record own.identity { name = b }

pub apart : AreApart (own.identity ∷ other ∷ [])
apart = (refl, (refl, tt))

pub not_apart : AreApart (other ∷ own.identity ∷ other ∷ []) → ⊥
not_apart h = true≢false h.0

pub names_of_streams : names (stream ∷ record stream { demand = record own { identity = other } } ∷ []) ≡ own.identity ∷ other ∷ []
names_of_streams = refl

pub numbered : AreNumbered (own.identity ∷ other ∷ []) (1 ∷ 0 ∷ 1 ∷ []) (other ∷ own.identity ∷ other ∷ [])
numbered = (refl, (refl, (refl, tt)))

pub wrongly_numbered : AreNumbered (own.identity ∷ other ∷ []) (0 ∷ []) (other ∷ []) → ⊥
wrongly_numbered h = true≢false (ap (λ x. same x) h.0)
  where
    same : Option Identity → Bool
    same None = false
    same (Some x) = bytes_eq x.name a

pub number_missing : AreNumbered (own.identity ∷ []) [] (own.identity ∷ []) → ⊥
number_missing h = h

pub number_too_many : AreNumbered (own.identity ∷ []) (0 ∷ []) [] → ⊥
number_too_many h = h

-- ======== streams, feeds, places, collections ========
-- a reader without the stream that was built, without what feeds it, with a set that was not mentioned
pub missing_stream : HasStreamsOfBuilds [] empty_resource built_calls built_replies built 0 delta (record part { streams = [] }) → ⊥
missing_stream e = true≢false (sym (ap is_there e))

pub missing_feed : HasFeedsOfBuilds [] empty_resource built_calls built_replies built 0 delta (record part { feeds = [] }) → ⊥
missing_feed e = true≢false (sym (ap is_there e))

abbrev x_entry : Entry
x_entry = record { set = x1; counted = true; updated = true; fold = Total 0; handles = 0 }

abbrev with_entry : Stream
with_entry = record stream { machine = record stream.machine { table = record stream.machine.table { entries = x_entry ∷ [] } } }

abbrev is_there_first : {X : Type 0} → List (List X) → Bool
is_there_first [] = false
is_there_first (xs ∷ rest) = is_there xs

pub invented_place : HasPlacesOfHistories [] empty_resource built_calls built_replies built 0 delta (record part { streams = with_entry ∷ [] }) → ⊥
invented_place e = true≢false (ap is_there_first e)

pub invented_counted_place : HasCountedOfHistories [] empty_resource built_calls built_replies built 0 delta (record part { streams = with_entry ∷ [] }) → ⊥
invented_counted_place e = true≢false (ap is_there_first e)

-- an entry that the limit does not count is none of these
pub uncounted_place : HasCountedOfHistories [] empty_resource built_calls built_replies built 0 delta
    (record part { streams = record stream { machine = record stream.machine { table = record stream.machine.table { entries = record x_entry { counted = false } ∷ [] } } } ∷ [] })
uncounted_place = refl

abbrev overflown : Window
overflown = record { start = record { sets = x1 ∷ over_set ∷ []; uncounted = true; held = [] }; events = Event.Record y1 (record { bits = 1; wide = pos 1 }) ∷ [] }

pub places_that_count : (counted_places 1 overflown ≡ x1 ∷ []) × (counted_places 2 overflown ≡ x1 ∷ y1 ∷ []) × (counted_places 3 (record overflown { start = record overflown.start { uncounted = false } }) ≡ x1 ∷ over_set ∷ y1 ∷ [])
places_that_count = (refl, refl, refl)

abbrev product : Resource
product = record { attributes = pair 97 1 ∷ []; schema_url = None }

pub invented_collection : IsGivenCollections [] empty_resource 0 (Collect 0 200 [] ∷ []) (Reply.Collected (record nothing { resource = product }) ∷ []) 0 delta → ⊥
invented_collection e = true≢false (ap (λ cs. list_any (λ (c : ResourceMetrics). is_there c.resource.attributes) cs) e)

-- ======== totals ========
abbrev recorded_one : Stream
recorded_one = record stream { recorded = 1 }

pub invented_record : HasRecordedTotal [] built_calls built_replies built 0 delta part recorded_one → ⊥
invented_record e = true≢false (ap (λ k. nat_eq k 1) e)

pub invented_export : HasExportedTotal [] built_calls built_replies built 0 delta part (record stream { exported = 1 }) → ⊥
invented_export e = true≢false (ap (λ k. nat_eq k 1) e)

pub invented_point : HasPendingPoints [] built_calls built_replies built 0 delta part with_entry → ⊥
invented_point e = true≢false (ap is_there e)

pub unbalanced : KeepsBalance [] built_calls built_replies built 0 delta part recorded_one → ⊥
unbalanced h = true≢false (ap (λ k. nat_eq k 1) (h refl))

pub unbalanced_export : KeepsBalance [] built_calls built_replies built 0 delta part (record stream { exported = 1 }) → ⊥
unbalanced_export h = true≢false (sym (ap (λ k. nat_eq k 1) (h refl)))

pub not_accepted : HasAccepted [] built_calls built_replies built 0 delta part recorded_one → ⊥
not_accepted h = true≢false (ap (λ k. nat_eq k 1) (h refl))

-- of a drained stream nothing is said, nor of an observable one
abbrev drained : Stream
drained = record recorded_one { demand = own_demand delta m (about ObservableCounter a) }

pub drained_need_not_balance : KeepsBalance [] built_calls built_replies built 0 delta part drained × HasAccepted [] built_calls built_replies built 0 delta part drained
drained_need_not_balance = (λ e. absurd (true≢false e), λ e. absurd (true≢false e))

-- what is conserved is read off the calls
pub conserved : Conserves [] built_calls built_replies built 0 delta part stream
    → wrap (recorded_in [] delta 0 own built_calls) ≡ wrap (exported_in [] delta 0 own built_calls + points_total (window_points delta own (history [] delta 0 own built_calls)))
conserved h = h refl

-- ======== answered metrics ========
abbrev metric : ℕ → Metric
metric n = record { name = a; description = []; unit = []; content = U64 (data_of.Sum (record { data_points = replicate n (record { attributes = []; exemplars = []; value = 1 }); start_time = 100; time = 200; temporality = Cumulative; is_monotonic = true })) }

abbrev limit_1 : Demand
limit_1 = record own { limit = 1 }

pub three_points : HasFewPoints [] delta 0 [] [] limit_1 (metric 3)
three_points = omega arith

pub four_points : HasFewPoints [] delta 0 [] [] limit_1 (metric 4) → ⊥
four_points h = omega (arith, h)

pub invented_total : ShowsWindow [] delta 0 [] [] own (metric 1) → ⊥
invented_total h = true≢false (ap (λ k. nat_eq k 1) (h refl))

pub invented_sum : ShowsAll [] cumulative 0 [] [] own (metric 1) → ⊥
invented_sum h = true≢false (ap (λ k. nat_eq k 1) (h refl refl))

pub no_total : ShowsWindow [] delta 0 [] [] own (metric 0) × ShowsAll [] cumulative 0 [] [] own (metric 0)
no_total = (λ e. refl, λ e f. refl)

-- a metric of a stream has its scope, spelling, description and unit
pub metric_of : IsMetricOf (λ d x. Unit {0}) own (m, metric 1)
metric_of = record { scope = refl; name = refl; description = refl; unit = refl; holds = tt }

pub other_scope : IsMetricOf (λ d x. Unit {0}) own (scope_named b, metric 1) → ⊥
other_scope h = true≢false (ap (λ s. bytes_eq s.name b) h.scope)

pub other_name : IsMetricOf (λ d x. Unit {0}) (record own { spelling = b }) (m, metric 1) → ⊥
other_name h = true≢false (ap (λ s. bytes_eq s a) h.name)

pub other_description : IsMetricOf (λ d x. Unit {0}) own (m, record (metric 1) { description = a }) → ⊥
other_description h = true≢false (ap is_there h.description)

pub other_unit : IsMetricOf (λ d x. Unit {0}) own (m, record (metric 1) { unit = a }) → ⊥
other_unit h = true≢false (ap is_there h.unit)

-- ======== readers ========
pub answers_of_readers : answers_in (new_state empty_resource 0 (cumulative ∷ delta ∷ [])) ≡ cumulative ∷ delta ∷ []
answers_of_readers = refl

pub lost_reader : KeepsReaders fresh (new_state empty_resource 0 []) → ⊥
lost_reader e = true≢false (sym (ap is_there e))

pub readers_kept : (AreReadersKept → KeepsReaders fresh built) × (AreReadersKeptAtOnce → KeepsReaders fresh with_meter)
readers_kept = (λ h. h [] fresh built_calls built_replies built built_run, λ h. h [] fresh (Meter m) (Reply.Meter (Some 0)) with_meter (refl, refl))

-- ======== what follows from laws for the run ========
-- of its reader, and of its stream
at_part : (P : OfReader) → OfEachReader P → P [] empty_resource built_calls built_replies built 0 delta part
at_part P h = h [] empty_resource 0 (delta ∷ []) built_calls built_replies built built_run 0 delta part refl refl

at_stream : (P : OfStream) → OfEachStream P → P [] built_calls built_replies built 0 delta part stream
at_stream P h = h [] empty_resource 0 (delta ∷ []) built_calls built_replies built built_run 0 delta part refl refl 0 stream refl

pub laws_of_readers : (AreStreamsOfBuilds → HasStreamsOfBuilds [] empty_resource built_calls built_replies built 0 delta part)
    × (AreFeedsOfBuilds → HasFeedsOfBuilds [] empty_resource built_calls built_replies built 0 delta part)
    × (ArePlacesOfHistories → HasPlacesOfHistories [] empty_resource built_calls built_replies built 0 delta part)
    × (AreCountedOfHistories → HasCountedOfHistories [] empty_resource built_calls built_replies built 0 delta part)
laws_of_readers = (at_part HasStreamsOfBuilds, at_part HasFeedsOfBuilds, at_part HasPlacesOfHistories, at_part HasCountedOfHistories)

-- streams have identities of their own, and what feeds them is apart and is there
pub laws_of_feeds : (AreStreamsApart → AreApart (own.identity ∷ []))
    × (AreFeedsApart → AreApart (own.identity ∷ []))
    × (AreFeedsStreams → has_identity (own.identity ∷ []) own.identity ≡ true)
laws_of_feeds = (
  λ h. h [] empty_resource 0 (delta ∷ []) built_calls built_replies built built_run 0 delta part refl refl,
  λ h. h [] empty_resource 0 (delta ∷ []) built_calls built_replies built built_run 0 delta part refl refl 0 (own.identity ∷ []) refl,
  λ h. h [] empty_resource 0 (delta ∷ []) built_calls built_replies built built_run 0 delta part refl refl 0 own.identity refl,
)

pub laws_of_streams : (IsRecordedTotal → HasRecordedTotal [] built_calls built_replies built 0 delta part stream)
    × (IsExportedTotal → HasExportedTotal [] built_calls built_replies built 0 delta part stream)
    × (ArePendingPoints → HasPendingPoints [] built_calls built_replies built 0 delta part stream)
    × (IsConserved → Conserves [] built_calls built_replies built 0 delta part stream)
    × (IsBalanceKept → KeepsBalance [] built_calls built_replies built 0 delta part stream)
    × (IsAccepted → HasAccepted [] built_calls built_replies built 0 delta part stream)
laws_of_streams = (at_stream HasRecordedTotal, at_stream HasExportedTotal, at_stream HasPendingPoints, at_stream Conserves, at_stream KeepsBalance, at_stream HasAccepted)

pub law_of_collections : AreCollectionsOfHistories → IsGivenCollections [] empty_resource 0 built_calls built_replies 0 delta
law_of_collections h = h [] empty_resource 0 (delta ∷ []) built_calls built_replies built built_run 0 delta refl

-- of the metrics that its reader was given
at_metrics : (P : Views → ReaderAnswers → ℕ → OfMetric) → OfAnsweredMetrics P → OfEachMetric P [] empty_resource 0 (built_calls ++ Collect 0 200 [] ∷ []) (built_replies ++ Reply.Collected nothing ∷ []) 0 delta
at_metrics P h = h [] empty_resource 0 (delta ∷ []) (built_calls ++ Collect 0 200 [] ∷ []) (built_replies ++ Reply.Collected nothing ∷ []) collected collected_run 0 delta refl

pub laws_of_metrics : (AreAnsweredFew → OfEachMetric HasFewPoints [] empty_resource 0 (built_calls ++ Collect 0 200 [] ∷ []) (built_replies ++ Reply.Collected nothing ∷ []) 0 delta)
    × (AreAnsweredTotals → OfEachMetric ShowsWindow [] empty_resource 0 (built_calls ++ Collect 0 200 [] ∷ []) (built_replies ++ Reply.Collected nothing ∷ []) 0 delta)
    × (IsAllAnswered → OfEachMetric ShowsAll [] empty_resource 0 (built_calls ++ Collect 0 200 [] ∷ []) (built_replies ++ Reply.Collected nothing ∷ []) 0 delta)
laws_of_metrics = (at_metrics HasFewPoints, at_metrics ShowsWindow, at_metrics ShowsAll)

-- ======== what would be shown now ========
-- 3 at x are pending
abbrev pending : List Event
pending = Event.Record x1 (record { bits = 3; wide = pos 3 }) ∷ []

pub law_of_all_shown : IsAllShown → wrap (points_total (window_points cumulative own (history [] cumulative 0 own built_calls ++ pending))) ≡ wrap (recorded_total (aggregate_of own) (history [] cumulative 0 own built_calls ++ pending))
law_of_all_shown h = h [] cumulative 0 own built_calls pending refl refl

pub law_of_few_points : ArePointsFew → length (differences delta limit_1 (reported_of [] delta 0 limit_1 built_calls) (window_points delta limit_1 (history [] delta 0 limit_1 built_calls ++ pending))) ≤ 3
law_of_few_points h = h [] delta 0 limit_1 built_calls pending
