-- The laws of whole runs: what the machine does agrees with what is read off the calls alone.
use Rattle.std.specs.Prelude.{◌≡◌, ℕ, ◌+◌, ◌≤◌, true, false, List, [], ◌∷◌, map, filter, length, Some, slice_get, ◌++◌}
use Rattle.otel_model_stream.specs.Entries.{Entry}
use Rattle.otel_model_stream.specs.Sets.{AttributeSet}
use Rattle.otel_model_stream.specs.Events.{Event}
use Rattle.otel_model_stream.specs.Folds.{wrap}
use Rattle.otel_model_stream.specs.Machine.{points}
use Rattle.otel_model_stream.specs.Totals.{recorded_total, points_total}
use Rattle.otel_model_stream.specs.Windows.{Window, places_of, uncounted_of, sets_that_count}
use Rattle.otel_model.specs.Resources.{Resource}
use Rattle.otel_model.specs.Calls.{is_observable, Call, Reply}
use Rattle.otel_model.specs.Collections.{differences}
use Rattle.otel_model.specs.Demands.{Identity, Demand, ReaderAnswers, Views, has_identity}
use Rattle.otel_model.specs.Streams.{is_drained, is_delta, kind_of, aggregate_of}
use Rattle.otel_model.specs.State.{ReaderPart, State, Stream}
use Rattle.otel_model.specs.Sent.{is_fed}
use Rattle.otel_model.specs.Machine.{new_state}
use Rattle.otel_model.specs.Steps.{Step, Run, replies_of}
use Rattle.otel_model.specs.Only.{only, replies_left, without_asking, EachAsAlone}
use Rattle.otel_model.specs.History.{made_calls, builds_in, streams_of, feeds_of, history, window_after, window_points, reported_of, collections_of, given_collections}
use Rattle.otel_model.specs.Totals.{exported_in, recorded_in}
use Rattle.otel_model.specs.Accepted.{accepted_for}
use Rattle.otel_model.specs.Answered.{OfMetric, OfEachMetric, HasFewPoints, ShowsWindow, ShowsAll}

-- a run from a new provider
abbrev pub IsRun : Views → Resource → ℕ → List ReaderAnswers → List Call → List Reply → State → Type 0
IsRun views resource identity readers calls replies new = Run views (new_state resource identity readers) calls replies new

-- a statement about a reader after calls and replies
abbrev pub OfReader : Type 1
OfReader = Views → Resource → List Call → List Reply → State → ℕ → ReaderAnswers → ReaderPart → Type 0

-- the statement holds of each reader after each run
abbrev pub OfEachReader : OfReader → Type 0
OfEachReader P = (views : Views) (resource : Resource) (identity : ℕ) (readers : List ReaderAnswers) (calls : List Call) (replies : List Reply) (new : State)
    → IsRun views resource identity readers calls replies new
    → (r : ℕ) (answers : ReaderAnswers) (part : ReaderPart) → slice_get readers r ≡ Some answers → slice_get new.readers r ≡ Some part
    → P views resource calls replies new r answers part

-- ======== each reader as the only one ========
-- apart from flushes and shutdowns, the replies to the calls that are left for the reader are those of a new provider
-- with that reader alone to just these calls, if memory is never refused
abbrev pub IsAnsweredAsOnly : Views → Resource → ℕ → List Call → List Reply → ℕ → ReaderAnswers → Type 0
IsAnsweredAsOnly views resource identity calls replies r answers =
    replies_left r calls replies ≡ without_asking (only r calls replies) (replies_of views (new_state resource identity (answers ∷ [])) (only r calls replies))

-- each reader of each run is answered so
abbrev pub IsAsOnlyReader : Type 0
IsAsOnlyReader = (views : Views) (resource : Resource) (identity : ℕ) (readers : List ReaderAnswers) (calls : List Call) (replies : List Reply) (new : State)
    → IsRun views resource identity readers calls replies new
    → (r : ℕ) (answers : ReaderAnswers) → slice_get readers r ≡ Some answers
    → IsAnsweredAsOnly views resource identity calls replies r answers

-- and so from any state of a provider
abbrev pub IsAsOnlyReaderFromAny : Type 0
IsAsOnlyReaderFromAny = (views : Views) (old : State) (calls : List Call) (replies : List Reply) (new : State) → Run views old calls replies new → EachAsAlone views old calls replies

-- no identity occurs twice
abbrev pub AreApart : List Identity → Type 0
AreApart [] = Unit {0}
AreApart (x ∷ xs) = (has_identity xs x ≡ false) × AreApart xs

-- the identities of streams, in order
abbrev pub names : List Stream → List Identity
names ss = map (λ (s : Stream). s.demand.identity) ss

-- the identities at these numbers in the list `ns` are the given ones
abbrev pub AreNumbered : List Identity → List ℕ → List Identity → Type 0
AreNumbered ns [] [] = Unit {0}
AreNumbered ns [] (x ∷ xs) = ⊥
AreNumbered ns (k ∷ ks) [] = ⊥
AreNumbered ns (k ∷ ks) (x ∷ xs) = (slice_get ns k ≡ Some x) × AreNumbered ns ks xs

-- ======== streams, places, collections ========
-- the demands of the reader's streams are, in order, those of the streams read off the builds made
abbrev pub HasStreamsOfBuilds : OfReader
HasStreamsOfBuilds views resource calls replies new r answers part =
    map (λ (s : Stream). s.demand) part.streams ≡ streams_of views answers (builds_in (made_calls calls replies))

-- so it is for each reader after each run
abbrev pub AreStreamsOfBuilds : Type 0
AreStreamsOfBuilds = OfEachReader HasStreamsOfBuilds

-- each instrument feeds the streams that are read off the builds made
abbrev pub HasFeedsOfBuilds : OfReader
HasFeedsOfBuilds views resource calls replies new r answers part =
    part.feeds ≡ feeds_of views answers [] (builds_in (made_calls calls replies))

-- so it is for each reader after each run
abbrev pub AreFeedsOfBuilds : Type 0
AreFeedsOfBuilds = OfEachReader HasFeedsOfBuilds

-- no two streams of a reader have the same identity
abbrev pub AreStreamsApart : Type 0
AreStreamsApart = OfEachReader (λ views resource calls replies new r answers part.
    AreApart (names part.streams))

-- an instrument feeds no stream of a reader twice
abbrev pub AreFeedsApart : Type 0
AreFeedsApart = OfEachReader (λ views resource calls replies new r answers part.
    (n : ℕ) (xs : List Identity) → slice_get part.feeds n ≡ Some xs → AreApart xs)

-- and it feeds only streams that the reader has
abbrev pub AreFeedsStreams : Type 0
AreFeedsStreams = OfEachReader (λ views resource calls replies new r answers part.
    (n : ℕ) (x : Identity) → is_fed part.feeds n x ≡ true → has_identity (names part.streams) x ≡ true)

-- the sets of each stream's entries are the places of its current window, in order
abbrev pub HasPlacesOfHistories : OfReader
HasPlacesOfHistories views resource calls replies new r answers part =
    map (λ (s : Stream). map (λ (e : Entry). e.set) s.machine.table.entries) part.streams
    ≡ map (λ (d : Demand). places_of d.limit (window_after views answers r d (made_calls calls replies))) (streams_of views answers (builds_in (made_calls calls replies)))

-- so it is for each reader after each run
abbrev pub ArePlacesOfHistories : Type 0
ArePlacesOfHistories = OfEachReader HasPlacesOfHistories

-- the places of a window that the limit counts
abbrev pub counted_places : ℕ → Window → List AttributeSet
counted_places limit w = sets_that_count (uncounted_of limit w) (places_of limit w)

-- the sets of each stream's counted entries are the places of its current window that the limit counts, in order
abbrev pub HasCountedOfHistories : OfReader
HasCountedOfHistories views resource calls replies new r answers part =
    map (λ (s : Stream). map (λ (e : Entry). e.set) (filter (λ (e : Entry). e.counted) s.machine.table.entries)) part.streams
    ≡ map (λ (d : Demand). counted_places d.limit (window_after views answers r d (made_calls calls replies))) (streams_of views answers (builds_in (made_calls calls replies)))

-- so it is for each reader after each run
abbrev pub AreCountedOfHistories : Type 0
AreCountedOfHistories = OfEachReader HasCountedOfHistories

-- the collections that the reader was given are those that are read off the calls made
abbrev pub IsGivenCollections : Views → Resource → ℕ → List Call → List Reply → ℕ → ReaderAnswers → Type 0
IsGivenCollections views resource identity calls replies r answers = given_collections r calls replies ≡ collections_of views resource answers r (made_calls calls replies)

-- so it is for each reader of each run
abbrev pub AreCollectionsOfHistories : Type 0
AreCollectionsOfHistories = (views : Views) (resource : Resource) (identity : ℕ) (readers : List ReaderAnswers) (calls : List Call) (replies : List Reply) (new : State)
    → IsRun views resource identity readers calls replies new
    → (r : ℕ) (answers : ReaderAnswers) → slice_get readers r ≡ Some answers
    → IsGivenCollections views resource identity calls replies r answers

-- ======== conservation ========
-- a statement about a stream of a reader after calls and replies
abbrev pub OfStream : Type 1
OfStream = Views → List Call → List Reply → State → ℕ → ReaderAnswers → ReaderPart → Stream → Type 0

-- the statement holds of each stream of each reader after each run
abbrev pub OfEachStream : OfStream → Type 0
OfEachStream P = OfEachReader (λ views resource calls replies new r answers part.
    (j : ℕ) (s : Stream) → slice_get part.streams j ≡ Some s → P views calls replies new r answers part s)

-- the total of what a stream recorded is that of its history, modulo 2^64
abbrev pub HasRecordedTotal : OfStream
HasRecordedTotal views calls replies new r answers part s =
    s.recorded ≡ wrap (recorded_in views answers r s.demand (made_calls calls replies))

-- so it is for each stream after each run
abbrev pub IsRecordedTotal : Type 0
IsRecordedTotal = OfEachStream HasRecordedTotal

-- the total of what a stream exported is that of its collections' points, modulo 2^64
abbrev pub HasExportedTotal : OfStream
HasExportedTotal views calls replies new r answers part s =
    s.exported ≡ wrap (exported_in views answers r s.demand (made_calls calls replies))

-- so it is for each stream after each run
abbrev pub IsExportedTotal : Type 0
IsExportedTotal = OfEachStream HasExportedTotal

-- the pending points of a stream are those of its current window
abbrev pub HasPendingPoints : OfStream
HasPendingPoints views calls replies new r answers part s =
    points (kind_of answers s.demand) s.machine ≡ window_points answers s.demand (history views answers r s.demand (made_calls calls replies))

-- so it is for each stream after each run
abbrev pub ArePendingPoints : Type 0
ArePendingPoints = OfEachStream HasPendingPoints

-- unless a stream is drained, what it recorded is what it exported plus what is pending, modulo 2^64, each read off the
-- calls. A sum adds up values, a histogram counts measurements, a last value counts nothing
abbrev pub Conserves : OfStream
Conserves views calls replies new r answers part s =
    is_drained s.demand ≡ false
    → wrap (recorded_in views answers r s.demand (made_calls calls replies))
    ≡ wrap (exported_in views answers r s.demand (made_calls calls replies) + points_total (window_points answers s.demand (history views answers r s.demand (made_calls calls replies))))

-- so it is for each stream after each run
abbrev pub IsConserved : Type 0
IsConserved = OfEachStream Conserves

-- the same of the totals and the points that the stream keeps
abbrev pub KeepsBalance : OfStream
KeepsBalance views calls replies new r answers part s =
    is_drained s.demand ≡ false
    → s.recorded ≡ wrap (s.exported + points_total (points (kind_of answers s.demand) s.machine))

-- so it is for each stream after each run
abbrev pub IsBalanceKept : Type 0
IsBalanceKept = OfEachStream KeepsBalance

-- what a synchronous stream recorded is what the instruments that feed it accepted, modulo 2^64
abbrev pub HasAccepted : OfStream
HasAccepted views calls replies new r answers part s =
    is_observable s.demand.identity.kind ≡ false
    → s.recorded ≡ wrap (accepted_for (aggregate_of s.demand) s.demand.identity part.feeds new.shared.instruments)

-- so it is for each stream after each run
abbrev pub IsAccepted : Type 0
IsAccepted = OfEachStream HasAccepted

-- ======== answered collections ========
-- the statement holds of each metric that each reader was given in each run
abbrev pub OfAnsweredMetrics : (Views → ReaderAnswers → ℕ → OfMetric) → Type 0
OfAnsweredMetrics P = (views : Views) (resource : Resource) (identity : ℕ) (readers : List ReaderAnswers) (calls : List Call) (replies : List Reply) (new : State)
    → IsRun views resource identity readers calls replies new
    → (r : ℕ) (answers : ReaderAnswers) → slice_get readers r ≡ Some answers
    → OfEachMetric P views resource identity calls replies r answers

-- each metric has at most two points more than the limit of its stream
abbrev pub AreAnsweredFew : Type 0
AreAnsweredFew = OfAnsweredMetrics HasFewPoints

-- unless its stream is drained, each metric has the total of its stream's window
abbrev pub AreAnsweredTotals : Type 0
AreAnsweredTotals = OfAnsweredMetrics ShowsWindow

-- unless its stream is drained or delta, each metric has the total of all that was recorded before
abbrev pub IsAllAnswered : Type 0
IsAllAnswered = OfAnsweredMetrics ShowsAll

-- ======== collections that come now ========
-- in a stream that is neither drained nor delta, the points of a collection now would add up to all that was recorded,
-- modulo 2^64. `events` are its observations
abbrev pub IsAllShown : Type 0
IsAllShown = (views : Views) (answers : ReaderAnswers) (r : ℕ) (d : Demand) (calls : List Call) (events : List Event)
    → is_drained d ≡ false → is_delta answers d ≡ false
    → wrap (points_total (window_points answers d (history views answers r d calls ++ events))) ≡ wrap (recorded_total (aggregate_of d) (history views answers r d calls ++ events))

-- a collection now would show at most two points more than the limit of a stream
abbrev pub ArePointsFew : Type 0
ArePointsFew = (views : Views) (answers : ReaderAnswers) (r : ℕ) (d : Demand) (calls : List Call) (events : List Event)
    → length (differences answers d (reported_of views answers r d calls) (window_points answers d (history views answers r d calls ++ events))) ≤ d.limit + 2

-- ======== readers ========
-- the answers of a provider's readers, in order
abbrev pub answers_in : State → List ReaderAnswers
answers_in st = map (λ (p : ReaderPart). p.answers) st.readers

-- there are as many readers as before, in the same order, each with the same answers
abbrev pub KeepsReaders : State → State → Type 0
KeepsReaders old new = answers_in new ≡ answers_in old

-- so it is over each run
abbrev pub AreReadersKept : Type 0
AreReadersKept = (views : Views) (old : State) (calls : List Call) (replies : List Reply) (new : State) → Run views old calls replies new → KeepsReaders old new

-- and over each call
abbrev pub AreReadersKeptAtOnce : Type 0
AreReadersKeptAtOnce = (views : Views) (old : State) (call : Call) (reply : Reply) (new : State) → Step views old call reply new → KeepsReaders old new
