-- Worked rows on the laws of runs: what each says of the second reader, and of its second stream, of any state that the
-- run leaves and of any replies to its calls.
use Rattle.std.specs.Prelude.{◌≡◌, ◌+◌, ◌≤◌, true, List, [], ◌∷◌, ◌++◌, map, filter, length, Some, slice_get}
use Rattle.std.proofs.Common.{refl}
use Rattle.otel_common.specs.Canonical.{canon}
use Rattle.otel_model_stream.specs.Entries.{Entry}
use Rattle.otel_model_stream.specs.Events.{Event, Kind}
use Rattle.otel_model_stream.specs.Folds.{Sum, Total, wrap}
use Rattle.otel_model_stream.specs.Machine.{points}
use Rattle.otel_model_stream.specs.Totals.{recorded_total, points_total}
use Rattle.otel_model.specs.Accepted.{accepted_for}
use Rattle.otel_model.specs.Answered.{OfEachMetric, HasFewPoints, ShowsWindow, ShowsAll}
use Rattle.otel_model.specs.Calls.{Reply}
use Rattle.otel_model.specs.Collections.{differences}
use Rattle.otel_model.specs.Demands.{Identity, has_identity}
use Rattle.otel_model.specs.History.{made_calls, history, window_points, reported_of, collections_of, given_collections}
use Rattle.otel_model.specs.Laws.{IsRun, IsAnsweredAsOnly, IsAsOnlyReader, IsAsOnlyReaderFromAny, AreApart, names, AreStreamsOfBuilds, AreFeedsOfBuilds, AreStreamsApart, AreFeedsApart, AreFeedsStreams, ArePlacesOfHistories, AreCountedOfHistories, AreCollectionsOfHistories, IsRecordedTotal, IsExportedTotal, ArePendingPoints, Conserves, IsConserved, IsBalanceKept, IsAccepted, AreAnsweredFew, AreAnsweredTotals, IsAllAnswered, IsAllShown, ArePointsFew, answers_in, AreReadersKept, AreReadersKeptAtOnce}
use Rattle.otel_model.specs.Only.{EachAsAlone}
use Rattle.otel_model.specs.Sent.{is_fed}
use Rattle.otel_model.specs.State.{Stream, ReaderPart, State}
use Rattle.otel_model.specs.Steps.{Step, Run}
use Rattle.otel_model_rows.specs.Rows.{add, x1, y1, cumulative, delta}
use Rattle.otel_model_rows.specs.RunRows.{product, views, readers, calls, replies, demand_a, demand_b, demand_c, fed}

-- ======== the second reader ========
abbrev AtReader : (State → ReaderPart → Type 0) → Type 0
AtReader P = (new : State) (part : ReaderPart) → IsRun views product 5 readers calls replies new → slice_get new.readers 1 ≡ Some part → P new part

pub streams_of_run : AreStreamsOfBuilds → AtReader (λ new part. map (λ (s : Stream). s.demand) part.streams ≡ demand_a ∷ demand_b ∷ demand_c ∷ [])
streams_of_run h new part run e = h views product 5 readers calls replies new run 1 delta part refl e

pub feeds_of_run : AreFeedsOfBuilds → AtReader (λ new part. part.feeds ≡ fed)
feeds_of_run h new part run e = h views product 5 readers calls replies new run 1 delta part refl e

pub places_of_run : ArePlacesOfHistories → AtReader (λ new part. map (λ (s : Stream). map (λ (e : Entry). e.set) s.machine.table.entries) part.streams ≡ (x1 ∷ []) ∷ (y1 ∷ []) ∷ [] ∷ [])
unfolding canon
places_of_run h new part run e = h views product 5 readers calls replies new run 1 delta part refl e

pub counted_of_run : AreCountedOfHistories → AtReader (λ new part. map (λ (s : Stream). map (λ (e : Entry). e.set) (filter (λ (e : Entry). e.counted) s.machine.table.entries)) part.streams ≡ (x1 ∷ []) ∷ (y1 ∷ []) ∷ [] ∷ [])
unfolding canon
counted_of_run h new part run e = h views product 5 readers calls replies new run 1 delta part refl e

pub streams_apart : AreStreamsApart → AtReader (λ new part. AreApart (names part.streams))
streams_apart h new part run e = h views product 5 readers calls replies new run 1 delta part refl e

pub feeds_apart : AreFeedsApart → AtReader (λ new part. (xs : List Identity) → slice_get part.feeds 2 ≡ Some xs → AreApart xs)
feeds_apart h new part run e xs f = h views product 5 readers calls replies new run 1 delta part refl e 2 xs f

pub feeds_streams : AreFeedsStreams → AtReader (λ new part. (x : Identity) → is_fed part.feeds 2 x ≡ true → has_identity (names part.streams) x ≡ true)
feeds_streams h new part run e x f = h views product 5 readers calls replies new run 1 delta part refl e 2 x f

-- ======== its second stream ========
abbrev AtStream : (State → ReaderPart → Stream → Type 0) → Type 0
AtStream P = (new : State) (part : ReaderPart) (s : Stream) → IsRun views product 5 readers calls replies new → slice_get new.readers 1 ≡ Some part → slice_get part.streams 1 ≡ Some (record s { demand = demand_b }) → P new part s

pub recorded_of_run : IsRecordedTotal → AtStream (λ new part s. s.recorded ≡ 8)
unfolding canon
recorded_of_run h new part s run e f = h views product 5 readers calls replies new run 1 delta part refl e 1 (record s { demand = demand_b }) f

pub exported_of_run : IsExportedTotal → AtStream (λ new part s. s.exported ≡ 2)
unfolding canon
exported_of_run h new part s run e f = h views product 5 readers calls replies new run 1 delta part refl e 1 (record s { demand = demand_b }) f

pub pending_of_run : ArePendingPoints → AtStream (λ new part s. points Kind.Delta s.machine ≡ (y1, Total 6) ∷ [])
unfolding canon
pending_of_run h new part s run e f = h views product 5 readers calls replies new run 1 delta part refl e 1 (record s { demand = demand_b }) f

pub balance_of_run : IsBalanceKept → AtStream (λ new part s. s.recorded ≡ wrap (s.exported + points_total (points Kind.Delta s.machine)))
balance_of_run h new part s run e f = h views product 5 readers calls replies new run 1 delta part refl e 1 (record s { demand = demand_b }) f refl

pub accepted_of_run : IsAccepted → AtStream (λ new part s. s.recorded ≡ wrap (accepted_for Sum demand_b.identity part.feeds new.shared.instruments))
accepted_of_run h new part s run e f = h views product 5 readers calls replies new run 1 delta part refl e 1 (record s { demand = demand_b }) f refl

-- of any stream
pub conserved_of_run : IsConserved → (new : State) (part : ReaderPart) (s : Stream) → IsRun views product 5 readers calls replies new → slice_get new.readers 1 ≡ Some part → slice_get part.streams 1 ≡ Some s
    → Conserves views calls replies new 1 delta part s
conserved_of_run h new part s run e f = h views product 5 readers calls replies new run 1 delta part refl e 1 s f

-- ======== replies ========
-- whatever they are
abbrev OfReplies : (List Reply → Type 0) → Type 0
OfReplies P = (given : List Reply) (new : State) → IsRun views product 5 readers calls given new → P given

pub as_only_of_run : IsAsOnlyReader → OfReplies (λ given. IsAnsweredAsOnly views product 5 calls given 1 delta)
as_only_of_run h given new run = h views product 5 readers calls given new run 1 delta refl

pub as_only_from_any : IsAsOnlyReaderFromAny → (old new : State) (given : List Reply) → Run views old calls given new → EachAsAlone views old calls given
as_only_from_any h old new given run = h views old calls given new run

pub collections_of_run : AreCollectionsOfHistories → OfReplies (λ given. given_collections 1 calls given ≡ collections_of views product delta 1 (made_calls calls given))
collections_of_run h given new run = h views product 5 readers calls given new run 1 delta refl

pub metrics_of_run : (AreAnsweredFew → OfReplies (λ given. OfEachMetric HasFewPoints views product 5 calls given 1 delta))
    × (AreAnsweredTotals → OfReplies (λ given. OfEachMetric ShowsWindow views product 5 calls given 1 delta))
    × (IsAllAnswered → OfReplies (λ given. OfEachMetric ShowsAll views product 5 calls given 1 delta))
metrics_of_run = (
  λ h given new run. h views product 5 readers calls given new run 1 delta refl,
  λ h given new run. h views product 5 readers calls given new run 1 delta refl,
  λ h given new run. h views product 5 readers calls given new run 1 delta refl,
)

-- ======== what would be shown now ========
pub all_shown_now : IsAllShown → (events : List Event) → wrap (points_total (window_points cumulative demand_b (history views cumulative 0 demand_b calls ++ events))) ≡ wrap (recorded_total Sum (history views cumulative 0 demand_b calls ++ events))
all_shown_now h events = h views cumulative 0 demand_b calls events refl refl

pub few_points_now : ArePointsFew → (events : List Event) → length (differences delta demand_a (reported_of views delta 1 demand_a calls) (window_points delta demand_a (history views delta 1 demand_a calls ++ events))) ≤ 3
few_points_now h events = h views delta 1 demand_a calls events

-- ======== readers ========
pub readers_of_run : (AreReadersKept → (old new : State) (given : List Reply) → Run views old calls given new → answers_in new ≡ answers_in old)
    × (AreReadersKeptAtOnce → (old new : State) (given : Reply) → Step views old (add 5 x1) given new → answers_in new ≡ answers_in old)
readers_of_run = (λ h old new given run. h views old calls given new run, λ h old new given step. h views old (add 5 x1) given new step)
