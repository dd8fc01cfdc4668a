-- What is shown of a stream, and that nothing is lost between its records and its reader's collections.
use Rattle.std.proofs.Common.{◌≡◌, ℕ, zero, suc, ◌+◌, ◌≤◌, Bool, true, false, List, [], ◌∷◌, ◌++◌, length, map, refl, arith, sym, ◌∙◌, ap, Some, subst, cond}
use Rattle.std.specs.Prelude.{◌^◌, slice_get, sum_by}
use Rattle.std.proofs.lemmas.List.{length-map}
use Rattle.std.proofs.Math.Nat.{mod-add-mod}
use Rattle.otel_model_stream.specs.Folds.{Aggregate, wrap}
use Rattle.otel_model_stream.specs.Events.{Event, Kind, Delta, Cumulative, Drained, Point}
use Rattle.otel_model_stream.specs.Machine.{run, points}
use Rattle.otel_model_stream.specs.Windows.{Window, opening, more, cut, window, collections, points_of}
use Rattle.otel_model_stream.specs.Totals.{recorded_total, points_total}
use Rattle.otel_model.specs.Resources.{Resource}
use Rattle.otel_model.specs.Calls.{Observed, Call, Meter, Build, Record, Bind, RecordBound, Unbind, Collect, Flush, Shutdown, Reply}
use Rattle.otel_model.specs.Demands.{Identity, Demand, Views, ReaderAnswers, is_known}
use Rattle.otel_model.specs.Streams.{is_drained, is_delta, kind_of, aggregate_of}
use Rattle.otel_model.specs.Collections.{shows_differences, difference}
use Rattle.otel_model.specs.State.{State, Stream, ReaderPart}
use Rattle.otel_model.specs.Sent.{is_fed, set_for, observed_events, sent_events}
use Rattle.otel_model.specs.History.{reported_of, shown_by, shown_at, shown_points, gather, made_calls, builds_in, binds_in, demands_of, feeds_of, streams_of, concerns, events_at, history, window_of, window_points}
use Rattle.otel_model.specs.Totals.{exported_in, recorded_in}
use Rattle.otel_model.specs.Laws.{IsRun, IsRecordedTotal, IsExportedTotal, ArePendingPoints, IsConserved, IsBalanceKept, IsAllShown, ArePointsFew}
use Rattle.otel_model.proofs.StreamFacts.{delta_total, cumulative_total, few_are}
use Rattle.otel_model.proofs.Single.{some_is}
use Rattle.otel_model.proofs.Gather.{gather_push}
use Rattle.otel_model.proofs.Follow.{stream_in, points_run}
use Rattle.otel_model.proofs.Recorded.{recorded_is}
use Rattle.otel_model.proofs.Runs.{part_is}

-- ======== one stream ========
window_append : (kind : Kind) (limit : ℕ) (w : Window) (es fs : List Event) → window kind limit w (es ++ fs) ≡ window kind limit (window kind limit w es) fs
window_append kind limit w [] fs = refl
window_append kind limit w (Event.Record s v ∷ es) fs = window_append kind limit (more w (Event.Record s v)) es fs
window_append kind limit w (Event.Bind h s ∷ es) fs = window_append kind limit (more w (Event.Bind h s)) es fs
window_append kind limit w (Event.RecordBound h v ∷ es) fs = window_append kind limit (more w (Event.RecordBound h v)) es fs
window_append kind limit w (Event.Unbind h ∷ es) fs = window_append kind limit (more w (Event.Unbind h)) es fs
window_append kind limit w (Event.Collect ∷ es) fs = window_append kind limit (cut kind limit w) es fs

collections_append : (a : Aggregate) (kind : Kind) (limit : ℕ) (w : Window) (es fs : List Event) → collections a kind limit w (es ++ fs) ≡ collections a kind limit w es ++ collections a kind limit (window kind limit w es) fs
collections_append a kind limit w [] fs = refl
collections_append a kind limit w (Event.Record s v ∷ es) fs = collections_append a kind limit (more w (Event.Record s v)) es fs
collections_append a kind limit w (Event.Bind h s ∷ es) fs = collections_append a kind limit (more w (Event.Bind h s)) es fs
collections_append a kind limit w (Event.RecordBound h v ∷ es) fs = collections_append a kind limit (more w (Event.RecordBound h v)) es fs
collections_append a kind limit w (Event.Unbind h ∷ es) fs = collections_append a kind limit (more w (Event.Unbind h)) es fs
collections_append a kind limit w (Event.Collect ∷ es) fs = ap (λ l. points_of a kind limit w ∷ l) (collections_append a kind limit (cut kind limit w) es fs)

module _ (views : Views) (answers : ReaderAnswers) (r : ℕ) (d : Demand) where
  abbrev feeds_in : List Call → List (List Identity)
  feeds_in past = feeds_of views answers [] (builds_in past)

  abbrev cut_into : Window → List Event → List (List Point)
  cut_into w es = collections (aggregate_of d) (kind_of answers d) d.limit w es

  abbrev go_on : Window → List Event → Window
  go_on w es = window (kind_of answers d) d.limit w es

  observed_none : (feeds : List (List Identity)) (os : List Observed) (w : Window) → cut_into w (observed_events feeds d os) ≡ []
  observed_none feeds [] w = refl
  observed_none feeds (o ∷ os) w = go (is_fed feeds o.instrument d.identity) (observed_none feeds os)
    where
      go : (b : Bool) → ((w : Window) → cut_into w (observed_events feeds d os) ≡ []) → cut_into w (cond b (Event.Record (set_for d o.attributes) o.value.amount ∷ observed_events feeds d os) (observed_events feeds d os)) ≡ []
      go true ih = ih (more w (Event.Record (set_for d o.attributes) o.value.amount))
      go false ih = ih w

  -- what a call sends is cut into what its collection shows
  shown_is : (before : List Call) (c : Call) → cut_into (window_of answers d (history views answers r d before)) (sent_events (feeds_in before) (binds_in before) d c) ≡ shown_by views answers r d before c
  shown_is before (Meter scope) = refl
  shown_is before (Build meter about now) = refl
  shown_is before (Record n v l) = go (is_fed (feeds_in before) n d.identity)
    where
      go : (b : Bool) → cut_into (window_of answers d (history views answers r d before)) (cond b (Event.Record (set_for d l) v.amount ∷ []) []) ≡ []
      go true = refl
      go false = refl
  shown_is before (Bind n l) = go (is_fed (feeds_in before) n d.identity)
    where
      go : (b : Bool) → cut_into (window_of answers d (history views answers r d before)) (cond b (Event.Bind (binds_in before) (set_for d l) ∷ []) []) ≡ []
      go true = refl
      go false = refl
  shown_is before (RecordBound h v) = refl
  shown_is before (Unbind h) = refl
  shown_is before (Collect q now os) =
      collections_append (aggregate_of d) (kind_of answers d) d.limit (window_of answers d (history views answers r d before)) (observed_events (feeds_in before) d os) (Event.Collect ∷ [])
      ∙ (λ i. observed_none (feeds_in before) os (window_of answers d (history views answers r d before)) i
      ++ points_of (aggregate_of d) (kind_of answers d) d.limit (sym (window_append (kind_of answers d) d.limit opening (history views answers r d before) (observed_events (feeds_in before) d os)) i) ∷ [])
  shown_is before Flush = refl
  shown_is before Shutdown = refl

  shown_at_is : (before : List Call) (c : Call) → cut_into (window_of answers d (history views answers r d before)) (events_at views answers r d before c) ≡ shown_at views answers r d before c
  shown_at_is before c = go (is_known (demands_of views answers [] (builds_in before)) d.identity) (concerns r c)
    where
      go : (k m : Bool) → cut_into (window_of answers d (history views answers r d before)) (cond k (cond m (sent_events (feeds_in before) (binds_in before) d c) []) []) ≡ cond k (cond m (shown_by views answers r d before c) []) []
      go true true = shown_is before c
      go true false = refl
      go false m = refl

  -- all collections
  shown_from : (before calls : List Call) → gather (shown_at views answers r d) before calls ≡ cut_into (window_of answers d (history views answers r d before)) (gather (events_at views answers r d) before calls)
  shown_from before [] = refl
  shown_from before (c ∷ cs) =
      (λ i. sym (shown_at_is before c) i ++ shown_from (before ++ c ∷ []) cs i)
      ∙ sym (collections_append (aggregate_of d) (kind_of answers d) d.limit (window_of answers d (history views answers r d before)) (events_at views answers r d before c) (gather (events_at views answers r d) (before ++ c ∷ []) cs)
      ∙ ap (λ w. cut_into (window_of answers d (history views answers r d before)) (events_at views answers r d before c) ++ cut_into w (gather (events_at views answers r d) (before ++ c ∷ []) cs))
      (sym (ap (window_of answers d) (gather_push (events_at views answers r d) [] before c) ∙ window_append (kind_of answers d) d.limit opening (history views answers r d before) (events_at views answers r d before c))))

  pub shown_points_are : (calls : List Call) → shown_points views answers r d calls ≡ cut_into opening (history views answers r d calls)
  shown_points_are calls = shown_from [] calls

-- ======== the streams of a run ========
pub get_of_map : {X Y : Type 0} (f : X → Y) (xs : List X) (j : ℕ) (y : Y) → slice_get (map f xs) j ≡ Some y → (x : X) × (y ≡ f x)
get_of_map f [] j y e = absurd (cc)
get_of_map f (x ∷ xs) zero y e = (x, sym (some_is (f x) y e))
get_of_map f (x ∷ xs) (suc j) y e = get_of_map f xs j y e

-- each stream is read off the calls made
pub stream_is : (views : Views) (resource : Resource) (identity : ℕ) (readers : List ReaderAnswers) (calls : List Call) (replies : List Reply) (new : State) → IsRun views resource identity readers calls replies new
    → (r : ℕ) (answers : ReaderAnswers) (part : ReaderPart) → slice_get readers r ≡ Some answers → slice_get new.readers r ≡ Some part
    → (j : ℕ) (s : Stream) → slice_get part.streams j ≡ Some s → (d : Demand) × (s ≡ stream_in views answers r (made_calls calls replies) d)
stream_is views resource identity readers calls replies new run r answers part h g j s e =
    let past = made_calls calls replies in
    get_of_map (stream_in views answers r past) (streams_of views answers (builds_in past)) j s
    (sym (ap (λ (p : ReaderPart). slice_get p.streams j) (part_is views resource identity readers calls replies new run r answers part h g)) ∙ e)

-- ======== totals ========
pub recorded_law : IsRecordedTotal
recorded_law views resource identity readers calls replies new run r answers part h g j s e =
    let past = made_calls calls replies in
    let q = stream_is views resource identity readers calls replies new run r answers part h g j s e in
    let P : Stream → Type 0 = λ s. s.recorded ≡ wrap (recorded_in views answers r s.demand past) in
    subst P (sym q.1) (recorded_is answers q.0 (history views answers r q.0 past))

wrapped_if : (b : Bool) (n : ℕ) → cond b (wrap n) 0 ≡ wrap (cond b n 0)
wrapped_if true n = refl
wrapped_if false n = refl

exported_is : (views : Views) (answers : ReaderAnswers) (r : ℕ) (d : Demand) (past : List Call) → (stream_in views answers r past d).exported ≡ wrap (exported_in views answers r d past)
exported_is views answers r d past = wrapped_if (is_delta answers d) (sum_by points_total (shown_points views answers r d past))

pub exported_law : IsExportedTotal
exported_law views resource identity readers calls replies new run r answers part h g j s e =
    let past = made_calls calls replies in
    let q = stream_is views resource identity readers calls replies new run r answers part h g j s e in
    let P : Stream → Type 0 = λ s. s.exported ≡ wrap (exported_in views answers r s.demand past) in
    subst P (sym q.1) (exported_is views answers r q.0 past)

zero_plus : (n : ℕ) → 0 + n ≡ n
zero_plus n = omega arith

kind_when : (answers : ReaderAnswers) (d : Demand) → is_drained d ≡ false → kind_of answers d ≡ cond (is_delta answers d) Delta Cumulative
kind_when answers d e = ap (λ b. cond b Drained (cond (is_delta answers d) Delta Cumulative)) e

pub conserved_in : (views : Views) (answers : ReaderAnswers) (r : ℕ) (d : Demand) (past : List Call) → is_drained d ≡ false
    → wrap (exported_in views answers r d past + points_total (window_points answers d (history views answers r d past))) ≡ wrap (recorded_in views answers r d past)
conserved_in views answers r d past e =
    (λ i. wrap (cond (is_delta answers d) (sum_by points_total (shown_points_are views answers r d past i)) 0 + points_total (window_points answers d h)))
    ∙ go (is_delta answers d) (kind_of answers d) (kind_when answers d e)
  where
    h : List Event
    h = history views answers r d past

    Claim : Bool → Kind → Type 0
    Claim b k = wrap (cond b (sum_by points_total (collections (aggregate_of d) k d.limit opening h)) 0 + points_total (points_of (aggregate_of d) k d.limit (window k d.limit opening h)))
        ≡ wrap (recorded_total (aggregate_of d) h)

    go : (b : Bool) (k : Kind) → k ≡ cond b Delta Cumulative → Claim b k
    go true k e = subst (Claim true) (sym e) (delta_total (aggregate_of d) d.limit h)
    go false k e = subst (Claim false) (sym e) (ap wrap (zero_plus (points_total (points_of (aggregate_of d) Cumulative d.limit (window Cumulative d.limit opening h)))) ∙ cumulative_total (aggregate_of d) d.limit h)

conserved_stream : (views : Views) (answers : ReaderAnswers) (r : ℕ) (d : Demand) (past : List Call) → is_drained d ≡ false
    → (stream_in views answers r past d).recorded ≡ wrap ((stream_in views answers r past d).exported + points_total (points (kind_of answers d) (stream_in views answers r past d).machine))
conserved_stream views answers r d past e =
    recorded_is answers d (history views answers r d past)
    ∙ (sym (conserved_in views answers r d past e)
    ∙ sym ((λ i. wrap (exported_is views answers r d past i + points_total (points_run answers d (history views answers r d past) i)))
    ∙ mod-add-mod (exported_in views answers r d past) (2 ^ 64) (points_total (window_points answers d (history views answers r d past)))))

pub pending_law : ArePendingPoints
pending_law views resource identity readers calls replies new run r answers part h g j s e =
    let past = made_calls calls replies in
    let q = stream_is views resource identity readers calls replies new run r answers part h g j s e in
    let P : Stream → Type 0 = λ s. points (kind_of answers s.demand) s.machine ≡ window_points answers s.demand (history views answers r s.demand past) in
    subst P (sym q.1) (points_run answers q.0 (history views answers r q.0 past))

pub conserved_law : IsConserved
conserved_law views resource identity readers calls replies new run r answers part h g j s e u = sym (conserved_in views answers r s.demand (made_calls calls replies) u)

pub balance_law : IsBalanceKept
balance_law views resource identity readers calls replies new run r answers part h g j s e u =
    let past = made_calls calls replies in
    let q = stream_is views resource identity readers calls replies new run r answers part h g j s e in
    let P : Stream → Type 0 = λ s. is_drained s.demand ≡ false → s.recorded ≡ wrap (s.exported + points_total (points (kind_of answers s.demand) s.machine)) in
    subst P (sym q.1) (conserved_stream views answers r q.0 past) u

-- ======== one collection ========
pub all_shown_law : IsAllShown
all_shown_law views answers r d calls events e f =
    let es = history views answers r d calls ++ events in
    let P : Kind → Type 0 = λ k. wrap (points_total (points_of (aggregate_of d) k d.limit (window k d.limit opening es))) ≡ wrap (recorded_total (aggregate_of d) es) in
    subst P (sym (kind_when answers d e ∙ ap (λ b. cond b Delta Cumulative) f)) (cumulative_total (aggregate_of d) d.limit es)

-- differences are as many
few_differences : (b : Bool) (before ps : List Point) (n : ℕ) → length ps ≤ n → length (cond b (map (difference before) ps) ps) ≤ n
few_differences true before ps n h = rw (length-map ps (difference before)) h
few_differences false before ps n h = h

pub few_law : ArePointsFew
few_law views answers r d calls events = few_differences (shows_differences answers d) (reported_of views answers r d calls) (window_points answers d (history views answers r d calls ++ events)) (d.limit + 2)
    (few_are (aggregate_of d) (kind_of answers d) d.limit (history views answers r d calls ++ events))
