-- What a reader's collections were answered with.
use Rattle.std.proofs.Common.{◌≡◌, ℕ, ◌+◌, ◌≤◌, ◌<◌, ℤ, Bool, true, false, List, [], ◌∷◌, ◌++◌, length, map, refl, sym, ◌∙◌, ap, arith, fold, lit<, Option, Some, None, subst, cond}
use Rattle.std.specs.Prelude.{slice_get, filter, ◌^◌, ◌&&◌}
use Rattle.std.specs.Int.{cast_unsigned, w64}
use Rattle.std.specs.List.{AllZip}
use Rattle.std.proofs.lemmas.Int.{of_z-to_z}
use Rattle.std.proofs.lemmas.List.{length-map}
use Rattle.std.proofs.lemmas.Nat.{mod_below}
use Rattle.otel_common.specs.declared.metrics.Temporality.{Temporality}
use Rattle.otel_common.specs.declared.resource.Resource.{Resource}
use Rattle.otel_data.specs.declared.aggregated.AggregatedMetrics.{AggregatedMetrics}
use Rattle.otel_data.specs.declared.collections.Metric.{Metric}
use Rattle.otel_data.specs.declared.collections.ResourceMetrics.{ResourceMetrics}
use Rattle.otel_data.specs.declared.points.HistogramDataPoint.{HistogramDataPoint}
use Rattle.otel_data.specs.declared.points.SumDataPoint.{SumDataPoint}
use Rattle.otel_model_stream.specs.Sets.{AttributeSet, none_set}
use Rattle.otel_model_stream.specs.Folds.{Aggregate, Amount, wrap}
use Rattle.otel_model_stream.specs.Events.{Point}
use Rattle.otel_model_stream.specs.Totals.{weight, points_total}
use Rattle.otel_model_stream.specs.Windows.{Window, point, records_of, is_hit, shown_places}
use Rattle.otel_model.specs.Calls.{InstrumentKind, Observed, Call, Collect, Fault, Reply}
use Rattle.otel_model.specs.Answered.{data_total, content_total, IsMetricOf, OfMetric, HasFewPoints, ShowsWindow, ShowsAll}
use Rattle.otel_model.specs.Collections.{sum_point, histogram_point, data_by, natural_of, signed_of, aggregated_metrics, exported_temporality, metric, number_of_points, points_in, ScopedMetric, difference, differences}
use Rattle.otel_model.specs.Demands.{Aggregation, Demand, ReaderAnswers, Views}
use Rattle.otel_model.specs.History.{made_calls, builds_in, streams_of, feeds_by, history, window_of, collection_of, points_with, start_of, reported_of}
use Rattle.otel_model.specs.Laws.{IsRun, OfAnsweredMetrics, AreAnsweredFew, AreAnsweredTotals, IsAllAnswered}
use Rattle.otel_model.specs.Machine.{new_state}
use Rattle.otel_model.specs.Refusals.{refusal}
use Rattle.otel_model.specs.Sent.{observed_events}
use Rattle.otel_model.specs.State.{State, ReaderPart}
use Rattle.otel_model.specs.Steps.{collect_from, collect_reply, answer_of, reply_by, Run}
use Rattle.otel_model.specs.Streams.{is_drained, is_delta, kind_of, has_sum, aggregate_from}
use Rattle.otel_model.proofs.Runs.{run_agrees, agrees_new, collect_is}
use Rattle.otel_model.proofs.Shown.{all_shown_law, few_law}

-- ======== a run in two parts ========
run_split : (views : Views) (earlier later : List Call) (answered rest : List Reply) (old new : State) → length answered ≡ length earlier → Run views old (earlier ++ later) (answered ++ rest) new
    → (mid : State) × Run views old earlier answered mid × Run views mid later rest new
run_split views [] later [] rest old new e run = (old, refl, run)
run_split views [] later (reply ∷ answered) rest old new e run = absurd (cc)
run_split views (call ∷ earlier) later [] rest old new e run = absurd (cc)
run_split views (call ∷ earlier) later (reply ∷ answered) rest old new e run =
    let shorter : length answered ≡ length earlier = omega (arith, e) in
    let q = run_split views earlier later answered rest run.0 new shorter run.2 in
    (q.0, (run.0, run.1, q.1), q.2)

-- ======== a collection that was answered ========
same_collection : (c d : ResourceMetrics) → Reply.Collected c ≡ Reply.Collected d → c ≡ d
same_collection c d e = cc

collected_is : (o : Option Fault) (c : ResourceMetrics) (st : State) (r now : ℕ) (os : List Observed) (part : ReaderPart) → Reply.Collected c ≡ reply_by o (answer_of st (Collect r now os)) → slice_get st.readers r ≡ Some part
    → c ≡ collect_from st.shared now os part
collected_is None c st r now os part e at = same_collection c (collect_from st.shared now os part) (e ∙ ap (collect_reply st.shared now os) at)
collected_is (Some f) c st r now os part e at = absurd (cc)

pub answered_is : (views : Views) (resource : Resource) (identity : ℕ) (readers : List ReaderAnswers) (calls : List Call) (replies : List Reply) (new : State) → IsRun views resource identity readers calls replies new
    → (r : ℕ) (answers : ReaderAnswers) → slice_get readers r ≡ Some answers
    → (earlier later : List Call) (answered rest : List Reply) (now : ℕ) (os : List Observed) (c : ResourceMetrics)
    → calls ≡ earlier ++ Collect r now os ∷ later → replies ≡ answered ++ Reply.Collected c ∷ rest → length answered ≡ length earlier
    → c ≡ collection_of views resource answers r (made_calls earlier answered) now os
answered_is views resource identity readers calls replies new run r answers at earlier later answered rest now os c calls_are replies_are alike =
    let begun : State = new_state resource identity readers in
    let OfCalls : List Call → Type 0 = λ cs. Run views begun cs replies new in
    let OfReplies : List Reply → Type 0 = λ rs. Run views begun (earlier ++ Collect r now os ∷ later) rs new in
    let q = run_split views earlier (Collect r now os ∷ later) answered (Reply.Collected c ∷ rest) begun new alike (subst OfReplies replies_are (subst OfCalls calls_are run)) in
    let a = (run_agrees views resource readers [] begun q.0 earlier answered q.1 (agrees_new views resource identity readers)).0 in
    collected_is (refusal q.0.shared (length q.0.readers) (Collect r now os)) c q.0 r now os _ q.2.1.0 (a.parts r answers at)
    ∙ collect_is views resource readers (made_calls earlier answered) q.0 r answers now os a

-- ======== its metrics ========
-- the metric that a stream gives after these calls, with these observations
abbrev pub metric_at : Views → ReaderAnswers → ℕ → List Call → ℕ → List Observed → Demand → Metric
metric_at views answers r before now os d = metric answers now (start_of views answers r d before) (reported_of views answers r d before) d (points_with views answers r d before os)

each_metric : (P : Demand → Metric → Type 0) (f : Demand → ScopedMetric) → ((d : Demand) → IsMetricOf P d (f d)) → (ds : List Demand) → AllZip (IsMetricOf P) ds (map f ds)
each_metric P f holds [] = tt
each_metric P f holds (d ∷ ds) = (holds d, each_metric P f holds ds)

-- what holds of the metrics of streams holds of those that were answered
of_metrics : (P : Views → ReaderAnswers → ℕ → OfMetric) → ((views : Views) (answers : ReaderAnswers) (r : ℕ) (before : List Call) (now : ℕ) (os : List Observed) (d : Demand) → P views answers r before os d (metric_at views answers r before now os d))
    → OfAnsweredMetrics P
of_metrics P holds views resource identity readers calls replies new run r answers at earlier later answered rest now os c calls_are replies_are alike =
    let before : List Call = made_calls earlier answered in (
      map (λ (d : Demand). (d.identity.scope, metric_at views answers r before now os d)) (streams_of views answers (builds_in before)),
      each_metric (P views answers r before os) (λ d. (d.identity.scope, metric_at views answers r before now os d))
          (λ d. record { scope = refl; name = refl; description = refl; unit = refl; holds = holds views answers r before now os d }) (streams_of views answers (builds_in before)),
      answered_is views resource identity readers calls replies new run r answers at earlier later answered rest now os c calls_are replies_are alike,
    )

-- ======== few points ========
module _ {T : Type 0} (of_bits : ℕ → T) (of_whole : ℤ → T) (t : Temporality) (kind : InstrumentKind) (start now : ℕ) where
  as_many : (a : Aggregation) (ps : List Point) → points_in (data_by of_bits of_whole t kind a start now ps) ≡ length ps
  as_many Aggregation.Drop ps = length-map ps _
  as_many Aggregation.Default ps = length-map ps _
  as_many Aggregation.Sum ps = length-map ps _
  as_many Aggregation.LastValue ps = length-map ps _
  as_many (Aggregation.ExplicitBucketHistogram bounds k) ps = length-map ps _

as_many_of : (signed : Bool) (t : Temporality) (kind : InstrumentKind) (a : Aggregation) (start now : ℕ) (ps : List Point) → number_of_points (aggregated_metrics signed t kind a start now ps) ≡ length ps
as_many_of false t kind a start now ps = as_many (λ n. n) natural_of t kind start now a ps
as_many_of true t kind a start now ps = as_many signed_of (λ z. z) t kind start now a ps

few_metric : (views : Views) (answers : ReaderAnswers) (r : ℕ) (before : List Call) (now : ℕ) (os : List Observed) (d : Demand) → HasFewPoints views answers r before os d (metric_at views answers r before now os d)
few_metric views answers r before now os d =
    let P : ℕ → Type 0 = λ n. n ≤ d.limit + 2 in
    subst P (sym (as_many_of d.identity.signed (exported_temporality answers d) d.identity.kind d.aggregation (start_of views answers r d before) now (differences answers d (reported_of views answers r d before) (points_with views answers r d before os))))
    (few_law views answers r d before (observed_events (feeds_by views answers before) d os))

pub few_answered_law : AreAnsweredFew
few_answered_law = of_metrics HasFewPoints few_metric

-- ======== totals ========
wrapped_fits : (n : ℕ) → wrap n < 2 ^ 64
wrapped_fits n = mod_below n (2 ^ 64) (lit< tt)

-- what is made of points adds up to what these do, if each does
same_sums : {X Y Z : Type 0} (f : Z → ℕ) (g : Y → ℕ) (h : Y → Z) (k : X → Y) → ((x : X) → f (h (k x)) ≡ g (k x)) → (n : ℕ) (xs : List X)
    → fold (λ a z. a + f z) n (map h (map k xs)) ≡ fold (λ a y. a + g y) n (map k xs)
same_sums f g h k same n [] = refl
same_sums f g h k same n (x ∷ xs) = ap (λ j. fold (λ a z. a + f z) (n + j) (map h (map k xs))) (same x) ∙ same_sums f g h k same (n + g (k x)) xs

plus_zero : (n : ℕ) → n + 0 ≡ n
plus_zero n = omega arith

no_sums : {X Y : Type 0} (g : Y → ℕ) (k : X → Y) → ((x : X) → g (k x) ≡ 0) → (n : ℕ) (xs : List X) → fold (λ a y. a + g y) n (map k xs) ≡ n
no_sums g k none n [] = refl
no_sums g k none n (x ∷ xs) = ap (λ j. fold (λ a y. a + g y) j (map k xs)) (ap (λ j. n + j) (none x) ∙ plus_zero n) ∙ no_sums g k none n xs

module _ {T : Type 0} (of_bits : ℕ → T) (of_whole : ℤ → T) (bits : T → ℕ) (told : (n : ℕ) → n < 2 ^ 64 → bits (of_bits n) ≡ n) (t : Temporality) (start now : ℕ) (kind : InstrumentKind) (rs : List (AttributeSet × Amount)) where
  -- the points of sets, of what the aggregation keeps
  abbrev points_for : Aggregation → List AttributeSet → List Point
  points_for a xs = map (point (aggregate_from false kind a) rs) xs

  of_sums : (xs : List AttributeSet) → fold (λ a (p : SumDataPoint T). a + bits p.value) 0 (map (sum_point of_bits of_whole) (map (point Aggregate.Sum rs) xs)) ≡ points_total (map (point Aggregate.Sum rs) xs)
  of_sums xs = same_sums (λ (p : SumDataPoint T). bits p.value) (λ (q : Point). weight q.1) (sum_point of_bits of_whole) (point Aggregate.Sum rs) (λ x. told _ (wrapped_fits _)) 0 xs

  total_by : (a : Aggregation) (xs : List AttributeSet) → data_total bits (data_by of_bits of_whole t kind a start now (points_for a xs)) ≡ wrap (points_total (points_for a xs))
  total_by Aggregation.Drop xs = ap wrap (of_sums xs)
  total_by Aggregation.Default xs = ap wrap (of_sums xs)
  total_by Aggregation.Sum xs = ap wrap (of_sums xs)
  total_by Aggregation.LastValue xs = sym (ap wrap (no_sums (λ (q : Point). weight q.1) (point Aggregate.LastValue rs) (λ x. refl) 0 xs))
  total_by (Aggregation.ExplicitBucketHistogram bounds k) xs = ap wrap
      (same_sums (λ (p : HistogramDataPoint T). p.count) (λ (q : Point). weight q.1) (histogram_point of_bits of_whole bounds) (point (Aggregate.Histogram bounds k (has_sum kind)) rs) (λ x. refl) 0 xs)

total_of : (signed : Bool) (t : Temporality) (start now : ℕ) (kind : InstrumentKind) (rs : List (AttributeSet × Amount)) (a : Aggregation) (xs : List AttributeSet)
    → content_total (aggregated_metrics signed t kind a start now (map (point (aggregate_from false kind a) rs) xs)) ≡ wrap (points_total (map (point (aggregate_from false kind a) rs) xs))
total_of false t start now kind rs a xs = total_by (λ n. n) natural_of (λ n. n) (λ n h. refl) t start now kind rs a xs
total_of true t start now kind rs a xs = total_by signed_of (λ z. z) (cast_unsigned w64) (λ n h. of_z-to_z w64 n h) t start now kind rs a xs

-- what is not drained is not shown as differences
undiffered : (answers : ReaderAnswers) (d : Demand) (before ps : List Point) → is_drained d ≡ false → differences answers d before ps ≡ ps
undiffered answers d before ps e = ap (λ b. cond (b && is_delta answers d) (map (difference before) ps) ps) e

pub window_metric : (views : Views) (answers : ReaderAnswers) (r : ℕ) (before : List Call) (now : ℕ) (os : List Observed) (d : Demand) → ShowsWindow views answers r before os d (metric_at views answers r before now os d)
window_metric views answers r before now os d e =
    ap (λ ps. content_total (of_points ps)) (undiffered answers d (reported_of views answers r d before) (points_with views answers r d before os) e)
    ∙ subst Claim (sym e) (total_of d.identity.signed (exported_temporality answers d) (start_of views answers r d before) now d.identity.kind records d.aggregation sets)
  where
    w : Window
    w = window_of answers d (history views answers r d before ++ observed_events (feeds_by views answers before) d os)

    records : List (AttributeSet × Amount)
    records = records_of d.limit w

    sets : List AttributeSet
    sets = filter (is_hit records) (none_set ∷ []) ++ shown_places (kind_of answers d) d.limit w

    of_points : List Point → AggregatedMetrics
    of_points ps = aggregated_metrics d.identity.signed (exported_temporality answers d) d.identity.kind d.aggregation (start_of views answers r d before) now ps

    Claim : Bool → Type 0
    Claim drained =
        content_total (of_points (map (point (aggregate_from drained d.identity.kind d.aggregation) records) sets))
        ≡ wrap (points_total (map (point (aggregate_from drained d.identity.kind d.aggregation) records) sets))

pub totals_answered_law : AreAnsweredTotals
totals_answered_law = of_metrics ShowsWindow window_metric

all_metric : (views : Views) (answers : ReaderAnswers) (r : ℕ) (before : List Call) (now : ℕ) (os : List Observed) (d : Demand) → ShowsAll views answers r before os d (metric_at views answers r before now os d)
all_metric views answers r before now os d e f = window_metric views answers r before now os d e ∙ all_shown_law views answers r d before (observed_events (feeds_by views answers before) d os) e f

pub all_answered_law : IsAllAnswered
all_answered_law = of_metrics ShowsAll all_metric
