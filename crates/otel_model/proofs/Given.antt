-- What a reader was given under a heading is what the streams with that heading exported.
use Rattle.std.proofs.Common.{◌≡◌, ⊎_elim, ℕ, ◌+◌, ℤ, Bool, true, false, List, [], ◌∷◌, ◌++◌, length, map, refl, arith, sym, ◌∙◌, ap, subst, cond, append_assoc}
use Rattle.std.specs.Prelude.{◌==◌, ◌^◌, ◌&&◌, filter, nat_lt, not, sum_by}
use Rattle.std.specs.Int.{cast_unsigned, w64}
use Rattle.std.proofs.lemmas.Bool.{cases_Bool, true≢false, lt-ltb}
use Rattle.std.proofs.lemmas.List.{append-nil}
use Rattle.std.proofs.lemmas.List.Elements.{filter-append}
use Rattle.std.proofs.Math.Nat.{mod-mod}
use Rattle.otel_common.specs.Scopes.{scope_eq, scope_eq-Decides}
use Rattle.otel_common.specs.declared.resource.Resource.{Resource}
use Rattle.otel_common.specs.declared.scopes.InstrumentationScope.{InstrumentationScope}
use Rattle.otel_data.specs.declared.aggregated.AggregatedMetrics.{AggregatedMetrics}
use Rattle.otel_data.specs.declared.aggregated.MetricData.{MetricData}
use Rattle.otel_data.specs.declared.collections.Metric.{Metric}
use Rattle.otel_data.specs.declared.collections.ScopeMetrics.{ScopeMetrics}
use Rattle.otel_model_stream.specs.Folds.{wrap}
use Rattle.otel_model_stream.specs.Events.{Point}
use Rattle.otel_model_stream.specs.Totals.{points_total}
use Rattle.otel_model.specs.Answered.{data_total, content_total}
use Rattle.otel_model.specs.Calls.{InstrumentKind, Observed, Call, Meter, Build, Record, Bind, RecordBound, Unbind, Collect, Flush, Shutdown}
use Rattle.otel_model.specs.Collections.{natural_of, signed_of, data_by, exported_temporality, aggregated_metrics, points_in, number_of_points, has_points, ScopedMetric, in_scope, has_metrics, collection, differences}
use Rattle.otel_model.specs.Demands.{Aggregation, Demand, Views, ReaderAnswers, Temporality, Cumulative, Delta, is_drop, is_known}
use Rattle.otel_model.specs.History.{gather, made_calls, Built, build_in, builds_in, demands_after, demands_of, demands_by, new_demand, firsts, streams_of, is_demanded, concerns, history, window_points, points_with, start_of, reported_of, shown_by, shown_at, shown_points, meters_in, collection_of, made_by, collections_of}
use Rattle.otel_model.specs.Sent.{has_scope}
use Rattle.otel_model.specs.State.{Stream, ReaderPart}
use Rattle.otel_model.specs.Streams.{is_drained, is_delta}
use Rattle.otel_model.specs.Totals.{recorded_in}
use Rattle.otel_model.proofs.Answered.{metric_at, window_metric}
use Rattle.otel_model.proofs.Follow.{stream_in, part_of, points_run}
use Rattle.otel_model.proofs.Gather.{gather_append, cond_same, unknown_before, AreKnown, firsts_are_known}
use Rattle.otel_model.proofs.Runs.{part_is, streams_law, collections_law}
use Rattle.otel_model.proofs.Shown.{conserved_in}
use Rattle.otel_model.specs.Given.{Heading, heading_eq, are_signed, metric_heading, stream_heading, is_delta_data, are_deltas, given_by, given_under, total_given, demanded_under, total_recorded, streams_under, pending_in, total_pending, AllIsGivenOrPending, EachGivesOrHolds}
use Rattle.otel_model.specs.Lawful.{EachOf}
use Rattle.otel_model.proofs.Amounts.{each_weaker}
use Rattle.otel_model.proofs.Feeding.{each_filter}
use Rattle.otel_model.proofs.Meters.{AreOnce, counted_once, meters_once, streams_scoped}
use Rattle.otel_model.proofs.Plus.{plus_zero, zero_plus}
use Rattle.otel_model.proofs.Totals.{total, sum_is, total_append, total_map, total_filter, total_same, total_each, total_none, total_plus, total_swap, wrap_plus, total_wrapped, each_all}

-- ======== a metric without points gives nothing ========
none_added : {X : Type 0} (f : X → ℕ) (xs : List X) → nat_lt 0 (length xs) ≡ false → sum_by f xs ≡ 0
none_added f [] e = refl
none_added f (x ∷ xs) e = absurd (true≢false (sym (lt-ltb 0 (length (x ∷ xs)) (omega arith)) ∙ e))

none_in : {T : Type 0} (bits : T → ℕ) (x : MetricData T) → nat_lt 0 (points_in x) ≡ false → data_total bits x ≡ 0
none_in bits (MetricData.Gauge gauge) e = refl
none_in bits (MetricData.Sum sum) e = ap wrap (none_added (λ p. bits p.value) sum.data_points e)
none_in bits (MetricData.Histogram histogram) e = ap wrap (none_added (λ p. p.count) histogram.data_points e)

none_of : (x : AggregatedMetrics) → nat_lt 0 (number_of_points x) ≡ false → content_total x ≡ 0
none_of (AggregatedMetrics.U64 x) e = none_in _ x e
none_of (AggregatedMetrics.I64 x) e = none_in _ x e

given_none : (m : Metric) → has_points m ≡ false → given_by m ≡ 0
given_none m e = ap (λ n. cond (are_deltas m.content) n 0) (none_of m.content e) ∙ cond_same (are_deltas m.content) 0

-- ======== a collection ========
module _ (h : Heading) where
  -- what a metric of a scope counts
  abbrev counted : InstrumentationScope → Metric → ℕ
  counted scope m = cond (heading_eq (metric_heading scope m) h) (given_by m) 0

  abbrev counted_in : ScopeMetrics → ℕ
  counted_in s = total (counted s.scope) s.metrics

  -- a scope without metrics counts nothing
  if_metrics : (s : ScopeMetrics) → cond (has_metrics s) (counted_in s) 0 ≡ counted_in s
  if_metrics s = go s.metrics
    where
      go : (ms : List Metric) → cond (nat_lt 0 (length ms)) (total (counted s.scope) ms) 0 ≡ total (counted s.scope) ms
      go [] = refl
      go (m ∷ ms) = ap (λ b. cond b (total (counted s.scope) (m ∷ ms)) 0) (lt-ltb 0 (length (m ∷ ms)) (omega arith))

  -- nor does a metric without points
  if_points : (scope : InstrumentationScope) (m : Metric) (b : Bool) → has_points m ≡ b → cond b (counted scope m) 0 ≡ counted scope m
  if_points scope m true e = refl
  if_points scope m false e = sym (ap (λ n. cond (heading_eq (metric_heading scope m) h) n 0) (given_none m e) ∙ cond_same (heading_eq (metric_heading scope m) h) 0)

  at_scope : (scope : InstrumentationScope) (x : ScopedMetric) → cond (scope_eq x.0 scope && has_points x.1) (counted scope x.1) 0 ≡ cond (scope_eq x.0 scope) (counted x.0 x.1) 0
  at_scope scope x = ⊎_elim
      (λ t. ap (λ b. cond (b && has_points x.1) (counted scope x.1) 0) t
      ∙ (if_points scope x.1 (has_points x.1) refl
      ∙ (ap (λ y. counted y x.1) (sym ((scope_eq-Decides x.0 scope).0 t)) ∙ sym (ap (λ b. cond b (counted x.0 x.1) 0) t))))
      (λ t. ap (λ b. cond (b && has_points x.1) (counted scope x.1) 0) t ∙ sym (ap (λ b. cond b (counted x.0 x.1) 0) t))
      (cases_Bool (scope_eq x.0 scope))

  each_once : (meters : List InstrumentationScope) (ms : List ScopedMetric) → AreOnce meters → EachOf (λ (x : ScopedMetric). has_scope x.0 meters ≡ true) ms
      → EachOf (λ (x : ScopedMetric). total (λ scope. cond (scope_eq x.0 scope) (counted x.0 x.1) 0) meters ≡ counted x.0 x.1) ms
  each_once meters [] a b = tt
  each_once meters (x ∷ xs) a b = (counted_once x.0 (counted x.0 x.1) meters a b.0, each_once meters xs a b.1)

  scope_counts : (ms : List ScopedMetric) (scope : InstrumentationScope) → counted_in (in_scope ms scope) ≡ total (λ (x : ScopedMetric). cond (scope_eq x.0 scope) (counted x.0 x.1) 0) ms
  scope_counts ms scope =
      total_map (counted scope) (λ (x : ScopedMetric). x.1) (filter (λ (x : ScopedMetric). scope_eq x.0 scope && has_points x.1) ms)
      ∙ (total_filter (λ (x : ScopedMetric). counted scope x.1) (λ (x : ScopedMetric). scope_eq x.0 scope && has_points x.1) ms
      ∙ total_same _ _ ms (at_scope scope))

  -- a collection gives what its metrics give
  pub in_collection : (resource : Resource) (meters : List InstrumentationScope) (ms : List ScopedMetric) → AreOnce meters → EachOf (λ (x : ScopedMetric). has_scope x.0 meters ≡ true) ms
      → given_under h (collection resource meters ms) ≡ total (λ (x : ScopedMetric). counted x.0 x.1) ms
  in_collection resource meters ms a b =
      sum_is _ (filter has_metrics (map (in_scope ms) meters))
      ∙ (total_same _ counted_in (filter has_metrics (map (in_scope ms) meters)) (λ s. sum_is (counted s.scope) s.metrics)
      ∙ (total_filter counted_in has_metrics (map (in_scope ms) meters)
      ∙ (total_same _ counted_in (map (in_scope ms) meters) if_metrics
      ∙ (total_map counted_in (in_scope ms) meters
      ∙ (total_same _ _ meters (scope_counts ms)
      ∙ (total_swap (λ scope (x : ScopedMetric). cond (scope_eq x.0 scope) (counted x.0 x.1) 0) meters ms
      ∙ total_each _ _ ms (each_once meters ms a b)))))))

-- ======== the metric of a stream ========
module _ {T : Type 0} (of_bits : ℕ → T) (of_whole : ℤ → T) (bits : T → ℕ) (kind : InstrumentKind) (start now : ℕ) (ps : List Point) where
  data_gives : (b : Bool) (a : Aggregation) → cond (is_delta_data (data_by of_bits of_whole (cond b Delta Cumulative) kind a start now ps)) (data_total bits (data_by of_bits of_whole (cond b Delta Cumulative) kind a start now ps)) 0
      ≡ cond b (data_total bits (data_by of_bits of_whole (cond b Delta Cumulative) kind a start now ps)) 0
  data_gives true Aggregation.Drop = refl
  data_gives true Aggregation.Default = refl
  data_gives true Aggregation.Sum = refl
  data_gives true Aggregation.LastValue = refl
  data_gives true (Aggregation.ExplicitBucketHistogram bounds k) = refl
  data_gives false Aggregation.Drop = refl
  data_gives false Aggregation.Default = refl
  data_gives false Aggregation.Sum = refl
  data_gives false Aggregation.LastValue = refl
  data_gives false (Aggregation.ExplicitBucketHistogram bounds k) = refl

content_gives : (signed b : Bool) (kind : InstrumentKind) (a : Aggregation) (start now : ℕ) (ps : List Point) → cond (are_deltas (aggregated_metrics signed (cond b Delta Cumulative) kind a start now ps)) (content_total (aggregated_metrics signed (cond b Delta Cumulative) kind a start now ps)) 0
    ≡ cond b (content_total (aggregated_metrics signed (cond b Delta Cumulative) kind a start now ps)) 0
content_gives false b kind a start now ps = data_gives (λ n. n) natural_of (λ n. n) kind start now ps b a
content_gives true b kind a start now ps = data_gives signed_of (λ z. z) (cast_unsigned w64) kind start now ps b a

content_signed : (signed : Bool) (t : Temporality) (kind : InstrumentKind) (a : Aggregation) (start now : ℕ) (ps : List Point) → are_signed (aggregated_metrics signed t kind a start now ps) ≡ signed
content_signed false t kind a start now ps = refl
content_signed true t kind a start now ps = refl

wrapped_if : (b : Bool) (n : ℕ) → wrap (cond b (wrap n) 0) ≡ wrap (cond b n 0)
wrapped_if true n = mod-mod n (2 ^ 64)
wrapped_if false n = refl

-- ======== one reader ========
abbrev NotDrained : Demand → Type 0
NotDrained d = is_drained d ≡ false

module _ (views : Views) (resource : Resource) (answers : ReaderAnswers) (r : ℕ) (h : Heading) where
  abbrev is_headed : Demand → Bool
  is_headed d = heading_eq (stream_heading d) h

  abbrev headed : List Demand → List Demand
  headed ds = filter (λ (d : Demand). heading_eq (stream_heading d) h) ds

  abbrev streams_in : List Call → List Demand
  streams_in past = streams_of views answers (builds_in past)

  -- what a collection shows of a stream, if it gives it for good
  abbrev shows : List Call → List Observed → Demand → ℕ
  shows before os d = cond (is_delta answers d) (points_total (points_with views answers r d before os)) 0

  metric_gives : (before : List Call) (now : ℕ) (os : List Observed) (d : Demand) → NotDrained d → given_by (metric_at views answers r before now os d) ≡ cond (is_delta answers d) (wrap (points_total (points_with views answers r d before os))) 0
  metric_gives before now os d u =
      content_gives d.identity.signed (is_delta answers d) d.identity.kind d.aggregation _ now _
      ∙ ap (λ n. cond (is_delta answers d) n 0) (window_metric views answers r before now os d u)

  metrics_give : (before : List Call) (now : ℕ) (os : List Observed) (ds : List Demand) → EachOf NotDrained ds
      → EachOf (λ (d : Demand). wrap (given_by (metric_at views answers r before now os d)) ≡ wrap (shows before os d)) ds
  metrics_give before now os [] a = tt
  metrics_give before now os (d ∷ ds) a = (
    ap wrap (metric_gives before now os d a.0) ∙ wrapped_if (is_delta answers d) (points_total (points_with views answers r d before os)),
    metrics_give before now os ds a.1,
  )

  metric_signed : (before : List Call) (now : ℕ) (os : List Observed) (d : Demand) → are_signed (metric_at views answers r before now os d).content ≡ d.identity.signed
  metric_signed before now os d =
      content_signed d.identity.signed (exported_temporality answers d) d.identity.kind d.aggregation (start_of views answers r d before) now
      (differences answers d (reported_of views answers r d before) (points_with views answers r d before os))

  same_heading : (before : List Call) (now : ℕ) (os : List Observed) (d : Demand) → counted h d.identity.scope (metric_at views answers r before now os d) ≡ cond (is_headed d) (given_by (metric_at views answers r before now os d)) 0
  same_heading before now os d = λ i. cond (heading_eq (record (stream_heading d) { signed = metric_signed before now os d i }) h) (given_by (metric_at views answers r before now os d)) 0

  abbrev scoped_at : List Call → ℕ → List Observed → Demand → ScopedMetric
  scoped_at before now os d = (d.identity.scope, metric_at views answers r before now os d)

  each_scoped : (before : List Call) (now : ℕ) (os : List Observed) (meters : List InstrumentationScope) (ds : List Demand) → EachOf (λ (d : Demand). has_scope d.identity.scope meters ≡ true) ds
      → EachOf (λ (x : ScopedMetric). has_scope x.0 meters ≡ true) (map (scoped_at before now os) ds)
  each_scoped before now os meters [] a = tt
  each_scoped before now os meters (d ∷ ds) a = (a.0, each_scoped before now os meters ds a.1)

  -- a collection gives what the streams show that the reader has by then
  collected : (before : List Call) (now : ℕ) (os : List Observed) → EachOf NotDrained (headed (streams_in before))
      → wrap (given_under h (collection_of views resource answers r before now os)) ≡ wrap (total (shows before os) (headed (streams_in before)))
  collected before now os a =
      let ds : List Demand = streams_in before in
      let gives : Demand → ℕ = λ d. given_by (metric_at views answers r before now os d) in
      ap wrap
      (in_collection h resource (meters_in before) (map (scoped_at before now os) ds) (meters_once before) (each_scoped before now os (meters_in before) ds (streams_scoped views answers before))
      ∙ (total_map (λ (x : ScopedMetric). counted h x.0 x.1) (scoped_at before now os) ds
      ∙ (total_same _ _ ds (same_heading before now os) ∙ sym (total_filter gives is_headed ds))))
      ∙ total_wrapped gives (shows before os) (headed ds) (metrics_give before now os (headed ds) a)

  -- ======== streams that come later ========
  grows : (ds : List Demand) (is : List Built) → (more : List Demand) × (demands_of views answers ds is ≡ ds ++ more)
  grows ds [] = ([], sym (append-nil ds))
  grows ds (i ∷ is) =
      let q = grows (ds ++ demands_after views answers ds i) is in
      (demands_after views answers ds i ++ q.0, q.1 ∙ append_assoc ds (demands_after views answers ds i) q.0)

  built_more : (is js : List Built) (ds : List Demand) → demands_of views answers ds (is ++ js) ≡ demands_of views answers (demands_of views answers ds is) js
  built_more [] js ds = refl
  built_more (i ∷ is) js ds = built_more is js (ds ++ demands_after views answers ds i)

  -- what is first demanded later is not known before
  abbrev IsNew : List Demand → Demand → Type 0
  IsNew ds d = is_known ds d.identity ≡ false

  all_new : (ds between more : List Demand) → EachOf (IsNew ds) (gather new_demand (ds ++ between) more)
  all_new ds between [] = tt
  all_new ds between (d ∷ more) =
      let P : List Demand → Type 0 = λ l. EachOf (IsNew ds) (gather new_demand l more) in
      go (is_known (ds ++ between) d.identity) refl (subst P (sym (append_assoc ds between (d ∷ []))) (all_new ds (between ++ d ∷ []) more))
    where
      go : (b : Bool) → is_known (ds ++ between) d.identity ≡ b → EachOf (IsNew ds) (gather new_demand ((ds ++ between) ++ d ∷ []) more)
          → EachOf (IsNew ds) (cond b [] (d ∷ []) ++ gather new_demand ((ds ++ between) ++ d ∷ []) more)
      go true e ih = ih
      go false e ih = (unknown_before ds between d.identity e, ih)

  abbrev keeps : Demand → Bool
  keeps d = not (is_drop d.aggregation)

  streams_more : (before calls : List Call) → (more : List Demand) × (streams_in (before ++ calls) ≡ streams_in before ++ more) × EachOf (IsNew (demands_by views answers before)) more
  streams_more before calls =
      let known : List Demand = demands_by views answers before in
      let later : List Built = gather build_in before calls in
      let q = grows known later in
      let P : List Demand → Type 0 = λ l. EachOf (IsNew known) (filter keeps (gather new_demand l q.0)) in (
        filter keeps (gather new_demand known q.0),
        ap (λ ds. filter keeps (firsts ds)) (ap (demands_of views answers []) (gather_append build_in [] before calls) ∙ (built_more (builds_in before) later [] ∙ q.1))
            ∙ (ap (filter keeps) (gather_append new_demand [] known q.0) ∙ filter-append keeps (firsts known) (gather new_demand known q.0)),
        subst P (append-nil known) (each_filter (IsNew known) keeps (gather new_demand (known ++ []) q.0) (all_new known [] q.0)),
      )

  -- ======== call by call ========
  -- what a call shows of a stream, if it gives it for good
  abbrev adds : List Call → Call → Demand → ℕ
  adds before c d = cond (is_delta answers d) (total points_total (shown_at views answers r d before c)) 0

  -- most calls show nothing
  quiet : (before : List Call) (d : Demand) → cond (is_delta answers d) (total points_total (cond (is_demanded views answers d before) [] [])) 0 ≡ 0
  quiet before d = ap (λ l. cond (is_delta answers d) (total points_total l) 0) (cond_same (is_demanded views answers d before) []) ∙ cond_same (is_delta answers d) 0

  idle : (f : Demand → ℕ) → ((d : Demand) → f d ≡ 0) → (ds : List Demand) → wrap 0 ≡ wrap (total f ds)
  idle f e ds = ap wrap (sym (total_none f ds (each_all (λ d. f d ≡ 0) e ds)))

  -- nor does any call show anything of a stream that comes later
  later_none : (before : List Call) (c : Call) (more : List Demand) → EachOf (IsNew (demands_by views answers before)) more → total (adds before c) (headed more) ≡ 0
  later_none before c more a = total_none (adds before c) (headed more) (each_weaker (IsNew (demands_by views answers before)) _ (headed more) new_none (each_filter (IsNew (demands_by views answers before)) is_headed more a))
    where
      new_none : (d : Demand) → IsNew (demands_by views answers before) d → adds before c d ≡ 0
      new_none d u = (λ i. cond (is_delta answers d) (total points_total (cond (u i) (cond (concerns r c) (shown_by views answers r d before c) []) [])) 0) ∙ cond_same (is_delta answers d) 0

  -- a collection shows the streams that it has
  known_shown : (before : List Call) (q now : ℕ) (os : List Observed) → (q == r) ≡ true → (ds : List Demand) → AreKnown (demands_by views answers before) ds
      → EachOf (λ (d : Demand). adds before (Collect q now os) d ≡ shows before os d) ds
  known_shown before q now os m [] a = tt
  known_shown before q now os m (d ∷ ds) a = (
    (λ i. cond (is_delta answers d) (total points_total (cond (a.0 i) (cond (m i) (points_with views answers r d before os ∷ []) []) [])) 0)
        ∙ ap (λ n. cond (is_delta answers d) n 0) (plus_zero (points_total (points_with views answers r d before os))),
    known_shown before q now os m ds a.1,
  )

  abbrev gives_at : List Call → Call → ℕ
  gives_at before c = total (given_under h) (made_by views resource answers r before c)

  collected_step : (before : List Call) (q now : ℕ) (os : List Observed) (more : List Demand) → EachOf (IsNew (demands_by views answers before)) more → EachOf NotDrained (headed (streams_in before))
      → wrap (gives_at before (Collect q now os)) ≡ wrap (total (adds before (Collect q now os)) (headed (streams_in before ++ more)))
  collected_step before q now os more a n = ⊎_elim mine others (cases_Bool (q == r))
    where
      mine : (q == r) ≡ true → wrap (gives_at before (Collect q now os)) ≡ wrap (total (adds before (Collect q now os)) (headed (streams_in before ++ more)))
      mine m =
          ap (λ b. wrap (total (given_under h) (cond b (collection_of views resource answers r before now os ∷ []) []))) m
          ∙ (ap wrap (plus_zero (given_under h (collection_of views resource answers r before now os)))
          ∙ (collected before now os n
          ∙ ap wrap (sym (ap (total (adds before (Collect q now os))) (filter-append is_headed (streams_in before) more)
          ∙ (total_append (adds before (Collect q now os)) (headed (streams_in before)) (headed more)
          ∙ ((λ i. total_each (adds before (Collect q now os)) (shows before os) (headed (streams_in before))
          (each_filter (λ (d : Demand). adds before (Collect q now os) d ≡ shows before os d) is_headed (streams_in before) (known_shown before q now os m (streams_in before) (firsts_are_known [] (demands_by views answers before)))) i
          + later_none before (Collect q now os) more a i)
          ∙ plus_zero (total (shows before os) (headed (streams_in before)))))))))

      others : (q == r) ≡ false → wrap (gives_at before (Collect q now os)) ≡ wrap (total (adds before (Collect q now os)) (headed (streams_in before ++ more)))
      others m =
          ap (λ b. wrap (total (given_under h) (cond b (collection_of views resource answers r before now os ∷ []) []))) m
          ∙ idle (adds before (Collect q now os))
          (λ d. (λ i. cond (is_delta answers d) (total points_total (cond (is_demanded views answers d before) (cond (m i) (shown_by views answers r d before (Collect q now os)) []) [])) 0) ∙ quiet before d)
          (headed (streams_in before ++ more))

  step : (before : List Call) (c : Call) (more : List Demand) → EachOf (IsNew (demands_by views answers before)) more → EachOf NotDrained (headed (streams_in before))
      → wrap (gives_at before c) ≡ wrap (total (adds before c) (headed (streams_in before ++ more)))
  step before (Meter scope) more a n = idle (adds before (Meter scope)) (quiet before) (headed (streams_in before ++ more))
  step before (Build meter about now) more a n = idle (adds before (Build meter about now)) (quiet before) (headed (streams_in before ++ more))
  step before (Record k v l) more a n = idle (adds before (Record k v l)) (quiet before) (headed (streams_in before ++ more))
  step before (Bind k l) more a n = idle (adds before (Bind k l)) (quiet before) (headed (streams_in before ++ more))
  step before (RecordBound k v) more a n = idle (adds before (RecordBound k v)) (quiet before) (headed (streams_in before ++ more))
  step before (Unbind k) more a n = idle (adds before (Unbind k)) (quiet before) (headed (streams_in before ++ more))
  step before (Collect q now os) more a n = collected_step before q now os more a n
  step before Flush more a n = idle (adds before Flush) (quiet before) (headed (streams_in before ++ more))
  step before Shutdown more a n = idle (adds before Shutdown) (quiet before) (headed (streams_in before ++ more))

  -- ======== all calls ========
  -- what all calls show of a stream, if they give it for good
  abbrev exports : List Call → List Call → Demand → ℕ
  exports before calls d = cond (is_delta answers d) (total points_total (gather (shown_at views answers r d) before calls)) 0

  split_if : (b : Bool) (xs ys : List (List Point)) → cond b (total points_total (xs ++ ys)) 0 ≡ cond b (total points_total xs) 0 + cond b (total points_total ys) 0
  split_if true xs ys = total_append points_total xs ys
  split_if false xs ys = sym (zero_plus 0)

  front : (xs ys : List Demand) → EachOf NotDrained (xs ++ ys) → EachOf NotDrained xs
  front [] ys a = tt
  front (x ∷ xs) ys a = (a.0, front xs ys a.1)

  given_from : (before calls : List Call) (ds : List Demand) → streams_in (before ++ calls) ≡ ds → EachOf NotDrained (headed ds)
      → wrap (total (given_under h) (gather (made_by views resource answers r) before calls)) ≡ wrap (total (exports before calls) (headed ds))
  given_from before [] ds e n = idle (exports before []) (λ d. cond_same (is_delta answers d) 0) (headed ds)
  given_from before (c ∷ cs) ds e n =
      let q = streams_more before (c ∷ cs) in
      let same : ds ≡ streams_in before ++ q.0 = sym e ∙ q.1 in
      let P : List Demand → Type 0 = λ l. EachOf NotDrained (headed l) in
      let Q : List Demand → Type 0 = λ l. EachOf NotDrained l in
      let S : List Demand → Type 0 = λ l. wrap (gives_at before c) ≡ wrap (total (adds before c) (headed l)) in
      let m = front (headed (streams_in before)) (headed q.0) (subst Q (filter-append is_headed (streams_in before) q.0) (subst P same n)) in
      ap wrap (total_append (given_under h) (made_by views resource answers r before c) (gather (made_by views resource answers r) (before ++ c ∷ []) cs))
      ∙ (wrap_plus _ _ _ _ (subst S (sym same) (step before c q.0 q.2 m)) (given_from (before ++ c ∷ []) cs ds (ap streams_in (append_assoc before (c ∷ []) cs) ∙ e) n)
      ∙ ap wrap (sym (total_same (exports before (c ∷ cs)) (λ d. adds before c d + exports (before ++ c ∷ []) cs d) (headed ds)
      (λ d. split_if (is_delta answers d) (shown_at views answers r d before c) (gather (shown_at views answers r d) (before ++ c ∷ []) cs))
      ∙ total_plus (adds before c) (exports (before ++ c ∷ []) cs) (headed ds))))

-- ======== the streams of a run ========
-- the streams with a heading are those of the demands with that heading
headed_map : {X Y : Type 0} (p : Y → Bool) (f : X → Y) (xs : List X) → filter p (map f xs) ≡ map f (filter (λ x. p (f x)) xs)
headed_map p f [] = refl
headed_map p f (x ∷ xs) = go (p (f x)) (headed_map p f xs)
  where
    go : (b : Bool) → filter p (map f xs) ≡ map f (filter (λ x. p (f x)) xs) → cond b (f x ∷ filter p (map f xs)) (filter p (map f xs)) ≡ map f (cond b (x ∷ filter (λ x. p (f x)) xs) (filter (λ x. p (f x)) xs))
    go true ih = ap (λ l. f x ∷ l) ih
    go false ih = ih

module _ (views : Views) (resource : Resource) (answers : ReaderAnswers) (r : ℕ) (h : Heading) (past : List Call) where
  abbrev from_demand : Demand → Stream
  from_demand d = stream_in views answers r past d

  -- the demands with this heading
  abbrev hs : List Demand
  hs = demanded_under views answers past h

  abbrev exported : Demand → ℕ
  exported d = exports views resource answers r h [] past d

  abbrev pending : Demand → ℕ
  pending d = points_total (window_points answers d (history views answers r d past))

  conserved : (ds : List Demand) → EachOf NotDrained ds → EachOf (λ (d : Demand). wrap (recorded_in views answers r d past) ≡ wrap (exported d + pending d)) ds
  conserved [] a = tt
  conserved (d ∷ ds) a = (
    sym (conserved_in views answers r d past a.0) ∙ ap (λ n. wrap (cond (is_delta answers d) n 0 + pending d)) (sum_is points_total (shown_points views answers r d past)),
    conserved ds a.1,
  )

  pending_is : total_pending (part_of views answers r past) h ≡ total pending hs
  pending_is =
      sum_is (pending_in answers) (streams_under h (part_of views answers r past))
      ∙ (ap (total (pending_in answers)) (headed_map (λ (s : Stream). heading_eq (stream_heading s.demand) h) from_demand (streams_of views answers (builds_in past)))
      ∙ (total_map (pending_in answers) from_demand hs
      ∙ total_same _ pending hs (λ d. ap points_total (points_run answers d (history views answers r d past)))))

  given_is : EachOf NotDrained hs → wrap (sum_by (given_under h) (collections_of views resource answers r past)) ≡ wrap (total exported hs)
  given_is a =
      ap wrap (sum_is (given_under h) (collections_of views resource answers r past))
      ∙ given_from views resource answers r h [] past (streams_of views answers (builds_in past)) refl a

  -- what is read off these calls
  recorded_is : EachOf NotDrained hs → wrap (total_recorded views answers r past h) ≡ wrap (sum_by (given_under h) (collections_of views resource answers r past) + total_pending (part_of views answers r past) h)
  recorded_is a =
      ap wrap (sum_is (λ (d : Demand). recorded_in views answers r d past) hs)
      ∙ (total_wrapped (λ d. recorded_in views answers r d past) (λ d. exported d + pending d) hs (conserved hs a)
      ∙ (ap wrap (total_plus exported pending hs)
      ∙ wrap_plus (total exported hs) _ (total pending hs) _ (sym (given_is a)) (ap wrap (sym pending_is))))

-- ======== the laws ========
pub given_law : AllIsGivenOrPending
given_law views resource identity readers calls replies new run r answers part at is h a =
    let past : List Call = made_calls calls replies in
    let P : ReaderPart → Type 0 = λ p. wrap (total_recorded views answers r past h) ≡ wrap (total_given r calls replies h + total_pending p h) in
    subst P (sym (part_is views resource identity readers calls replies new run r answers part at is))
    (recorded_is views resource answers r h past a
    ∙ ap (λ cs. wrap (sum_by (given_under h) cs + total_pending (part_of views answers r past) h)) (sym (collections_law views resource identity readers calls replies new run r answers at)))

sum_of_one : {X : Type 0} (f : X → ℕ) (x : X) → sum_by f (x ∷ []) ≡ f x
sum_of_one f x = sum_is f (x ∷ []) ∙ plus_zero (f x)

pub given_or_held_law : EachGivesOrHolds
given_or_held_law views resource identity readers calls replies new run r answers part at is j s e u alone =
    let past : List Call = made_calls calls replies in
    let h : Heading = stream_heading s.demand in
    let recorded : Demand → ℕ = λ d. recorded_in views answers r d past in
    let demanded : demanded_under views answers past h ≡ s.demand ∷ [] =
    ap (filter (λ (d : Demand). heading_eq (stream_heading d) h)) (sym (streams_law views resource identity readers calls replies new run r answers part at is))
    ∙ (headed_map (λ (d : Demand). heading_eq (stream_heading d) h) (λ (s : Stream). s.demand) part.streams ∙ ap (map (λ (s : Stream). s.demand)) alone) in
    let P : List Demand → Type 0 = λ ds. EachOf NotDrained ds in
    let answered : part.answers ≡ answers = ap (λ (p : ReaderPart). p.answers) (part_is views resource identity readers calls replies new run r answers part at is) in
    sym (ap (λ ds. wrap (sum_by recorded ds)) demanded ∙ ap wrap (sum_of_one recorded s.demand))
    ∙ (given_law views resource identity readers calls replies new run r answers part at is h (subst P (sym demanded) (u, tt))
    ∙ (λ i. wrap (total_given r calls replies h + sum_by (pending_in (answered i)) (alone i)))
    ∙ ap (λ n. wrap (total_given r calls replies h + n)) (sum_of_one (pending_in answers) s))
