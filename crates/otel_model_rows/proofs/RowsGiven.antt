-- Worked rows on headings, on what a reader was given under one, and on what that leaves pending.
use Rattle.std.specs.Prelude.{◌≡◌, ℕ, nat_eq, ◌+◌, ℤ, false, true, List, [], ◌∷◌, map, Some, slice_get}
use Rattle.std.proofs.Common.{refl, ap, true≢false}
use Rattle.otel_common.specs.Canonical.{canon}
use Rattle.otel_common.specs.Temporalities.{resets}
use Rattle.otel_data.specs.declared.aggregated.AggregatedMetrics.TheVariants.{U64, I64}
use Rattle.otel_data.specs.declared.histograms.Histogram.{Histogram}
use Rattle.otel_data.specs.declared.aggregated.MetricData.TheVariants as data_of
use Rattle.otel_data.specs.declared.collections.Metric.{Metric}
use Rattle.otel_data.specs.declared.collections.ResourceMetrics.{ResourceMetrics}
use Rattle.otel_model_stream.specs.Folds.{Total, wrap}
use Rattle.otel_model.specs.Calls.{ObservableCounter, Call, Collect}
use Rattle.otel_model.specs.Demands.{ExplicitBucketHistogram, Cumulative, Delta, LowMemory, Views}
use Rattle.otel_model.specs.Given.{Heading, heading_eq, metric_heading, stream_heading, are_signed, is_delta_data, are_deltas, given_by, given_under, total_given, demanded_under, total_recorded, streams_under, pending_in, total_pending, IsGivenOrPending, AllIsGivenOrPending, GivesOrHolds, EachGivesOrHolds}
use Rattle.otel_model.specs.History.{made_calls}
use Rattle.otel_model.specs.Laws.{IsRun}
use Rattle.otel_model.specs.State.{Stream, ReaderPart, State}
use Rattle.otel_model.specs.Steps.{replies_of, state_of}
use Rattle.otel_model_rows.specs.Rows.{a, b, m, scope_named, about, x1, if_named, aggregating, cumulative, delta, on, observe}
use Rattle.otel_model_rows.specs.RunRows.{c, unit_1, product, views, readers, start, calls, replies, point, metric, demand_a, demand_b, heading_a, heading_b, entry, machine_of, stream_a, stream_b, stream_c, total_a, total_b, total_c, part_of, totals_part, deltas_part, state, state_with}

-- ======== the run ========
pub replies_of_run : replies_of views start calls ≡ replies
unfolding canon
replies_of_run = refl

pub state_of_run : state_of views start calls ≡ state
unfolding canon
state_of_run = refl

-- ======== headings ========
pub same_headings : map (λ h. heading_eq h heading_a)
    (heading_a
    ∷ record heading_a { scope = scope_named b }
    ∷ record heading_a { name = b }
    ∷ record heading_a { description = a }
    ∷ record heading_a { unit = [] }
    ∷ record heading_a { signed = true }
    ∷ [])
    ≡ true ∷ false ∷ false ∷ false ∷ false ∷ false ∷ []
same_headings = refl

abbrev signed_metric : Metric
signed_metric = record (metric a b unit_1 100 Delta []) { content = I64 (data_of.Gauge (record { data_points = []; start_time = 100; time = 200 })) }

pub number_types : map (λ (x : Metric). are_signed x.content) (metric a b unit_1 100 Delta [] ∷ signed_metric ∷ []) ≡ false ∷ true ∷ []
number_types = refl

pub headings_of_metrics : (metric_heading m (metric a b unit_1 100 Delta []) ≡ heading_a)
    × (metric_heading (scope_named b) signed_metric ≡ record heading_a { scope = scope_named b; signed = true })
headings_of_metrics = (refl, refl)

-- the name is as it was spelled
pub headings_of_streams : (stream_heading demand_a ≡ heading_a)
    × (stream_heading (record demand_a { identity = record demand_a.identity { scope = scope_named b; signed = true }; spelling = 65 ∷ [] }) ≡ record heading_a { scope = scope_named b; name = 65 ∷ []; signed = true })
headings_of_streams = (refl, refl)

-- ======== given ========
abbrev gauge : Metric
gauge = record (metric a b unit_1 100 Delta []) { content = U64 (data_of.Gauge (record { data_points = record { attributes = x1; exemplars = []; value = 3 } ∷ []; start_time = 100; time = 200 })) }

-- of sums and of a gauge, and of any histogram
pub deltas : map (λ (x : Metric). are_deltas x.content) (metric a b unit_1 100 Delta [] ∷ metric a b unit_1 100 Cumulative [] ∷ metric a b unit_1 100 LowMemory [] ∷ gauge ∷ signed_metric ∷ [])
    ≡ true ∷ false ∷ false ∷ false ∷ false ∷ []
deltas = refl

pub deltas_of_either_type : (x : Histogram ℕ) (y : Histogram ℤ)
    → (are_deltas (U64 (data_of.Histogram x)) ≡ resets x.temporality) × (are_deltas (I64 (data_of.Histogram y)) ≡ resets y.temporality) × (is_delta_data (data_of.Histogram x) ≡ resets x.temporality)
deltas_of_either_type x y = (refl, refl, refl)

pub given_for_good : map given_by (metric a b unit_1 100 Delta (point x1 3 ∷ point [] 4 ∷ []) ∷ metric a b unit_1 100 Cumulative (point x1 3 ∷ []) ∷ gauge ∷ []) ≡ 7 ∷ 0 ∷ 0 ∷ []
given_for_good = refl

-- twice under the heading, once more in another scope, and once cumulative
abbrev shown : ResourceMetrics
shown = record {
  resource = product;
  scope_metrics = record { scope = scope_named b; metrics = metric a b unit_1 100 Delta (point x1 16 ∷ []) ∷ [] }
      ∷ record {
        scope = m;
        metrics = metric a b unit_1 100 Delta (point x1 1 ∷ []) ∷ metric b [] unit_1 100 Delta (point x1 8 ∷ []) ∷ metric a b unit_1 100 Delta (point x1 2 ∷ []) ∷ metric a b unit_1 100 Cumulative (point x1 4 ∷ []) ∷ [];
      }
      ∷ [];
}

pub given_under_headings : map (λ h. given_under h shown) (heading_a ∷ heading_b ∷ record heading_a { scope = scope_named b } ∷ record heading_a { unit = [] } ∷ []) ≡ 3 ∷ 8 ∷ 16 ∷ 0 ∷ []
given_under_headings = refl

-- what one reader was given, the other was not
pub given_to_readers : (total_given 1 calls replies heading_a ≡ 3) × (total_given 1 calls replies heading_b ≡ 2) × (total_given 0 calls replies heading_a ≡ 0)
given_to_readers = (refl, refl, refl)

-- ======== recorded, pending ========
pub demanded : (demanded_under views delta (made_calls calls replies) heading_a ≡ demand_a ∷ [])
    × (demanded_under views delta (made_calls calls replies) heading_b ≡ demand_b ∷ [])
    × (demanded_under views delta (made_calls calls replies) (record heading_a { unit = [] }) ≡ [])
demanded = (refl, refl, refl)

pub recorded : (total_recorded views delta 1 (made_calls calls replies) heading_a ≡ 7) × (total_recorded views delta 1 (made_calls calls replies) heading_b ≡ 8)
unfolding canon
recorded = (refl, refl)

-- what is observed for one reader is not recorded for the other
abbrev counts : Views
counts = if_named a (aggregating (ExplicitBucketHistogram [] true)) ∷ []

abbrev observing : List Call
observing = on (about ObservableCounter a) (Collect 0 200 (observe 0 1 [] ∷ []) ∷ Collect 1 300 (observe 0 2 [] ∷ observe 0 3 [] ∷ []) ∷ [])

abbrev plain_heading : Heading
plain_heading = record heading_a { description = []; unit = [] }

pub recorded_of_readers : (total_recorded counts delta 0 observing plain_heading ≡ 1) × (total_recorded counts delta 1 observing plain_heading ≡ 2)
recorded_of_readers = (refl, refl)

pub streams_there : (streams_under heading_a deltas_part ≡ stream_a ∷ []) × (streams_under (record heading_a { name = c }) deltas_part ≡ [])
    × (streams_under heading_b (part_of delta stream_b stream_a stream_b) ≡ stream_b ∷ stream_b ∷ [])
streams_there = (refl, refl, refl)

-- a stream of deltas does not show what was not updated
abbrev quiet_a : Stream
quiet_a = record stream_a { machine = machine_of (Total 9) false (entry x1 4 1 ∷ record (entry x1 5 0) { updated = false } ∷ []) [] }

pub held : (pending_in delta stream_a ≡ 4) × (pending_in delta quiet_a ≡ 4) × (pending_in cumulative quiet_a ≡ 9) × (pending_in cumulative total_b ≡ 8) × (pending_in delta stream_c ≡ 0)
held = (refl, refl, refl, refl, refl)

pub pending : (total_pending deltas_part heading_a ≡ 4) × (total_pending deltas_part heading_b ≡ 6) × (total_pending totals_part heading_b ≡ 8) × (total_pending (part_of delta stream_b stream_a stream_b) heading_b ≡ 12)
pending = (refl, refl, refl, refl)

-- ======== given or pending ========
-- of each reader after the run
pub run_gives : IsGivenOrPending views product calls replies state 1 delta deltas_part → wrap 7 ≡ wrap (3 + 4)
unfolding canon
run_gives h = h heading_a (refl, tt)

-- one more is pending than was recorded and not given
abbrev more_a : Stream
more_a = record stream_a { machine = machine_of (Total 0) false (entry x1 5 1 ∷ []) ((0, x1) ∷ []) }

pub more_pending : IsGivenOrPending views product calls replies (state_with (part_of delta more_a stream_b stream_c)) 1 delta (part_of delta more_a stream_b stream_c) → ⊥
unfolding canon
more_pending h = true≢false (ap (λ k. nat_eq k 7) (h heading_a (refl, tt)))

-- nothing is pending any more, where 3 of 7 were given, and where nothing was
pub lost_pending : IsGivenOrPending views product calls replies (state_with (part_of delta stream_c stream_b stream_c)) 1 delta (part_of delta stream_c stream_b stream_c) → ⊥
unfolding canon
lost_pending h = true≢false (ap (λ k. nat_eq k 7) (h heading_a (refl, tt)))

pub lost_total : IsGivenOrPending views product calls replies state 0 cumulative (part_of cumulative total_a stream_c total_c) → ⊥
unfolding canon
lost_total h = true≢false (ap (λ k. nat_eq k 8) (h heading_b (refl, tt)))

-- nothing was recorded under a heading without a unit
pub invented_pending : IsGivenOrPending views product calls replies state 1 delta (part_of delta stream_a (record stream_b { demand = record demand_b { identity = record demand_b.identity { unit = [] } } }) stream_c) → ⊥
unfolding canon
invented_pending h = true≢false (ap (λ k. nat_eq k 0) (h (record heading_b { unit = [] }) tt))

-- so it is for each reader of each run
pub each_reader : AllIsGivenOrPending → (new : State) (part : ReaderPart) → IsRun views product 5 readers calls replies new → slice_get new.readers 1 ≡ Some part → IsGivenOrPending views product calls replies new 1 delta part
each_reader h new part run e = h views product 5 readers calls replies new run 1 delta part refl e

-- ======== each stream ========
-- a stream that holds one too many, one that holds nothing, and one of totals
pub stream_holds_more : GivesOrHolds views calls replies state 1 delta (part_of delta more_a stream_b stream_c) more_a → ⊥
unfolding canon
stream_holds_more h = true≢false (ap (λ k. nat_eq k 7) (h refl refl))

abbrev empty_b : Stream
empty_b = record stream_b { machine = machine_of (Total 0) false [] [] }

pub stream_holds_nothing : GivesOrHolds views calls replies state 1 delta (part_of delta stream_a empty_b stream_c) empty_b → ⊥
unfolding canon
stream_holds_nothing h = true≢false (ap (λ k. nat_eq k 8) (h refl refl))

pub total_holds_nothing : GivesOrHolds views calls replies state 0 cumulative (part_of cumulative total_a empty_b total_c) empty_b → ⊥
unfolding canon
total_holds_nothing h = true≢false (ap (λ k. nat_eq k 8) (h refl refl))

pub each_stream : EachGivesOrHolds → (new : State) (part : ReaderPart) (s : Stream) → IsRun views product 5 readers calls replies new → slice_get new.readers 1 ≡ Some part → slice_get part.streams 1 ≡ Some s → GivesOrHolds views calls replies new 1 delta part s
each_stream h new part s run e f = h views product 5 readers calls replies new run 1 delta part refl e 1 s f
