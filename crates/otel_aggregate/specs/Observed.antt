-- A stream of observed sums: values that are already sums when they are observed (Metrics SDK, "Asynchronous Counter"
-- and "MetricReader").
use Rattle.std.specs.Prelude.{ℕ, ℤ, ◌+◌, Bool, cond, List, [], map, Option, None, Some}
use Rattle.otel_common.specs.declared.attributes.KeyValue.{KeyValue}
use Rattle.otel_data.specs.declared.sums.Sum.{Sum}
use Rattle.otel_model_stream.specs.Sets.{AllowList}
use Rattle.otel_model_stream.specs.Folds.{LastValue, Amount, wrap}
use Rattle.otel_model_stream.specs.Entries.{Point}
use Rattle.otel_model_stream.specs.Maps.{draining_points, drained_map}
use Rattle.otel_model_stream.specs.Observed.{difference}
use Rattle.otel_model_stream.specs.Data.{sum}
use Rattle.otel_model_stream.specs.Totals.{points_total}
use Rattle.otel_aggregate.specs.Streams.{AggregateState, new_aggregate, recorded_attributes}
use Rattle.otel_aggregate.specs.Data.{temporality_of}

-- what was observed since the last collection, and the values that a delta stream reported in that collection
pub record ObservedState : Type 0 where
  pub stream : AggregateState
  pub reported : List Point

-- a stream without observations, with this limit, made at this moment
abbrev pub new_observed : Bool → AllowList → Bool → ℕ → ℕ → ObservedState
new_observed is_monotonic allow resets limit start = record { stream = new_aggregate LastValue is_monotonic allow resets limit start; reported = [] }

-- ======== observations ========
-- after an observation of an amount with these attributes
abbrev pub observed_attributes : List KeyValue → Amount → ObservedState → ObservedState
observed_attributes l v a = record { stream = recorded_attributes l v a.stream; reported = a.reported }

-- ======== collections ========
-- the observed values
abbrev pub values_now : ObservedState → List Point
values_now a = draining_points a.stream.map_state

-- the point, or, given the points reported before, the point less what was reported for its set
abbrev pub since_reported : Option (List Point) → Point → Point
since_reported None p = p
since_reported (Some before) p = difference before p

-- what a collection gives: the values; in a delta stream, each less what was reported for its set before
abbrev pub sums_now : ObservedState → List Point
sums_now a = cond a.stream.resets (map (difference a.reported) (values_now a)) (values_now a)

-- after a collection at a moment: no observations are left, and a delta stream has reported them and starts again
abbrev pub drained_at : ℕ → ObservedState → ObservedState
drained_at now a = record {
  stream = record a.stream {
    map_state = drained_map a.stream.map_state;
    start = cond a.stream.resets now a.stream.start;
    exported = cond a.stream.resets (wrap (a.stream.exported + points_total (values_now a))) a.stream.exported;
  };
  reported = cond a.stream.resets (values_now a) a.reported;
}

-- collected at a moment, as data
abbrev pub observed_data : {T : Type 0} → (ℕ → T) → (ℤ → T) → ℕ → ObservedState → Sum T
observed_data of_bits of_whole now a = sum of_bits of_whole (temporality_of a.stream) a.stream.is_monotonic a.stream.start now (sums_now a)
