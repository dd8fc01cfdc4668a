-- One stream of a reader: the model's stream, with what the model leaves out.
use Rattle.std.specs.Prelude.{ℕ, ◌+◌, Bool, true, false, cond, ◌&&◌, not, List, [], ◌∷◌, drop, map, fold, Option, None, Some, is_none, ◌≡◌}
use Rattle.std.specs.Bool.{beq}
use Rattle.otel_common.specs.declared.metrics.Temporality.TheVariants.{Cumulative, Delta}
use Rattle.otel_common.specs.declared.attributes.KeyValue.{KeyValue}
use Rattle.otel_data.specs.declared.collections.Metric.{Metric}
use Rattle.otel_data.specs.declared.numbers.NumberValue.{NumberValue}
use Rattle.otel_model_stream.specs.Sets.{AttributeSet, none_set}
use Rattle.otel_model_stream.specs.Folds.{Amount, empty_of, wrap}
use Rattle.otel_model_stream.specs.Entries.{Point, entry_for, place}
use Rattle.otel_model_stream.specs.Events.{Event, Kind, held_by}
use Rattle.otel_model_stream.specs.Machine.{points, machine_after_collection, step}
use Rattle.otel_model_stream.specs.Observed.{difference}
use Rattle.otel_model_stream.specs.Totals.{points_total}
use Rattle.otel_aggregate.specs.Any.{is_signed_value, amount_of}
use Rattle.otel_aggregate.specs.Streams.{AggregateState, AggregateContents}
use Rattle.otel_aggregate.specs.value_map.Contents.{is_next_placed, next_of}
use Rattle.otel_model.specs.Calls.{is_observable}
use Rattle.otel_model.specs.Demands.{Aggregation, Drop, Default, Sum, LastValue, ExplicitBucketHistogram, Demand, is_valid}
use Rattle.otel_model.specs.Collections.{aggregated_metrics, has_points}
use Rattle.otel_model.specs.Machine.{new_stream, recorded_with}
use Rattle.otel_model.specs.Sent.{set_for}
use Rattle.otel_model.specs.State.{Stream}
use Rattle.otel_model.specs.Streams.{aggregate_of, is_drained, is_monotonic_kind}
use Rattle.opentelemetry_sdk.specs.declared.pipeline.change.Change.{Change}
use Rattle.opentelemetry_sdk.specs.declared.pipeline.change.Change.TheVariants as change

-- a stream, whether each collection resets it, the sets of the entries that the prepared records or the prepared bind use, the
-- next one first, and whether room is made for a handle
pub record StreamContents : Type 0 where
  pub stream : Stream
  pub resets : Bool
  pub pending : List AttributeSet
  pub room : Bool

-- ======== what a demand asks ========
-- whether the aggregate is monotonic: a sum is if its kind says so, a last value or a histogram never
abbrev pub asks_monotonic : Demand → Bool
asks_monotonic d = by d.aggregation
  where
    by : Aggregation → Bool
    by Drop = is_monotonic_kind d.identity.kind
    by Default = is_monotonic_kind d.identity.kind
    by Sum = is_monotonic_kind d.identity.kind
    by LastValue = false
    by (ExplicitBucketHistogram bounds m) = false

-- the aggregate that a demand asks for, with what this one has recorded
abbrev pub asked_aggregate : Demand → AggregateState → AggregateState
asked_aggregate d a = record a {
  map_state = record a.map_state { limit = d.limit; empty = empty_of (aggregate_of d) };
  aggregate = aggregate_of d;
  is_monotonic = asks_monotonic d;
  allow = d.allow;
}

-- a stream can be made for the demand: the aggregation is valid
pub record IsMakeable (d : Demand) : Type 0 where
  pub valid : is_valid d.aggregation ≡ true

-- the aggregate is the one that the demand asks for; if the instrument is observable, it has no live handles
pub record IsAsked (d : Demand) (a : AggregateContents) : Type 0 where
  pub state : a.state ≡ asked_aggregate d a.state
  pub signed : a.is_signed ≡ d.identity.signed
  pub drains : a.drains ≡ is_drained d
  pub unheld : is_observable d.identity.kind ≡ true → a.live ≡ []

-- the stream of this demand with this aggregate
abbrev pub contents_of : Demand → AggregateContents → StreamContents
contents_of d a = record {
  stream = record {
    demand = d;
    machine = record { table = a.state.map_state.table; live = a.live };
    start = a.state.start;
    reported = a.reported;
    recorded = a.state.recorded;
    exported = a.state.exported;
  };
  resets = a.state.resets;
  pending = a.pending;
  room = a.room;
}

-- a stream without records, made at a moment
abbrev pub new_contents : Bool → Demand → ℕ → StreamContents
new_contents resets d now = record { stream = new_stream now d; resets = resets; pending = []; room = false }

-- ======== records ========
-- the set of the entry that a record or a bind of the set uses
abbrev pub used_for : AttributeSet → StreamContents → AttributeSet
used_for s h = entry_for s (place h.stream.demand.limit (empty_of (aggregate_of h.stream.demand)) s h.stream.machine.table).entries

-- after an event other than a collection; nothing is prepared any more
abbrev pub with_event : Event → StreamContents → StreamContents
with_event e h = record h {
  stream = record h.stream {
    machine = step (aggregate_of h.stream.demand) Kind.Cumulative h.stream.demand.limit h.stream.machine e;
    recorded = recorded_with (aggregate_of h.stream.demand) h.stream.machine h.stream.recorded e;
  };
  pending = [];
}

-- after a record of the set
abbrev pub with_record : AttributeSet → Amount → StreamContents → StreamContents
with_record s v h = with_event (Event.Record s v) h

-- the same, if there is a set
abbrev pub committed_by : Option AttributeSet → Amount → StreamContents → StreamContents
committed_by None v h = h
committed_by (Some s) v h = with_record s v h

-- whether the stream has the number type of a value
abbrev pub takes : NumberValue → StreamContents → Bool
takes value k = beq (is_signed_value value) k.stream.demand.identity.signed

-- after the prepared record of a value; a stream of the other number type doesn't change
abbrev pub contents_after_commit : NumberValue → StreamContents → StreamContents
contents_after_commit value k = cond (takes value k) (committed_by (next_of k.pending) (amount_of value) k) k

-- once a record of these attributes is prepared beside the others, to be taken in before them
abbrev pub contents_prepared : List KeyValue → StreamContents → StreamContents
contents_prepared l k = record k { pending = used_for (set_for k.stream.demand l) k ∷ k.pending }

-- after records of these values for the set that is prepared next, with all that is prepared
abbrev pub contents_with_next : List NumberValue → StreamContents → StreamContents
contents_with_next values h = fold (λ (k : StreamContents) (value : NumberValue). record (contents_after_commit value k) { pending = k.pending }) h values

-- after the same records, if that set's entry is there; what is prepared after it stays prepared
abbrev pub contents_after_next : List NumberValue → StreamContents → StreamContents
contents_after_next values k = cond (is_next_placed k.pending k.stream.machine.table.entries) (record (contents_with_next values k) { pending = drop 1 k.pending }) k

-- after a record of a value with attributes; a stream of the other number type doesn't change
abbrev pub contents_after_record : NumberValue → List KeyValue → StreamContents → StreamContents
contents_after_record value l h = cond (takes value h) (with_record (set_for h.stream.demand l) (amount_of value) h) h

-- after a record of each of these values, one after another
abbrev pub contents_after_each : List NumberValue → List KeyValue → StreamContents → StreamContents
contents_after_each values l h = fold (λ (k : StreamContents) (value : NumberValue). contents_after_record value l k) h values

-- the stream, with nothing prepared and no room made
abbrev pub without_pending : StreamContents → StreamContents
without_pending h = record h { pending = []; room = false }

-- ======== handles ========
-- after a bind of the set as this handle, if there is a set; it uses the room
abbrev pub bound_by : Option AttributeSet → ℕ → StreamContents → StreamContents
bound_by None h k = k
bound_by (Some s) h k = record (with_event (Event.Bind h s) k) { room = false }

-- ======== changes ========
-- after a change. A stream of the other number type takes no record in. A bind needs room, and a number that no live handle
-- has; a stream of an observable instrument has no handles, and so has one that is drained
abbrev pub contents_after : Change → StreamContents → StreamContents
contents_after (change.Prepared value) k = contents_after_commit value k
contents_after (change.Each values) k = contents_after_next values.now k
contents_after (change.Empty value) k = cond (takes value k) (with_record none_set (amount_of value) k) k
contents_after (change.Held h place value) k = cond (not (is_drained k.stream.demand) && takes value k) (with_event (Event.RecordBound h (amount_of value)) k) k
contents_after (change.Bind h) k = cond (not (is_observable k.stream.demand.identity.kind) && (k.room && is_none (held_by h k.stream.machine.live))) (bound_by (next_of k.pending) h k) k
contents_after (change.Unbind h) k = cond (is_drained k.stream.demand) k (with_event (Event.Unbind h) k)

-- ======== collections ========
-- how collections cut the stream's history into windows
abbrev pub window_of : StreamContents → Kind
window_of h = cond (is_drained h.stream.demand) Kind.Drained (cond h.resets Kind.Delta Kind.Cumulative)

-- the points of a collection, before differences are taken
abbrev pub shown_points : StreamContents → List Point
shown_points h = points (window_of h) h.stream.machine

-- whether a collection shows what was added since the collection before it
abbrev pub shows_added : StreamContents → Bool
shows_added h = is_drained h.stream.demand && h.resets

-- the points that a collection shows: what was added to each, or the points as they are
abbrev pub shown_values : StreamContents → List Point
shown_values h = cond (shows_added h) (map (difference h.stream.reported) (shown_points h)) (shown_points h)

-- the stream after a collection at a moment
abbrev pub contents_after_collection : ℕ → StreamContents → StreamContents
contents_after_collection now h = record h {
  stream = record h.stream {
    machine = machine_after_collection (window_of h) h.stream.machine;
    start = cond h.resets now h.stream.start;
    reported = cond (shows_added h) (shown_points h) h.stream.reported;
    exported = cond h.resets (wrap (h.stream.exported + points_total (shown_points h))) h.stream.exported;
  };
}

-- the metric that a collection at a moment gives of the stream, with or without points
abbrev pub shown_metric : ℕ → StreamContents → Metric
shown_metric now h = record {
  name = h.stream.demand.spelling;
  description = h.stream.demand.identity.description;
  unit = h.stream.demand.identity.unit;
  content = aggregated_metrics h.stream.demand.identity.signed (cond h.resets Delta Cumulative) h.stream.demand.identity.kind h.stream.demand.aggregation h.stream.start now (shown_values h);
}

-- the metric, if it has points
abbrev pub if_points : Metric → Option Metric
if_points m = cond (has_points m) (Some m) None
