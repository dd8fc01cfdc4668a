-- One stream of one reader: its map of sets, and what records, handles and collections do to it (Metrics SDK,
-- "MetricReader").
use Rattle.std.specs.Prelude.{ℕ, Bool, true, false, not, ◌&&◌, cond, List, [], ◌∷◌, ◌++◌, ◌+◌, Option, None, Some, is_none}
use Rattle.otel_common.specs.declared.attributes.KeyValue.{KeyValue}
use Rattle.otel_model_stream.specs.Sets.{AttributeSet, AllowList, set_of}
use Rattle.otel_model_stream.specs.Folds.{Aggregate, Amount, empty_of, sample_of, wrap}
use Rattle.otel_model_stream.specs.Entries.{Point, points}
use Rattle.otel_model_stream.specs.Events.{Handles, held_by, without}
use Rattle.otel_model_stream.specs.Maps.{MapState, new_map, measured_map, bound_map, bound_to, updated_bound, unbound_map, evicted_map}
use Rattle.otel_model_stream.specs.Totals.{size, points_total}
use Rattle.otel_aggregate.specs.value_map.Contents.{is_there_in, next_of}

-- what a stream makes of its records, and, modulo 2^64, the totals of its records and of the points that collections
-- gave before they reset it
pub record AggregateState : Type 0 where
  pub map_state : MapState
  pub aggregate : Aggregate
  pub is_monotonic : Bool
  pub allow : AllowList
  pub resets : Bool
  pub start : ℕ
  pub recorded : ℕ
  pub exported : ℕ

-- a stream without records, with this limit, made at this moment
abbrev pub new_aggregate : Aggregate → Bool → AllowList → Bool → ℕ → ℕ → AggregateState
new_aggregate aggregate is_monotonic allow resets limit start = record {
  map_state = new_map limit (empty_of aggregate);
  aggregate = aggregate;
  is_monotonic = is_monotonic;
  allow = allow;
  resets = resets;
  start = start;
  recorded = 0;
  exported = 0;
}

-- whether its numbers are signed; the stream; its live handles; the sets of the entries that the prepared records or the
-- prepared bind use, the next one first; whether room is made for a handle; whether each collection empties it, as it does
-- observed sums; and what a stream of these reported in the last collection. A stream of observed sums has no handles
pub record AggregateContents : Type 0 where
  pub is_signed : Bool
  pub state : AggregateState
  pub live : Handles
  pub pending : List AttributeSet
  pub room : Bool
  pub drains : Bool
  pub reported : List Point

-- whether the entry that a record of these attributes uses is there
abbrev pub is_known : AllowList → List KeyValue → MapState → Bool
is_known allow l m = is_there_in (set_of allow l) m

-- after a record of an amount that left this map
abbrev pub recorded_in : MapState → Amount → AggregateState → AggregateState
recorded_in m v a = record a { map_state = m; recorded = wrap (a.recorded + size a.aggregate v) }

-- after a record of an amount under a set
abbrev pub recorded_set : AttributeSet → Amount → AggregateState → AggregateState
recorded_set s v a = recorded_in (measured_map s (sample_of a.aggregate v) a.map_state) v a

-- after a record of an amount with these attributes
abbrev pub recorded_attributes : List KeyValue → Amount → AggregateState → AggregateState
recorded_attributes l v a = recorded_set (set_of a.allow l) v a

-- what a collection gives: the updated entries if the stream resets, and otherwise all, but for the empty set's entry
-- if that was not updated
abbrev pub points_now : AggregateState → List Point
points_now a = points (not a.resets) a.map_state.table

-- after a collection at a moment, which changes only a stream that resets
abbrev pub stream_after_collection : ℕ → AggregateState → AggregateState
stream_after_collection now a = cond a.resets (record a { map_state = evicted_map a.map_state; start = now; exported = wrap (a.exported + points_total (points_now a)) }) a

-- after a prepared record of this set, if there is one
abbrev pub taken_from : Option AttributeSet → Amount → AggregateContents → AggregateContents
taken_from None v s = s
taken_from (Some set) v s = record s { state = recorded_set set v s.state; pending = [] }

-- after the prepared record, if there is one
abbrev pub stream_after_commit : Amount → AggregateContents → AggregateContents
stream_after_commit v s = taken_from (next_of s.pending) v s

-- ======== handles ========
-- after a bind of this set, if there is one, as this handle; it uses the room
abbrev pub bind_of : Option AttributeSet → ℕ → AggregateContents → AggregateContents
bind_of None h s = s
bind_of (Some set) h s = record s { state = record s.state { map_state = bound_map set s.state.map_state }; live = s.live ++ (h, bound_to set s.state.map_state) ∷ []; pending = []; room = false }

-- after the prepared bind as the handle with this number, if room is made and no such handle is live
abbrev pub stream_after_bind : ℕ → AggregateContents → AggregateContents
stream_after_bind h s = cond (s.room && is_none (held_by h s.live)) (bind_of (next_of s.pending) h s) s

-- after a record through a handle of this set's entry, if there is a set
abbrev pub update_at : Option AttributeSet → Amount → AggregateState → AggregateState
update_at None v a = a
update_at (Some g) v a = recorded_in (updated_bound g (sample_of a.aggregate v) a.map_state) v a

-- after a record through the handle with this number, if it is live; what was prepared is given up
abbrev pub stream_after_update : ℕ → Amount → AggregateContents → AggregateContents
stream_after_update h v s = record s { state = update_at (held_by h s.live) v s.state; pending = [] }

-- after the end of a handle of this set's entry, if there is a set
abbrev pub unbind_at : Option AttributeSet → AggregateState → AggregateState
unbind_at None a = a
unbind_at (Some g) a = record a { map_state = unbound_map g a.map_state }

-- after the end of the handle with this number, if it is live; what was prepared is given up
abbrev pub stream_after_unbind : ℕ → AggregateContents → AggregateContents
stream_after_unbind h s = record s { state = unbind_at (held_by h s.live) s.state; live = without h s.live; pending = [] }

-- with a record or a bind of these attributes prepared, and room for a handle
abbrev pub ready_to_bind : List KeyValue → AggregateContents → AggregateContents
ready_to_bind l s = record s { pending = bound_to (set_of s.state.allow l) s.state.map_state ∷ []; room = true }
