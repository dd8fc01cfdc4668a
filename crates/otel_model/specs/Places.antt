-- A record taken apart: its series gets its places, and then its value is written there (Metrics SDK, "Cardinality
-- limits").
use Rattle.std.specs.Prelude.{◌≡◌, ℕ, ◌+◌, nat_lt, Bool, true, not, ◌&&◌, ◌||◌, cond, List, map, Option, Some, None}
use Rattle.std.specs.List.{AllByRecursion as EachOf}
use Rattle.otel_common.specs.Equality.{set_eq}
use Rattle.otel_common.specs.declared.attributes.KeyValue.{KeyValue}
use Rattle.otel_model_stream.specs.Sets.{AttributeSet, none_set, over_set}
use Rattle.otel_model_stream.specs.Folds.{Amount, wrap, empty_of, sample_of}
use Rattle.otel_model_stream.specs.Events.{held_by}
use Rattle.otel_model_stream.specs.Entries.{Entry, Table, has, number_counted, entry_for, at_entry, write, place}
use Rattle.otel_model_stream.specs.Totals.{size}
use Rattle.otel_model.specs.Calls.{Number, Call, Record, RecordBound}
use Rattle.otel_model.specs.Demands.{Identity, Views}
use Rattle.otel_model.specs.Streams.{aggregate_of}
use Rattle.otel_model.specs.State.{LiveHandle, Stream, ReaderPart, State}
use Rattle.otel_model.specs.Refusals.{instrument_held}
use Rattle.otel_model.specs.Sent.{is_fed, set_for}
use Rattle.otel_model.specs.Machine.{accepted_by, accepted_after}

-- ======== series ========
-- what records have in common that differ in their values alone: the instrument and the attributes as given, or the
-- handle
pub data Series : Type 0 where
  Listed : (instrument : ℕ) (attributes : List KeyValue) → Series
  Held : (handle : ℕ) → Series

-- the call that records this value of a series
abbrev pub call_at : Series → Number → Call
call_at (Listed n l) v = Record n v l
call_at (Held h) v = RecordBound h v

-- the instrument of a series, if there is one
abbrev pub instrument_at : Series → List LiveHandle → Option ℕ
instrument_at (Listed n l) live = Some n
instrument_at (Held h) live = instrument_held h live

-- ======== one stream ========
-- the stream with this table
abbrev pub with_table : Table → Stream → Stream
with_table t q = record q { machine = record q.machine { table = t } }

-- the stream with a place for the set that it assigns to these attributes
abbrev pub set_placed : List KeyValue → Stream → Stream
set_placed l q = with_table (place q.demand.limit (empty_of (aggregate_of q.demand)) (set_for q.demand l) q.machine.table) q

-- the stream once a series has its place there, if its instrument feeds the stream; a handle has its place since its bind
abbrev pub stream_placed : List (List Identity) → Series → Stream → Stream
stream_placed feeds (Listed n l) q = cond (is_fed feeds n q.demand.identity) (set_placed l q) q
stream_placed feeds (Held h) q = q

-- the set of the entry that a series uses once it has its place; none if its records don't go to the stream
abbrev pub entry_at : List (List Identity) → Series → Stream → Option AttributeSet
entry_at feeds (Listed n l) q = cond (is_fed feeds n q.demand.identity) (Some (entry_for (set_for q.demand l) q.machine.table.entries)) None
entry_at feeds (Held h) q = held_by h q.machine.live

-- the stream after a measurement at the entry of this set, if there is one
abbrev pub written_at : Option AttributeSet → Amount → Stream → Stream
written_at None v q = q
written_at (Some g) v q = record q {
  machine = record q.machine { table = at_entry g (write (sample_of (aggregate_of q.demand) v)) q.machine.table };
  recorded = wrap (q.recorded + size (aggregate_of q.demand) v);
}

-- the stream after a record of a series that has its place
abbrev pub stream_written : List (List Identity) → Series → Number → Stream → Stream
stream_written feeds s v q = written_at (entry_at feeds s q) v.amount q

-- ======== a provider ========
-- the readers with each stream changed; the change sees what the reader's instruments feed
abbrev pub each_stream : (List (List Identity) → Stream → Stream) → List ReaderPart → List ReaderPart
each_stream f ps = map (λ (p : ReaderPart). record p { streams = map (f p.feeds) p.streams }) ps

-- the provider once a series has its places
abbrev pub placed_in : Series → State → State
placed_in s st = record st { readers = each_stream (λ feeds. stream_placed feeds s) st.readers }

-- the provider after a record of a series that has its places
abbrev pub written_in : Series → Number → State → State
written_in s v st = record st {
  shared = record st.shared { instruments = accepted_by (instrument_at s st.shared.live) v.amount st.shared.instruments };
  readers = each_stream (λ feeds. stream_written feeds s v) st.readers;
}

-- ======== having places ========
-- whether a place for the set s changes nothing: s is empty or has an entry, or the limit is reached and the overflow
-- entry is there
abbrev pub is_settled : ℕ → AttributeSet → List Entry → Bool
is_settled limit s es = set_eq s none_set || (has s es || (not (nat_lt (number_counted es) limit) && has over_set es))

-- the series has its place in the stream, if its instrument feeds it
abbrev pub IsPlaced : List (List Identity) → Series → Stream → Type 0
IsPlaced feeds (Listed n l) q = is_fed feeds n q.demand.identity ≡ true → is_settled q.demand.limit (set_for q.demand l) q.machine.table.entries ≡ true
IsPlaced feeds (Held h) q = Unit {0}

-- the series has its places in all streams
abbrev pub HasPlaces : Series → State → Type 0
HasPlaces s st = EachOf (λ (p : ReaderPart). EachOf (IsPlaced p.feeds s) p.streams) st.readers

-- ======== the law ========
-- a series has its places after a record of it; it keeps them over each record, whose series is t; and while it has them
-- a record of it is a write alone
pub record IsPlacedForGood (views : Views) (st : State) (s t : Series) (v w : Number) : Type 0 where
  pub once : HasPlaces s (accepted_after views st (call_at s v))
  pub stays : HasPlaces s st → HasPlaces s (accepted_after views st (call_at t w))
  pub rests : HasPlaces s st → accepted_after views st (call_at s v) ≡ written_in s v st

-- so it is for all series and values, from any state
abbrev pub SeriesStayPlaced : Type 0
SeriesStayPlaced = (views : Views) (st : State) (s t : Series) (v w : Number) → IsPlacedForGood views st s t v w
