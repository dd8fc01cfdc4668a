-- What a program that names streams by number must do to agree with the machine.
use Rattle.std.specs.Prelude.{◌≡◌, ℕ, ◌+◌, false, cond, List, [], ◌∷◌, map, fold, None, slice_get}
use Rattle.otel_common.specs.declared.attributes.KeyValue.{KeyValue}
use Rattle.otel_model_stream.specs.Events.{Event, held_by}
use Rattle.otel_model_stream.specs.Folds.{wrap}
use Rattle.otel_model_stream.specs.Machine.{machine_after_collection, points}
use Rattle.otel_model_stream.specs.Totals.{points_total}
use Rattle.otel_model.specs.Calls.{Number, Observed, Record, Bind, RecordBound, Unbind, Collect, or_else}
use Rattle.otel_model.specs.Demands.{Identity, ReaderAnswers, has_identity}
use Rattle.otel_model.specs.Streams.{is_delta, kind_of}
use Rattle.otel_model.specs.Collections.{shows_differences}
use Rattle.otel_model.specs.State.{Stream}
use Rattle.otel_model.specs.Sent.{set_for, observed_events}
use Rattle.otel_model.specs.Machine.{machine_after, recorded_after, changed_at, stream_after}
use Rattle.otel_model.specs.Laws.{AreApart, AreNumbered, names}
use Rattle.otel_model.specs.Lawful.{EachOf}

-- a stream after events, none of which is a collection
abbrev pub stream_with : ReaderAnswers → List Event → Stream → Stream
stream_with answers es s = record s { machine = machine_after answers s.demand es s.machine; recorded = recorded_after answers es s }

-- a stream after a measurement with these attributes
abbrev pub stream_recorded : ReaderAnswers → Number → List KeyValue → Stream → Stream
stream_recorded answers v l s = stream_with answers (Event.Record (set_for s.demand l) v.amount ∷ []) s

-- a stream after a bind with these attributes that gives this number
abbrev pub stream_bound : ReaderAnswers → ℕ → List KeyValue → Stream → Stream
stream_bound answers next l s = stream_with answers (Event.Bind next (set_for s.demand l) ∷ []) s

-- the identities of the streams that instrument n feeds
abbrev pub fed_by : List (List Identity) → ℕ → List Identity
fed_by feeds n = or_else (slice_get feeds n) []

-- recording a measurement in the streams that an instrument feeds, one after another by their numbers, does what the
-- call does to all streams
abbrev pub RecordsByNumber : Type 0
RecordsByNumber = (answers : ReaderAnswers) (feeds : List (List Identity)) (next n : ℕ) (v : Number) (l : List KeyValue) (ss : List Stream) (ks : List ℕ)
    → AreNumbered (names ss) ks (fed_by feeds n) → AreApart (fed_by feeds n) → AreApart (names ss)
    → fold (λ (ss : List Stream) k. changed_at k (stream_recorded answers v l) ss) ss ks ≡ map (stream_after answers feeds next (Record n v l)) ss

-- and so does binding in these streams
abbrev pub BindsByNumber : Type 0
BindsByNumber = (answers : ReaderAnswers) (feeds : List (List Identity)) (next n : ℕ) (l : List KeyValue) (ss : List Stream) (ks : List ℕ)
    → AreNumbered (names ss) ks (fed_by feeds n) → AreApart (fed_by feeds n) → AreApart (names ss)
    → fold (λ (ss : List Stream) k. changed_at k (stream_bound answers next l) ss) ss ks ≡ map (stream_after answers feeds next (Bind n l)) ss

-- a measurement through a handle that the stream doesn't have leaves the stream as it is, and so does the handle's end
abbrev pub UnheldRests : Type 0
UnheldRests = (answers : ReaderAnswers) (feeds : List (List Identity)) (next h : ℕ) (v : Number) (s : Stream) → held_by h s.machine.live ≡ None
    → (stream_after answers feeds next (RecordBound h v) s ≡ s) × (stream_after answers feeds next (Unbind h) s ≡ s)

-- a stream whose identity is not one of these does not have the handle
abbrev pub IsHeldOnlyBy : ℕ → List Identity → Stream → Type 0
IsHeldOnlyBy h xs s = has_identity xs s.demand.identity ≡ false → held_by h s.machine.live ≡ None

-- recording through a handle, or ending it, in some streams, one after another by their numbers, does what the call
-- does to all streams, if no other stream has the handle
abbrev pub HandlesByNumber : Type 0
HandlesByNumber = (answers : ReaderAnswers) (feeds : List (List Identity)) (next h : ℕ) (v : Number) (ss : List Stream) (ks : List ℕ) (xs : List Identity)
    → AreNumbered (names ss) ks xs → AreApart xs → AreApart (names ss) → EachOf (IsHeldOnlyBy h xs) ss
    → (fold (λ (ss : List Stream) k. changed_at k (stream_with answers (Event.RecordBound h v.amount ∷ [])) ss) ss ks ≡ map (stream_after answers feeds next (RecordBound h v)) ss)
    × (fold (λ (ss : List Stream) k. changed_at k (stream_with answers (Event.Unbind h ∷ [])) ss) ss ks ≡ map (stream_after answers feeds next (Unbind h)) ss)

-- ======== collections ========
-- a stream after a collection whose observations were recorded before
abbrev pub stream_collected : ReaderAnswers → ℕ → Stream → Stream
stream_collected answers now s = record s {
  machine = machine_after_collection (kind_of answers s.demand) s.machine;
  start = cond (is_delta answers s.demand) now s.start;
  reported = cond (shows_differences answers s.demand) (points (kind_of answers s.demand) s.machine) s.reported;
  exported = cond (is_delta answers s.demand) (wrap (s.exported + points_total (points (kind_of answers s.demand) s.machine))) s.exported;
}

-- a collection records its observations first, and then collects
abbrev pub CollectsAfterObservations : Type 0
CollectsAfterObservations = (answers : ReaderAnswers) (feeds : List (List Identity)) (next r now : ℕ) (os : List Observed) (s : Stream)
    → stream_after answers feeds next (Collect r now os) s ≡ stream_collected answers now (stream_with answers (observed_events feeds s.demand os) s)

-- recording the observations one after another, each in the streams that its instrument feeds, records in each stream
-- all those that it is sent. `numbers_of` gives the numbers of the streams that an instrument feeds
abbrev pub ObservationsByNumber : Type 0
ObservationsByNumber = (answers : ReaderAnswers) (feeds : List (List Identity)) (numbers_of : ℕ → List ℕ) (os : List Observed) (ss : List Stream)
    → ((n : ℕ) → AreNumbered (names ss) (numbers_of n) (fed_by feeds n)) → ((n : ℕ) → AreApart (fed_by feeds n)) → AreApart (names ss)
    → fold (λ (ss : List Stream) (o : Observed). fold (λ (ss : List Stream) k. changed_at k (stream_recorded answers o.value o.attributes) ss) ss (numbers_of o.instrument)) ss os
    ≡ map (λ (s : Stream). stream_with answers (observed_events feeds s.demand os) s) ss
