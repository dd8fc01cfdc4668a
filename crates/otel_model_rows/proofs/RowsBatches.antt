-- Worked rows on records taken apart, on series that have their places, and on batches: why places come in order of first
-- records, and what is written in order of last records.
use Rattle.std.specs.Prelude.{◌≡◌, ℕ, zero, suc, false, true, Bool, List, [], ◌∷◌, ◌++◌, map, length, Option, Some, None}
use Rattle.std.proofs.Common.{refl, ap, true≢false}
use Rattle.std.proofs.lemmas.Bool.{false≢true}
use Rattle.otel_common.specs.Canonical.{canon}
use Rattle.otel_model_stream.specs.Sets.{AttributeSet, over_set}
use Rattle.otel_model_stream.specs.Folds.{Fold, Total, Last}
use Rattle.otel_model_stream.specs.Folds as folds
use Rattle.otel_model_stream.specs.Entries.{Entry}
use Rattle.otel_model_stream.specs.Events as events
use Rattle.otel_model.specs.Batches.{firsts, firsts_of, occurs, lasts_of, values_of, values_each, calls_of, placed_each, written_all, written_each, batch_after, IsDone, AreDone, AreAccepted, BatchesGroup, RefusalsStay, FirstsOfBeginning}
use Rattle.otel_model.specs.Calls.{Counter, ObservableCounter, Number, Record, RecordBound, Fault, UnknownInstrument, Reply}
use Rattle.otel_model.specs.Demands.{LastValue}
use Rattle.otel_model.specs.Lawful.{IsLawful}
use Rattle.otel_model.specs.Machine.{accepted_after}
use Rattle.otel_model.specs.Places.{Series, Listed, Held, call_at, instrument_at, with_table, set_placed, stream_placed, entry_at, written_at, stream_written, each_stream, placed_in, written_in, is_settled, IsPlaced, HasPlaces, IsPlacedForGood, SeriesStayPlaced}
use Rattle.otel_model.specs.Refusals.{refusal}
use Rattle.otel_model.specs.State.{InstrumentState, Stream, ReaderPart, State}
use Rattle.otel_model.specs.Steps.{state_of}
use Rattle.otel_model_rows.specs.Rows.{u64, x1, y1, cumulative, delta}
use Rattle.otel_model_rows.specs.RunRows.{views, demand_a, demand_b, entry, machine_of, stream_a, stream_b, stream_c, total_a, total_b, total_c, fed, part_of, totals_part, deltas_part, accepting, shared, state}
use Rattle.otel_model_rows.specs.StreamRows.{AreShown, add}

-- ======== series ========
pub calls_of_series : (call_at (Listed 3 x1) (u64 5) ≡ Record 3 (u64 5) x1) × (call_at (Held 4) (u64 5) ≡ RecordBound 4 (u64 5))
calls_of_series = (refl, refl)

-- handle 4 is of instrument 2, and there is no handle 2
pub instruments_of_series : map (λ s. instrument_at s ((4, 2) ∷ (6, 7) ∷ [])) (Listed 3 x1 ∷ Held 4 ∷ Held 6 ∷ Held 2 ∷ []) ≡ Some 3 ∷ Some 2 ∷ Some 7 ∷ None ∷ []
instruments_of_series = refl

-- ======== one stream ========
-- new entries: one that the limit counts, and that of the overflow
abbrev new : AttributeSet → Entry
new s = record { set = s; counted = true; updated = false; fold = Total 0; handles = 0 }

abbrev over : Entry
over = record (new over_set) { counted = false }

-- the first stream, with handle 0, where these are the entries
abbrev a_with : List Entry → Stream
a_with es = record stream_a { machine = machine_of (Total 0) false es ((0, x1) ∷ []) }

abbrev b_with : List Entry → Stream
b_with es = record stream_b { machine = machine_of (Total 0) false es [] }

-- handles stay
pub other_table : with_table total_b.machine.table stream_a ≡ record stream_a { machine = machine_of (Total 2) true (entry y1 6 0 ∷ []) ((0, x1) ∷ []) }
other_table = refl

-- x has an entry; at the limit 1 there is none left for y; the second stream has room
pub sets_placed : (set_placed x1 stream_a ≡ stream_a) × (set_placed y1 stream_a ≡ a_with (entry x1 4 1 ∷ over ∷ [])) × (set_placed x1 stream_b ≡ b_with (entry y1 6 0 ∷ new x1 ∷ [])) × (set_placed [] stream_b ≡ stream_b)
unfolding canon
sets_placed = (refl, refl, refl, refl)

-- of two attributes the stream keeps one
abbrev keeping : Stream → Stream
keeping q = record q { demand = record demand_b { allow = Some ((120 ∷ []) ∷ []) } }

pub kept_set_placed : set_placed (y1 ++ x1) (keeping stream_b) ≡ keeping (b_with (entry y1 6 0 ∷ new x1 ∷ []))
unfolding canon
kept_set_placed = refl

-- the second instrument doesn't feed the stream, and a handle has its place
pub streams_placed : map (λ s. stream_placed fed s stream_a) (Listed 0 y1 ∷ Listed 1 y1 ∷ Held 0 ∷ Held 9 ∷ []) ≡ a_with (entry x1 4 1 ∷ over ∷ []) ∷ stream_a ∷ stream_a ∷ stream_a ∷ []
unfolding canon
streams_placed = refl

pub entries_of_series : map (λ s. entry_at fed s stream_a) (Listed 0 x1 ∷ Listed 0 y1 ∷ Listed 0 [] ∷ Listed 1 x1 ∷ Held 0 ∷ Held 9 ∷ []) ≡ Some x1 ∷ Some over_set ∷ Some [] ∷ None ∷ Some x1 ∷ None ∷ []
unfolding canon
entries_of_series = refl

pub written_at_entries : (written_at (Some x1) (u64 5).amount stream_a ≡ record (a_with (entry x1 9 1 ∷ [])) { recorded = 12 })
    × (written_at (Some []) (u64 5).amount stream_b ≡ record stream_b { machine = machine_of (Total 5) true (entry y1 6 0 ∷ []) []; recorded = 13 })
    × (written_at None (u64 5).amount stream_a ≡ stream_a)
written_at_entries = (refl, refl, refl)

-- what the stream recorded wraps
pub written_wraps : written_at (Some x1) (u64 5).amount (record stream_a { recorded = 18446744073709551615 }) ≡ record (a_with (entry x1 9 1 ∷ [])) { recorded = 4 }
written_wraps = refl

pub written_streams : map (λ s. stream_written fed s (u64 5) stream_a) (Listed 0 x1 ∷ Held 0 ∷ Listed 1 x1 ∷ Held 9 ∷ [])
    ≡ record (a_with (entry x1 9 1 ∷ [])) { recorded = 12 } ∷ record (a_with (entry x1 9 1 ∷ [])) { recorded = 12 } ∷ stream_a ∷ stream_a ∷ []
unfolding canon
written_streams = refl

-- ======== a provider ========
-- the change sees that three instruments have lists
pub streams_changed : each_stream (λ feeds q. record q { start = length feeds }) (totals_part ∷ []) ≡ part_of cumulative (record total_a { start = 3 }) (record total_b { start = 3 }) (record total_c { start = 3 }) ∷ []
streams_changed = refl

-- the first stream of the reader of totals
abbrev totals_with : List Entry → Stream
totals_with es = record total_a { machine = machine_of (Total 0) false es ((0, x1) ∷ []) }

abbrev with_readers : List ReaderPart → State
with_readers ps = record state { readers = ps }

pub placed_at_both : placed_in (Listed 0 y1) state ≡ with_readers (part_of cumulative (totals_with (entry x1 7 1 ∷ over ∷ [])) total_b total_c ∷ part_of delta (a_with (entry x1 4 1 ∷ over ∷ [])) stream_b stream_c ∷ [])
unfolding canon
placed_at_both = refl

-- the first instrument accepted this many records, and what they add up to
abbrev accepted : ℕ → ℕ → List InstrumentState
accepted count sum = accepting Counter count sum ∷ accepting Counter 2 8 ∷ accepting ObservableCounter 0 0 ∷ []

abbrev five_more : State
five_more = record {
  shared = record shared { instruments = accepted 3 12 };
  readers = part_of cumulative (record (totals_with (entry x1 12 1 ∷ [])) { recorded = 12 }) total_b total_c ∷ part_of delta (record (a_with (entry x1 9 1 ∷ [])) { recorded = 12 }) stream_b stream_c ∷ [];
}

pub written_at_both : (written_in (Listed 0 x1) (u64 5) state ≡ five_more) × (written_in (Held 0) (u64 5) state ≡ five_more)
unfolding canon
written_at_both = (refl, refl)

-- ======== having places ========
-- at the limit 1 without and with the overflow entry, and below the limit
pub settled : (map (λ s. is_settled 1 s (entry x1 4 1 ∷ [])) ([] ∷ x1 ∷ y1 ∷ over_set ∷ []) ≡ true ∷ true ∷ false ∷ false ∷ [])
    × (map (λ s. is_settled 1 s (entry x1 4 1 ∷ over ∷ [])) ([] ∷ x1 ∷ y1 ∷ over_set ∷ []) ≡ true ∷ true ∷ true ∷ true ∷ [])
    × (map (λ s. is_settled 2 s (entry x1 4 1 ∷ over ∷ [])) (x1 ∷ y1 ∷ over_set ∷ []) ≡ true ∷ false ∷ true ∷ [])
settled = (refl, refl, refl)

pub is_placed : IsPlaced fed (Listed 0 x1) stream_a × IsPlaced fed (Listed 0 y1) (a_with (entry x1 4 1 ∷ over ∷ []))
unfolding canon
is_placed = (λ e. refl, λ e. refl)

-- where its instrument doesn't feed the stream, and through a handle
pub placed_anyway : IsPlaced fed (Listed 1 y1) stream_a × IsPlaced fed (Held 9) stream_a
placed_anyway = (λ e. absurd (false≢true e), tt)

pub is_not_placed : IsPlaced fed (Listed 0 y1) stream_a → ⊥
unfolding canon
is_not_placed h = false≢true (h refl)

pub has_places : HasPlaces (Listed 0 x1) state
unfolding canon
has_places = (
  (λ e. refl, (λ e. absurd (false≢true e), (λ e. absurd (false≢true e), tt))),
  ((λ e. refl, (λ e. absurd (false≢true e), (λ e. absurd (false≢true e), tt))), tt),
)

-- at the second reader the place is missing
pub lacks_a_place : HasPlaces (Listed 0 y1) (with_readers (part_of cumulative (totals_with (entry x1 7 1 ∷ over ∷ [])) total_b total_c ∷ deltas_part ∷ [])) → ⊥
unfolding canon
lacks_a_place h = false≢true (h.1.0.0 refl)

pub law_of_series : SeriesStayPlaced → IsPlacedForGood views state (Listed 0 y1) (Held 0) (u64 5) (u64 6)
law_of_series h = h views state (Listed 0 y1) (Held 0) (u64 5) (u64 6)

pub placed_for_good : IsPlacedForGood views state (Listed 0 y1) (Held 0) (u64 5) (u64 6) → HasPlaces (Listed 0 y1) (accepted_after views state (Record 0 (u64 5) y1))
    × (HasPlaces (Listed 0 y1) state → HasPlaces (Listed 0 y1) (accepted_after views state (RecordBound 0 (u64 6))))
    × (HasPlaces (Listed 0 y1) state → accepted_after views state (Record 0 (u64 5) y1) ≡ written_in (Listed 0 y1) (u64 5) state)
placed_for_good h = (h.once, h.stays, h.rests)

-- ======== lists of records ========
abbrev five : List (ℕ × ℕ)
five = (2, 7) ∷ (0, 1) ∷ (2, 5) ∷ (1, 9) ∷ (0, 3) ∷ []

pub numbers_first_seen : firsts (1 ∷ 4 ∷ []) (3 ∷ 1 ∷ 3 ∷ 2 ∷ 4 ∷ 3 ∷ []) ≡ 3 ∷ 2 ∷ []
numbers_first_seen = refl

pub in_order_of_first : firsts_of five ≡ 2 ∷ 0 ∷ 1 ∷ []
in_order_of_first = refl

pub in_order_of_last : lasts_of five ≡ 2 ∷ 1 ∷ 0 ∷ []
in_order_of_last = refl

pub occurring : map (λ n. occurs n five) (0 ∷ 1 ∷ 2 ∷ 3 ∷ []) ≡ true ∷ true ∷ true ∷ false ∷ []
occurring = refl

pub values_of_each : map (λ n. values_of n five) (0 ∷ 1 ∷ 2 ∷ 3 ∷ []) ≡ (1 ∷ 3 ∷ []) ∷ (9 ∷ []) ∷ (7 ∷ 5 ∷ []) ∷ [] ∷ []
values_of_each = refl

pub values_in_order : values_each five ≡ (2, 7 ∷ 5 ∷ []) ∷ (1, 9 ∷ []) ∷ (0, 1 ∷ 3 ∷ []) ∷ []
values_in_order = refl

-- ======== batches ========
-- y of the first instrument, the handle at its x, and x of the second
abbrev series : ℕ → Series
series zero = Listed 0 y1
series (suc zero) = Held 0
series (suc (suc n)) = Listed 1 x1

abbrev four : List (ℕ × Number)
four = (0, u64 1) ∷ (1, u64 2) ∷ (0, u64 3) ∷ (2, u64 4) ∷ []

pub calls_of_batch : calls_of series four ≡ Record 0 (u64 1) y1 ∷ RecordBound 0 (u64 2) ∷ Record 0 (u64 3) y1 ∷ Record 1 (u64 4) x1 ∷ []
calls_of_batch = refl

-- y has no place at the limit 1
abbrev all_placed : State
all_placed = with_readers (
    part_of cumulative (totals_with (entry x1 7 1 ∷ over ∷ [])) (record total_b { machine = machine_of (Total 2) true (entry y1 6 0 ∷ new x1 ∷ []) [] }) total_c
    ∷ part_of delta (a_with (entry x1 4 1 ∷ over ∷ [])) (b_with (entry y1 6 0 ∷ new x1 ∷ [])) stream_c
    ∷ []
    )

pub places_of_batch : placed_each series (0 ∷ 1 ∷ 2 ∷ []) state ≡ all_placed
unfolding canon
places_of_batch = refl

-- 2 at the handle, and then 5
abbrev two_more : State
two_more = record {
  shared = record shared { instruments = accepted 3 9 };
  readers = part_of cumulative (record (totals_with (entry x1 9 1 ∷ [])) { recorded = 9 }) total_b total_c ∷ part_of delta (record (a_with (entry x1 6 1 ∷ [])) { recorded = 9 }) stream_b stream_c ∷ [];
}

abbrev seven_more : State
seven_more = record {
  shared = record shared { instruments = accepted 4 14 };
  readers = part_of cumulative (record (totals_with (entry x1 14 1 ∷ [])) { recorded = 14 }) total_b total_c ∷ part_of delta (record (a_with (entry x1 11 1 ∷ [])) { recorded = 14 }) stream_b stream_c ∷ [];
}

pub values_written : written_all (Held 0) (u64 2 ∷ u64 5 ∷ []) state ≡ seven_more
values_written = refl

-- 1 and 3 of y are in the overflow entry
abbrev overflowing : Entry
overflowing = record (entry over_set 4 0) { counted = false }

abbrev batched : State
batched = record {
  shared = record shared { instruments = accepting Counter 5 13 ∷ accepting Counter 3 12 ∷ accepting ObservableCounter 0 0 ∷ [] };
  readers = part_of cumulative (record (totals_with (entry x1 9 1 ∷ overflowing ∷ [])) { recorded = 13 }) (record total_b { machine = machine_of (Total 2) true (entry y1 6 0 ∷ entry x1 4 0 ∷ []) []; recorded = 12 }) total_c
      ∷ part_of delta (record (a_with (entry x1 6 1 ∷ overflowing ∷ [])) { recorded = 13 }) (record (b_with (entry y1 6 0 ∷ entry x1 4 0 ∷ [])) { recorded = 12 }) stream_c
      ∷ [];
}

pub groups_written : written_each series ((1, u64 2 ∷ []) ∷ (0, u64 1 ∷ u64 3 ∷ []) ∷ (2, u64 4 ∷ []) ∷ []) all_placed ≡ batched
unfolding canon
groups_written = refl

-- as a batch, and one by one
pub whole_batch : (batch_after series four state ≡ batched) × (state_of views state (calls_of series four) ≡ batched)
unfolding canon
whole_batch = (refl, refl)

-- ======== both orders ========
-- of one reader with one stream: x, y, and x again
abbrev x_or_y : ℕ → Series
x_or_y zero = Listed 0 x1
x_or_y (suc n) = Listed 0 y1

abbrev three : List (ℕ × Number)
three = (0, u64 1) ∷ (1, u64 2) ∷ (0, u64 3) ∷ []

abbrev alone : ℕ → ℕ → Stream → State
alone count sum q = record { shared = record shared { instruments = accepted count sum }; readers = record deltas_part { streams = q ∷ [] } ∷ [] }

abbrev begun : Fold → Stream
begun f = record stream_a { machine = machine_of f false [] [] }

-- at the limit 1 the place is that of x, which has the first record: it has 1 and 3, and the overflow entry 2
abbrev placed_x : State
placed_x = alone 5 13 (record (begun (Total 0)) { machine = machine_of (Total 0) false (entry x1 4 0 ∷ record (entry over_set 2 0) { counted = false } ∷ []) []; recorded = 13 })

pub places_by_first : (batch_after x_or_y three (alone 2 7 (begun (Total 0))) ≡ placed_x) × (state_of views (alone 2 7 (begun (Total 0))) (calls_of x_or_y three) ≡ placed_x)
unfolding canon
places_by_first = (refl, refl)

-- at the limit 0 both are last values of the overflow entry, where x has the last record
abbrev gauge : Stream
gauge = record (begun (Last 0)) { demand = record demand_a { aggregation = LastValue; limit = 0 } }

abbrev last_x : State
last_x = alone 5 13 (record gauge { machine = machine_of (Last 0) false (record (entry over_set 0 0) { counted = false; fold = Last 3 } ∷ []) [] })

pub written_by_last : (batch_after x_or_y three (alone 2 7 gauge) ≡ last_x) × (state_of views (alone 2 7 gauge) (calls_of x_or_y three) ≡ last_x)
unfolding canon
written_by_last = (refl, refl)

-- one by one; written in order of first records; and with places in order of last records
pub last_one_by_one : AreShown folds.LastValue events.Cumulative 0 (add x1 1 ∷ add y1 2 ∷ add x1 3 ∷ events.Collect ∷ []) (((over_set, Last 3) ∷ []) ∷ [])
last_one_by_one = (refl, refl)

pub last_by_first : AreShown folds.LastValue events.Cumulative 0 (add x1 1 ∷ add x1 3 ∷ add y1 2 ∷ events.Collect ∷ []) (((over_set, Last 2) ∷ []) ∷ [])
last_by_first = (refl, refl)

pub places_one_by_one : AreShown folds.Sum events.Cumulative 1 (add x1 1 ∷ add y1 2 ∷ add x1 3 ∷ events.Collect ∷ []) (((x1, Total 4) ∷ (over_set, Total 2) ∷ []) ∷ [])
places_one_by_one = (refl, refl)

pub places_by_last : AreShown folds.Sum events.Cumulative 1 (add y1 2 ∷ add x1 1 ∷ add x1 3 ∷ events.Collect ∷ []) (((y1, Total 2) ∷ (over_set, Total 4) ∷ []) ∷ [])
places_by_last = (refl, refl)

-- ======== calls that are made ========
pub is_done : IsDone state (RecordBound 0 (u64 2)) two_more
is_done v = (refl, refl)

pub refused_is_not_done : IsDone state (Record 7 (u64 1) x1) state → ⊥
refused_is_not_done h = let e : Reply.Done ≡ Reply.Refused UnknownInstrument = (h []).0 in cc

pub are_done : AreDone state (RecordBound 0 (u64 2) ∷ RecordBound 0 (u64 5) ∷ []) seven_more
are_done = (two_more, is_done, (seven_more, λ views. (refl, refl), refl))

abbrev ended : State
ended = record state { shared = record shared { shut = true } }

pub none_done : AreDone state [] state × (AreDone state [] ended → ⊥)
none_done = (refl, λ e. true≢false (ap (λ (st : State). st.shared.shut) e))

pub refused_are_not_done : (new : State) → AreDone state (Record 7 (u64 1) x1 ∷ []) new → ⊥
refused_are_not_done new h = let e : Reply.Done ≡ Reply.Refused UnknownInstrument = (h.1 []).0 in cc

-- ======== laws ========
pub are_accepted : AreAccepted state (calls_of series four)
are_accepted = (refl, (refl, (refl, (refl, tt))))

abbrev is_fault : Option Fault → Bool
is_fault None = false
is_fault (Some f) = true

pub is_not_accepted : AreAccepted state (Record 0 (u64 1) y1 ∷ Record 7 (u64 1) y1 ∷ []) → ⊥
is_not_accepted h = true≢false (ap is_fault h.1.0)

pub law_of_batches : BatchesGroup → IsLawful state → AreDone state (Record 0 (u64 1) y1 ∷ RecordBound 0 (u64 2) ∷ Record 0 (u64 3) y1 ∷ Record 1 (u64 4) x1 ∷ []) (batch_after series four state)
law_of_batches h lawful = h series state four lawful are_accepted

pub law_of_refusals : RefusalsStay → refusal (batch_after series four state).shared (length (batch_after series four state).readers) (Record 7 (u64 1) x1) ≡ Some UnknownInstrument
law_of_refusals h = h series state four (Listed 7 x1) (u64 1)

pub law_of_beginnings : FirstsOfBeginning → (rs : List (ℕ × Number)) → (rest : List ℕ) × (firsts_of ((3, u64 1) ∷ (1, u64 2) ∷ (3, u64 4) ∷ rs) ≡ 3 ∷ 1 ∷ rest)
law_of_beginnings h rs = h ((3, u64 1) ∷ (1, u64 2) ∷ (3, u64 4) ∷ []) rs
