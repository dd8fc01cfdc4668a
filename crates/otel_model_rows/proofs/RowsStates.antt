-- Worked rows on the state of a provider: what each call leaves of all that it keeps, also where no collection shows it.
use Rattle.std.specs.Prelude.{◌≡◌, ℕ, Bool, true, false, List, [], ◌∷◌, map, Some, None, codes}
use Rattle.std.proofs.Common.{refl}
use Rattle.otel_common.specs.Canonical.{canon}
use Rattle.otel_model_stream.specs.Sets.{AttributeSet, over_set}
use Rattle.otel_model_stream.specs.Folds as folds
use Rattle.otel_model_stream.specs.Folds.{Fold, Total, Last}
use Rattle.otel_model_stream.specs.Entries.{Entry}
use Rattle.otel_model_stream.specs.Events as events
use Rattle.otel_model_stream.specs.Events.{Kind, Point}
use Rattle.otel_model_stream.specs.Machine.{Machine}
use Rattle.otel_model.specs.Calls.{InstrumentKind, Counter, UpDownCounter, ObservableCounter, Call, Meter, Build, Record, Bind, RecordBound, Unbind, Collect, Flush, Shutdown, Reply}
use Rattle.otel_model.specs.Demands.{Drop, Sum, LastValue, Identity, Demand, ReaderAnswers}
use Rattle.otel_model.specs.Machine.{with_meter, new_instrument, instrument_after_record, accepted_by, without_handle, start_after, reported_after, if_held, recorded_with, recorded_over, exported_after, new_stream, enter, make, with_feeds, new_state}
use Rattle.otel_model.specs.Resources.{Resource}
use Rattle.otel_model.specs.State.{InstrumentState, Shared, Stream, ReaderPart, State}
use Rattle.otel_model.specs.Steps.{after, answer_of, reply_of, number_from}
use Rattle.otel_model_rows.specs.Rows.{a, b, m, scope_named, about, u64, x1, y1, pair, if_named, named, aggregating, cumulative, delta, observe}

-- ======== a provider in the middle of its life ========
abbrev product : Resource
product = record { attributes = pair 97 1 ∷ []; schema_url = None }

-- an instrument that accepted this many records, and what they add up to
abbrev accepting : InstrumentKind → ℕ → ℕ → InstrumentState
accepting kind count sum = record { kind = kind; signed = false; count = count; sum = sum }

abbrev identity_of : InstrumentKind → List ℕ → Identity
identity_of kind name = record { scope = m; kind = kind; signed = false; description = []; unit = []; name = name }

abbrev counter : Identity
counter = identity_of Counter a

abbrev observed : Identity
observed = identity_of ObservableCounter b

abbrev summed : ℕ → Identity → Demand
summed limit x = record { identity = x; spelling = x.name; aggregation = Sum; allow = None; limit = limit }

-- an entry of a sum that the limit counts
abbrev entry : AttributeSet → Bool → ℕ → ℕ → Entry
entry s updated total handles = record { set = s; counted = true; updated = updated; fold = Total total; handles = handles }

abbrev quiet : Fold → Entry
quiet f = record { set = []; counted = false; updated = false; fold = f; handles = 0 }

-- what is kept of the counter: 3 at x, where handle 4 is
abbrev x_machine : Machine
x_machine = record { table = record { none = quiet (Total 0); entries = entry x1 true 3 1 ∷ [] }; live = (4, x1) ∷ [] }

abbrev empty_machine : Fold → Machine
empty_machine f = record { table = record { none = quiet f; entries = [] }; live = [] }

abbrev counted : Stream
counted = record { demand = summed 1 counter; machine = x_machine; start = 100; reported = []; recorded = 7; exported = 4 }

-- 10 was observed at x in the collection before
abbrev reported : Stream
reported = record { demand = summed 2000 observed; machine = empty_machine (Last 0); start = 150; reported = (x1, Last 10) ∷ []; recorded = 1; exported = 2 }

abbrev reader : ReaderAnswers → Stream → Stream → ReaderPart
reader answers s t = record { answers = answers; fates = summed 1 counter ∷ summed 2000 observed ∷ []; streams = s ∷ t ∷ []; feeds = (counter ∷ []) ∷ (observed ∷ []) ∷ [] ∷ [] }

abbrev both : Stream → Stream → List ReaderPart
both s t = reader delta s t ∷ reader cumulative s t ∷ []

-- instrument 2 feeds nothing
abbrev shared : Shared
shared = record {
  resource = product;
  identity = 5;
  meters = m ∷ [];
  instruments = accepting Counter 3 7 ∷ accepting ObservableCounter 0 0 ∷ accepting Counter 1 1 ∷ [];
  live = (4, 0) ∷ (6, 2) ∷ [];
  next = 9;
  shut = false;
}

abbrev middle : State
middle = record { shared = shared; readers = both counted reported }

abbrev ended : State
ended = record middle { shared = record shared { shut = true } }

-- ======== meters ========
pub new_meter : after [] middle (Meter (scope_named b)) ≡ record middle { shared = record shared { meters = m ∷ scope_named b ∷ [] } }
new_meter = refl

pub same_meter : after [] middle (Meter m) ≡ middle
same_meter = refl

pub no_meter_any_more : (after [] ended (Meter (scope_named b)) ≡ ended) × (reply_of ended (Meter m) ≡ Reply.Meter None)
no_meter_any_more = (refl, refl)

pub meters_added : (with_meter m (m ∷ []) ≡ m ∷ []) × (with_meter m (scope_named b ∷ []) ≡ scope_named b ∷ m ∷ [])
meters_added = (refl, refl)

pub meter_numbers : (number_from 3 m (scope_named b ∷ m ∷ m ∷ []) ≡ Some 4) × (number_from 3 m (scope_named b ∷ []) ≡ None)
meter_numbers = (refl, refl)

-- ======== records ========
-- y has no place at the limit 1
pub after_record : after [] middle (Record 0 (u64 5) y1) ≡ record {
  shared = record shared { instruments = accepting Counter 4 12 ∷ accepting ObservableCounter 0 0 ∷ accepting Counter 1 1 ∷ [] };
  readers = both (record counted {
    machine = record { table = record { none = quiet (Total 0); entries = entry x1 true 3 1 ∷ record (entry over_set true 5 0) { counted = false } ∷ [] }; live = (4, x1) ∷ [] };
    recorded = 12;
  }) reported;
}
unfolding canon
after_record = refl

-- an instrument that feeds nothing accepts its records all the same
pub after_ignored_record : after [] middle (Record 2 (u64 5) y1) ≡ record middle { shared = record shared { instruments = accepting Counter 3 7 ∷ accepting ObservableCounter 0 0 ∷ accepting Counter 2 6 ∷ [] } }
unfolding canon
after_ignored_record = refl

-- a refused one changes nothing
pub after_refused_record : after [] middle (Record 3 (u64 5) y1) ≡ middle
after_refused_record = refl

-- the number of records and their sum wrap
pub accepted_one_more : instrument_after_record (u64 5).amount (accepting Counter 3 7) ≡ accepting Counter 4 12
accepted_one_more = refl

pub accepted_wraps : instrument_after_record (u64 5).amount (accepting Counter 18446744073709551615 18446744073709551613) ≡ accepting Counter 0 2
accepted_wraps = refl

pub new_instruments : map new_instrument (about Counter a ∷ record (about UpDownCounter b) { signed = true } ∷ []) ≡ accepting Counter 0 0 ∷ record (accepting UpDownCounter 0 0) { signed = true } ∷ []
new_instruments = refl

-- ======== handles ========
pub after_bind : after [] middle (Bind 0 x1) ≡ record {
  shared = record shared { live = (4, 0) ∷ (6, 2) ∷ (9, 0) ∷ []; next = 10 };
  readers = both (record counted { machine = record { table = record { none = quiet (Total 0); entries = entry x1 true 3 2 ∷ [] }; live = (4, x1) ∷ (9, x1) ∷ [] } }) reported;
}
unfolding canon
after_bind = refl

pub after_ignored_bind : after [] middle (Bind 2 x1) ≡ record middle { shared = record shared { live = (4, 0) ∷ (6, 2) ∷ (9, 2) ∷ []; next = 10 } }
unfolding canon
after_ignored_bind = refl

pub after_record_bound : after [] middle (RecordBound 4 (u64 5)) ≡ record {
  shared = record shared { instruments = accepting Counter 4 12 ∷ accepting ObservableCounter 0 0 ∷ accepting Counter 1 1 ∷ [] };
  readers = both (record counted { machine = record { table = record { none = quiet (Total 0); entries = entry x1 true 8 1 ∷ [] }; live = (4, x1) ∷ [] }; recorded = 12 }) reported;
}
after_record_bound = refl

pub after_ignored_record_bound : after [] middle (RecordBound 6 (u64 5)) ≡ record middle { shared = record shared { instruments = accepting Counter 3 7 ∷ accepting ObservableCounter 0 0 ∷ accepting Counter 2 6 ∷ [] } }
after_ignored_record_bound = refl

pub accepted_through : (accepted_by None (u64 5).amount (accepting Counter 3 7 ∷ []) ≡ accepting Counter 3 7 ∷ []) × (accepted_by (Some 0) (u64 5).amount (accepting Counter 3 7 ∷ []) ≡ accepting Counter 4 12 ∷ [])
accepted_through = (refl, refl)

pub after_unbind : after [] middle (Unbind 4) ≡ record {
  shared = record shared { live = (6, 2) ∷ [] };
  readers = both (record counted { machine = record { table = record { none = quiet (Total 0); entries = entry x1 true 3 0 ∷ [] }; live = [] } }) reported;
}
after_unbind = refl

pub after_ignored_unbind : after [] middle (Unbind 6) ≡ record middle { shared = record shared { live = (4, 0) ∷ [] } }
after_ignored_unbind = refl

-- the first one with the number goes
pub handles_without : map (λ h. without_handle h ((4, 0) ∷ (6, 4) ∷ (4, 6) ∷ [])) (4 ∷ 5 ∷ 6 ∷ []) ≡ ((6, 4) ∷ (4, 6) ∷ []) ∷ ((4, 0) ∷ (6, 4) ∷ (4, 6) ∷ []) ∷ ((4, 0) ∷ (4, 6) ∷ []) ∷ []
handles_without = refl

-- ======== collections ========
-- at the delta reader starts move, what was exported grows, the handle keeps its entry, and what was observed is kept;
-- the other reader stays as it was
pub after_delta_collection : after [] middle (Collect 0 300 (observe 1 12 x1 ∷ [])) ≡ record {
  shared = shared;
  readers = reader delta (record counted { machine = record { table = record { none = quiet (Total 0); entries = entry x1 false 0 1 ∷ [] }; live = (4, x1) ∷ [] }; start = 300; exported = 7 })
      (record reported { start = 300; reported = (x1, Last 12) ∷ [] })
      ∷ reader cumulative counted reported
      ∷ [];
}
unfolding canon
after_delta_collection = refl

-- a cumulative reader keeps starts and exports nothing; only its observed sums are emptied
pub after_cumulative_collection : after [] middle (Collect 1 300 (observe 1 12 x1 ∷ [])) ≡ middle
unfolding canon
after_cumulative_collection = refl

-- without observations nothing is reported any more
pub after_empty_collection : after [] middle (Collect 0 300 []) ≡ record {
  shared = shared;
  readers = reader delta (record counted { machine = record { table = record { none = quiet (Total 0); entries = entry x1 false 0 1 ∷ [] }; live = (4, x1) ∷ [] }; start = 300; exported = 7 })
      (record reported { start = 300; reported = [] })
      ∷ reader cumulative counted reported
      ∷ [];
}
after_empty_collection = refl

-- ======== flush, shutdown ========
pub after_flush : after [] middle Flush ≡ middle
after_flush = refl

pub after_shutdown : after [] middle Shutdown ≡ ended
after_shutdown = refl

-- ======== totals of a stream ========
abbrev record_five : events.Event
record_five = events.Record x1 (u64 5).amount

abbrev through_five : ℕ → events.Event
through_five h = events.RecordBound h (u64 5).amount

abbrev recorded_with_each : folds.Aggregate → ℕ → List ℕ
recorded_with_each σ total = map (recorded_with σ x_machine total) (record_five ∷ through_five 4 ∷ through_five 3 ∷ events.Bind 7 x1 ∷ events.Unbind 4 ∷ events.Collect ∷ [])

-- a record, one through a live handle, one through another, and what records nothing
pub recorded_more : recorded_with_each folds.Sum 7 ≡ 12 ∷ 12 ∷ 7 ∷ 7 ∷ 7 ∷ 7 ∷ []
recorded_more = refl

pub recorded_more_last : recorded_with_each folds.LastValue 7 ≡ 7 ∷ 7 ∷ 7 ∷ 7 ∷ 7 ∷ 7 ∷ []
recorded_more_last = refl

pub recorded_more_spread : recorded_with_each (folds.Histogram [] true true) 7 ≡ 8 ∷ 8 ∷ 7 ∷ 7 ∷ 7 ∷ 7 ∷ []
recorded_more_spread = refl

pub recorded_wraps : recorded_with_each folds.Sum 18446744073709551615 ≡ 4 ∷ 4 ∷ 18446744073709551615 ∷ 18446744073709551615 ∷ 18446744073709551615 ∷ 18446744073709551615 ∷ []
recorded_wraps = refl

pub more_if_held : (if_held None 3 7 ≡ 7) × (if_held (Some x1) 3 7 ≡ 3)
more_if_held = (refl, refl)

-- each event sees the handles that the ones before it left
pub recorded_by_events : recorded_over folds.Sum Kind.Delta 1 x_machine 7 (through_five 4 ∷ events.Unbind 4 ∷ through_five 4 ∷ through_five 4 ∷ events.Bind 8 y1 ∷ through_five 8 ∷ record_five ∷ []) ≡ 22
recorded_by_events = refl

pub recorded_by_none : recorded_over folds.Sum Kind.Delta 1 x_machine 7 [] ≡ 7
recorded_by_none = refl

abbrev feeds : List (List Identity)
feeds = (counter ∷ []) ∷ (observed ∷ []) ∷ [] ∷ []

-- one call of each kind
abbrev each_call : List Call
each_call = Meter m ∷ Build None (about Counter a) 400 ∷ Record 0 (u64 5) x1 ∷ Bind 0 x1 ∷ RecordBound 4 (u64 5) ∷ Unbind 4 ∷ Collect 0 300 [] ∷ Flush ∷ Shutdown ∷ []

pub starts : map (λ call. start_after delta (summed 1 counter) call 100) each_call ≡ 100 ∷ 100 ∷ 100 ∷ 100 ∷ 100 ∷ 100 ∷ 300 ∷ 100 ∷ 100 ∷ []
starts = refl

pub cumulative_starts : map (λ call. start_after cumulative (summed 1 counter) call 100) each_call ≡ 100 ∷ 100 ∷ 100 ∷ 100 ∷ 100 ∷ 100 ∷ 100 ∷ 100 ∷ 100 ∷ []
cumulative_starts = refl

pub exports : map (λ call. exported_after delta feeds call counted) each_call ≡ 4 ∷ 4 ∷ 4 ∷ 4 ∷ 4 ∷ 4 ∷ 7 ∷ 4 ∷ 4 ∷ []
exports = refl

pub cumulative_exports : map (λ call. exported_after cumulative feeds call counted) each_call ≡ 4 ∷ 4 ∷ 4 ∷ 4 ∷ 4 ∷ 4 ∷ 4 ∷ 4 ∷ 4 ∷ []
cumulative_exports = refl

pub export_wraps : exported_after delta feeds (Collect 0 300 []) (record counted { exported = 18446744073709551615 }) ≡ 2
export_wraps = refl

abbrev ten : List Point
ten = (x1, Last 10) ∷ []

pub reports : map (λ call. reported_after delta feeds call reported) each_call ≡ ten ∷ ten ∷ ten ∷ ten ∷ ten ∷ ten ∷ [] ∷ ten ∷ ten ∷ []
reports = refl

pub cumulative_reports : map (λ call. reported_after cumulative feeds call reported) each_call ≡ ten ∷ ten ∷ ten ∷ ten ∷ ten ∷ ten ∷ ten ∷ ten ∷ ten ∷ []
cumulative_reports = refl

-- ======== builds ========
abbrev fresh : State
fresh = after [] (new_state product 5 (delta ∷ [])) (Meter m)

pub first_state : new_state product 5 (delta ∷ cumulative ∷ []) ≡ record {
  shared = record { resource = product; identity = 5; meters = []; instruments = []; live = []; next = 0; shut = false };
  readers = record { answers = delta; fates = []; streams = []; feeds = [] } ∷ record { answers = cumulative; fates = []; streams = []; feeds = [] } ∷ [];
}
first_state = refl

-- the new stream of a demand
abbrev made : Demand → Stream
made d = record { demand = d; machine = empty_machine (Total 0); start = 100; reported = []; recorded = 0; exported = 0 }

pub new_streams : new_stream 100 (summed 1 counter) ≡ made (summed 1 counter)
new_streams = refl

abbrev named_x : Identity
named_x = identity_of Counter (codes "x")

abbrev dropped : Demand
dropped = record (summed 2000 named_x) { aggregation = Drop }

abbrev usual : Demand
usual = summed 2000 counter

abbrev built : List Demand → List Stream → List (List Identity) → State
built fates streams fed = record {
  shared = record fresh.shared { instruments = map (λ (x : List Identity). accepting Counter 0 0) fed };
  readers = record { answers = delta; fates = fates; streams = streams; feeds = fed } ∷ [];
}

pub after_build : after [] fresh (Build (Some 0) (about Counter a) 100) ≡ built (usual ∷ []) (made usual ∷ []) ((counter ∷ []) ∷ [])
after_build = refl

-- a second build of an identity makes nothing and feeds the stream; one without a meter feeds nothing
pub after_more_builds : after [] (after [] (built (usual ∷ []) (made usual ∷ []) ((counter ∷ []) ∷ [])) (Build (Some 0) (about Counter a) 400)) (Build None (about Counter a) 400)
    ≡ built (usual ∷ []) (made usual ∷ []) ((counter ∷ []) ∷ (counter ∷ []) ∷ [] ∷ [])
after_more_builds = refl

-- a demand that drops has a fate and no stream
pub after_dropped_build : after (if_named a (record (named (codes "x")) { aggregation = Some Drop }) ∷ []) fresh (Build (Some 0) (about Counter a) 100) ≡ built (dropped ∷ []) [] ([] ∷ [])
after_dropped_build = refl

-- the instrument's own stream comes after a demand that drops, if another does not fit
pub after_unfit_build : after (if_named a (record (named (codes "x")) { aggregation = Some Drop }) ∷ if_named a (aggregating LastValue) ∷ []) fresh (Build (Some 0) (about Counter a) 100)
    ≡ built (dropped ∷ usual ∷ []) (made usual ∷ []) ((counter ∷ []) ∷ [])
after_unfit_build = refl

pub fates_entered : (enter (usual ∷ []) dropped ≡ usual ∷ dropped ∷ []) × (enter (usual ∷ dropped ∷ []) (summed 1 counter) ≡ usual ∷ dropped ∷ [])
fates_entered = (refl, refl)

pub streams_made : (make 100 [] [] usual ≡ made usual ∷ []) × (make 100 [] [] dropped ≡ []) × (make 100 (usual ∷ []) (counted ∷ []) usual ≡ counted ∷ []) × (make 100 (dropped ∷ []) (reported ∷ []) usual ≡ reported ∷ made usual ∷ [])
streams_made = (refl, refl, refl, refl)

-- what feeds are added after a build, without what drops
pub feeds_added : (with_feeds (usual ∷ dropped ∷ usual ∷ []) (record { answers = delta; fates = usual ∷ dropped ∷ []; streams = []; feeds = [] ∷ [] })).feeds ≡ [] ∷ (counter ∷ []) ∷ []
feeds_added = refl

pub answers_without_refusal : map (answer_of middle) (Meter m ∷ Meter (scope_named b) ∷ Build None (about Counter a) 100 ∷ Record 0 (u64 5) x1 ∷ Bind 0 x1 ∷ RecordBound 4 (u64 5) ∷ Unbind 4 ∷ Flush ∷ Shutdown ∷ [])
    ≡ Reply.Meter (Some 0) ∷ Reply.Meter (Some 1) ∷ Reply.Instrument 3 ∷ Reply.Done ∷ Reply.Handle 9 ∷ Reply.Done ∷ Reply.Done ∷ Reply.Done ∷ Reply.Done ∷ []
answers_without_refusal = refl
