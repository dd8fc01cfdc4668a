-- Worked rows on the balances of streams, and on what each call to a provider preserves.
use Rattle.std.specs.Prelude.{◌≡◌, ℕ, nat_eq, ◌<◌, pos, false, true, Bool, List, [], ◌∷◌, Option, Some, None, is_some, slice_get}
use Rattle.std.proofs.Common.{refl, sym, ◌∙◌, ap, arith, subst, true≢false}
use Rattle.otel_common.specs.declared.attributes.KeyValue.{KeyValue}
use Rattle.otel_model_stream.specs.Events.{Event, held_by}
use Rattle.otel_model_stream.specs.Folds.{Spread, Spreads, Total, Last, wrap}
use Rattle.otel_model_stream.specs.Machine.{Machine, begin, run}
use Rattle.otel_model.specs.Calls.{Counter, ObservableCounter, Gauge, is_observable, Call, Meter, Build, Record, Bind, RecordBound, Unbind, Collect, Flush, Shutdown}
use Rattle.otel_model.specs.Demands.{ExplicitBucketHistogram, LastValue}
use Rattle.otel_model.specs.Lawful.{EachOf, IsBalanced, IsPaidFor, Balances, handles_of, AreDistinct, TakesRecords, HandlesAreSound, numbers, held_for, IsAccounted, IsOfEvents, kinds_of, PartIsLawful, IsLawful, IsLawfulAtFirst, EachCallKeepsLawful, EachRunKeepsLawful, LawfulBalances, HandlesAreOfFeeds, NextIsUnheld, ObservableIsUnheld}
use Rattle.otel_model.specs.Machine.{new_state}
use Rattle.otel_model.specs.Refusals.{instrument_held}
use Rattle.otel_model.specs.Sent.{is_fed}
use Rattle.otel_model.specs.State.{InstrumentState, LiveHandle, Shared, Stream, ReaderPart, State}
use Rattle.otel_model.specs.Steps.{after, Run}
use Rattle.otel_model.specs.Streams.{kind_of, aggregate_of}
use Rattle.otel_model_rows.specs.Rows.{a, m, about, add, observe, u64, x1, y1, cumulative, delta}
use Rattle.otel_model_rows.specs.RunRows.{product, views, readers, calls, replies, demand_a, demand_b, demand_c, entry, machine_of, stream_a, stream_b, stream_c, total_a, total_b, fed, part_of, deltas_part, accepting, instruments, shared, state, state_with}

-- ======== balances ========
pub balanced : Balances state
balanced = (((λ e. refl, λ e. refl), ((λ e. refl, λ e. refl), ((λ e. refl, λ e. refl), tt))), (((λ e. refl, λ e. refl), ((λ e. refl, λ e. refl), ((λ e. refl, λ e. refl), tt))), tt))

-- one was recorded too many, exported too many, or is pending too many
pub unbalanced : IsBalanced delta (record stream_a { recorded = 8 }) → ⊥
unbalanced h = true≢false (ap (λ k. nat_eq k 8) (h refl))

pub unbalanced_export : IsBalanced delta (record stream_a { exported = 4 }) → ⊥
unbalanced_export h = true≢false (ap (λ k. nat_eq k 7) (h refl))

abbrev more_a : Stream
more_a = record stream_a { machine = machine_of (Total 0) false (entry x1 5 1 ∷ []) ((0, x1) ∷ []) }

pub unbalanced_points : IsBalanced delta more_a → ⊥
unbalanced_points h = true≢false (ap (λ k. nat_eq k 7) (h refl))

-- nothing is pending where 3 of 7 were exported, and nothing was exported where 6 of 8 are pending
pub lost_points : IsBalanced delta (record stream_a { machine = machine_of (Total 0) false [] [] }) → ⊥
lost_points h = true≢false (ap (λ k. nat_eq k 7) (h refl))

pub lost_export : IsBalanced delta (record stream_b { exported = 0 }) → ⊥
lost_export h = true≢false (ap (λ k. nat_eq k 8) (h refl))

-- of a stream of totals, of counts, and of last values, which count nothing
pub unbalanced_total : IsBalanced cumulative (record total_b { recorded = 9 }) → ⊥
unbalanced_total h = true≢false (ap (λ k. nat_eq k 9) (h refl))

abbrev two : Spread
two = record { has_min_max = false; has_sum = true; count = 2; sum = 15; least = None; greatest = None; counts = 1 ∷ 1 ∷ [] }

abbrev counted : Stream
counted = record stream_a {
  demand = record demand_a { aggregation = ExplicitBucketHistogram (pos 10 ∷ []) false };
  machine = machine_of (Spreads (record two { count = 0; sum = 0; counts = 0 ∷ 0 ∷ [] })) false (record (entry x1 0 0) { fold = Spreads two } ∷ []) [];
  recorded = 5;
}

pub balanced_counts : IsBalanced delta counted × (IsBalanced delta (record counted { recorded = 18 }) → ⊥)
balanced_counts = (λ e. refl, λ h. true≢false (ap (λ k. nat_eq k 18) (h refl)))

abbrev gauge : Stream
gauge = record stream_a {
  demand = record demand_a { identity = record demand_a.identity { kind = Gauge }; aggregation = LastValue };
  machine = machine_of (Last 0) false (record (entry x1 0 0) { fold = Last 4 } ∷ []) [];
  recorded = 3;
}

pub balanced_last_values : IsBalanced cumulative gauge × (IsBalanced cumulative (record gauge { recorded = 7 }) → ⊥)
balanced_last_values = (λ e. refl, λ h. true≢false (ap (λ k. nat_eq k 7) (h refl)))

-- of a drained stream nothing is said
pub drained_need_not_balance : IsBalanced delta (record stream_c { recorded = 9 })
drained_need_not_balance e = absurd (true≢false e)

-- what its instruments accepted is something else, with something exported and without
pub unpaid : IsPaidFor fed instruments (record stream_a { recorded = 8 }) → ⊥
unpaid h = true≢false (ap (λ k. nat_eq k 8) (h refl))

pub unpaid_total : IsPaidFor fed instruments (record total_b { recorded = 7 }) → ⊥
unpaid_total h = true≢false (ap (λ k. nat_eq k 7) (h refl))

pub unpaid_counts : IsPaidFor fed instruments (record counted { recorded = 7 }) → ⊥
unpaid_counts h = true≢false (ap (λ k. nat_eq k 7) (h refl))

pub unpaid_last_values : IsPaidFor ((gauge.demand.identity ∷ []) ∷ []) (accepting Gauge 2 7 ∷ []) (record gauge { recorded = 7 }) → ⊥
unpaid_last_values h = true≢false (ap (λ k. nat_eq k 7) (h refl))

-- of an observable stream nothing is said
pub observed_need_not_be_paid : IsPaidFor fed instruments (record stream_c { recorded = 9 })
observed_need_not_be_paid e = absurd (true≢false e)

-- the second stream of the second reader
pub state_unbalanced : Balances (state_with (part_of delta stream_a (record stream_b { exported = 3 }) stream_c)) → ⊥
state_unbalanced h = true≢false (ap (λ k. nat_eq k 8) (h.1.0.1.0.0 refl))

pub state_unpaid : Balances (record state { shared = record shared { instruments = accepting Counter 2 7 ∷ accepting Counter 2 9 ∷ accepting ObservableCounter 0 0 ∷ [] } }) → ⊥
state_unpaid h = true≢false (ap (λ k. nat_eq k 8) (h.1.0.1.0.1 refl))

-- ======== handles ========
abbrev live : List LiveHandle
live = (4, 0) ∷ (6, 1) ∷ (9, 0) ∷ []

pub numbers_of_handles : handles_of live ≡ 4 ∷ 6 ∷ 9 ∷ []
numbers_of_handles = refl

pub distinct : AreDistinct live
distinct = (refl, (refl, (refl, tt)))

pub not_distinct : AreDistinct ((4, 0) ∷ (6, 1) ∷ (4, 2) ∷ []) → ⊥
not_distinct h = true≢false h.0

pub not_distinct_behind : AreDistinct ((4, 0) ∷ (6, 1) ∷ (6, 1) ∷ []) → ⊥
not_distinct_behind h = true≢false h.1.0

pub takes_records : TakesRecords instruments 1
takes_records = (accepting Counter 2 8, refl, refl)

abbrev is_observed : Option InstrumentState → Bool
is_observed None = false
is_observed (Some i) = is_observable i.kind

pub observable_takes_none : TakesRecords instruments 2 → ⊥
observable_takes_none h = true≢false (ap is_observed h.1 ∙ h.2)

pub missing_takes_none : TakesRecords instruments 3 → ⊥
missing_takes_none h = true≢false (sym (ap (λ (i : Option InstrumentState). is_some i) h.1))

abbrev with_handles : List LiveHandle → Shared
with_handles handles = record shared { live = handles; next = 7 }

pub sound : HandlesAreSound (with_handles ((4, 0) ∷ (6, 1) ∷ (2, 0) ∷ []))
sound = record { bound = (omega arith, (omega arith, (omega arith, tt))); below = (omega arith, (omega arith, (omega arith, tt))); distinct = (refl, (refl, (refl, tt))); synchronous = ((accepting Counter 2 7, refl, refl), ((accepting Counter 2 8, refl, refl), ((accepting Counter 2 7, refl, refl), tt))) }

-- the second handle is of no instrument, has the next number or the first one's, or is of an observable instrument
pub of_no_instrument : HandlesAreSound (with_handles ((4, 0) ∷ (6, 3) ∷ [])) → (3 < 3)
of_no_instrument h = h.bound.1.0

pub of_next_number : HandlesAreSound (with_handles ((4, 0) ∷ (7, 1) ∷ [])) → (7 < 7)
of_next_number h = h.below.1.0

pub of_same_number : HandlesAreSound (with_handles ((4, 0) ∷ (6, 1) ∷ (4, 0) ∷ [])) → ⊥
of_same_number h = true≢false h.distinct.0

pub of_observable : HandlesAreSound (with_handles ((4, 0) ∷ (6, 2) ∷ [])) → ⊥
of_observable h = true≢false (ap is_observed h.synchronous.1.0.1 ∙ h.synchronous.1.0.2)

-- ======== streams ========
pub numbers_of_each : numbers ((4, x1) ∷ (9, y1) ∷ []) ≡ 4 ∷ 9 ∷ []
numbers_of_each = refl

pub held_by_each : (held_for fed demand_a.identity live ≡ 4 ∷ 9 ∷ []) × (held_for fed demand_b.identity live ≡ 6 ∷ []) × (held_for fed demand_c.identity live ≡ [])
held_by_each = (refl, refl, refl)

pub accounted : IsAccounted fed ((0, 0) ∷ (1, 1) ∷ []) instruments stream_a × IsAccounted fed [] instruments (record stream_c { recorded = 9 })
accounted = (λ e. (refl, refl), λ e. absurd (true≢false e))

abbrev has_numbers : List ℕ → Bool
has_numbers [] = false
has_numbers (n ∷ ns) = true

-- without the handle, with one of another instrument, and with another total
pub lost_handle : IsAccounted fed ((0, 0) ∷ []) instruments (record stream_a { machine = machine_of (Total 0) false [] [] }) → ⊥
lost_handle h = true≢false (sym (ap has_numbers (h refl).0))

pub invented_handle : IsAccounted fed ((0, 1) ∷ []) instruments stream_a → ⊥
invented_handle h = true≢false (ap has_numbers (h refl).0)

pub unaccounted : IsAccounted fed ((0, 0) ∷ []) instruments (record stream_a { recorded = 8 }) → ⊥
unaccounted h = true≢false (ap (λ k. nat_eq k 8) (h refl).1)

-- 3 at x, a bind, a collection, and 4 through the handle
abbrev events : List Event
events = Event.Record x1 (u64 3).amount ∷ Event.Bind 0 x1 ∷ Event.Collect ∷ Event.RecordBound 0 (u64 4).amount ∷ []

pub of_events : IsOfEvents delta stream_a × IsOfEvents cumulative total_a
of_events = (record { events = events; machine = refl; recorded = refl; exported = refl }, record { events = events; machine = refl; recorded = refl; exported = refl })

-- these events make no other totals, and no other machine
pub made_by_events : (q : Stream) (h : IsOfEvents delta (record q { demand = demand_a })) → h.events ≡ events → (q.machine ≡ stream_a.machine) × (q.recorded ≡ 7) × (q.exported ≡ 3)
made_by_events q h e = (
  h.machine ∙ ap (λ es. run (aggregate_of demand_a) (kind_of delta demand_a) 1 (begin (aggregate_of demand_a)) es) e,
  subst (λ es. q.recorded ≡ Rattle.otel_model.specs.Machine.recorded_over (aggregate_of demand_a) (kind_of delta demand_a) 1 (begin (aggregate_of demand_a)) 0 es) e h.recorded,
  h.exported ∙ ap (λ es. exported_by es) e,
)
  where
    exported_by : List Event → ℕ
    exported_by es = wrap (Rattle.std.specs.Prelude.sum_by Rattle.otel_model_stream.specs.Totals.points_total (Rattle.otel_model_stream.specs.Machine.answers (aggregate_of demand_a) (kind_of delta demand_a) 1 (begin (aggregate_of demand_a)) es))

-- a reader of totals exports nothing
pub totals_export_nothing : (q : Stream) → IsOfEvents cumulative (record q { demand = demand_a }) → q.exported ≡ 0
totals_export_nothing q h = h.exported

-- ======== readers, providers ========
pub kinds_of_each : kinds_of instruments ≡ Counter ∷ Counter ∷ ObservableCounter ∷ []
kinds_of_each = refl

-- what an instrument feeds was demanded
pub undemanded : PartIsLawful ((0, 0) ∷ []) instruments (record deltas_part { fates = demand_a ∷ demand_c ∷ [] }) → ⊥
undemanded h = true≢false (sym (h.known 1 demand_b.identity refl))

-- an observable instrument feeds no other stream, and no other instrument an observable one
pub observable_feeds_other : PartIsLawful ((0, 0) ∷ []) (accepting Counter 2 7 ∷ accepting ObservableCounter 2 8 ∷ accepting ObservableCounter 0 0 ∷ []) deltas_part → ⊥
observable_feeds_other h = true≢false (h.kinds 1 demand_b.identity ObservableCounter refl refl)

pub other_feeds_observable : PartIsLawful ((0, 0) ∷ []) (accepting Counter 2 7 ∷ accepting Counter 2 8 ∷ accepting Counter 0 0 ∷ []) deltas_part → ⊥
other_feeds_observable h = true≢false (sym (h.kinds 2 demand_c.identity Counter refl refl))

-- a list of what it feeds for each instrument
pub too_few_lists : PartIsLawful ((0, 0) ∷ []) (accepting Counter 2 7 ∷ accepting Counter 2 8 ∷ accepting ObservableCounter 0 0 ∷ accepting Counter 0 0 ∷ []) deltas_part → ⊥
too_few_lists h = true≢false (sym (ap (λ k. nat_eq k 4) h.as_many))

-- each stream is accounted for and made by events, and no observable one is held
pub unaccounted_stream : PartIsLawful ((0, 0) ∷ []) instruments (part_of delta stream_a (record stream_b { recorded = 9 }) stream_c) → ⊥
unaccounted_stream h = true≢false (ap (λ k. nat_eq k 9) (h.streams.1.0 refl).1)

pub streams_of_events : (s t u : Stream) → PartIsLawful ((0, 0) ∷ []) instruments (part_of delta s t u) → IsOfEvents delta s × IsOfEvents delta t × IsOfEvents delta u
streams_of_events s t u h = (h.of_events.0, h.of_events.1.0, h.of_events.1.1.0)

abbrev has_handles : List (ℕ × List KeyValue) → Bool
has_handles [] = false
has_handles (p ∷ ps) = true

pub held_observable : PartIsLawful ((0, 0) ∷ []) instruments (part_of delta stream_a stream_b (record stream_c { machine = machine_of (Last 0) false [] ((4, x1) ∷ []) })) → ⊥
held_observable h = true≢false (ap has_handles (h.unheld.1.1.0 refl))

-- its handles are sound, and each of its readers' parts is lawful
pub lawful : (s : Shared) (p q : ReaderPart) → IsLawful (record { shared = s; readers = p ∷ q ∷ [] }) → HandlesAreSound s × PartIsLawful s.live s.instruments p × PartIsLawful s.live s.instruments q
lawful s p q h = (h.handles, h.parts.0, h.parts.1.0)

pub lawful_of_these : (s : Shared) (p q : ReaderPart) → HandlesAreSound s → PartIsLawful s.live s.instruments p → PartIsLawful s.live s.instruments q → IsLawful (record { shared = s; readers = p ∷ q ∷ [] })
lawful_of_these s p q sound one other = record { handles = sound; parts = (one, (other, tt)) }

-- ======== laws ========
pub law_of_first : IsLawfulAtFirst → IsLawful (new_state product 5 readers)
law_of_first h = h product 5 readers

-- one call of each kind
abbrev each_call : List Call
each_call = Meter m ∷ Build (Some 0) (about Counter a) 300 ∷ add 5 x1 ∷ Bind 1 y1 ∷ RecordBound 0 (u64 5) ∷ Unbind 0 ∷ Collect 1 300 (observe 2 12 x1 ∷ []) ∷ Flush ∷ Shutdown ∷ []

pub law_of_calls : EachCallKeepsLawful → (old : State) → IsLawful old → EachOf (λ call. IsLawful (after views old call)) each_call
law_of_calls h old l = (
  h views old (Meter m) l,
  (
    h views old (Build (Some 0) (about Counter a) 300) l,
    (
      h views old (add 5 x1) l,
      (
        h views old (Bind 1 y1) l,
        (
          h views old (RecordBound 0 (u64 5)) l,
          (
            h views old (Unbind 0) l,
            (
              h views old (Collect 1 300 (observe 2 12 x1 ∷ [])) l,
              (
                h views old Flush l,
                (h views old Shutdown l, tt),
              ),
            ),
          ),
        ),
      ),
    ),
  ),
)

pub law_of_runs : EachRunKeepsLawful → (old new : State) → Run views old calls replies new → IsLawful old → IsLawful new
law_of_runs h old new run l = h views old new calls replies run l

pub law_of_balances : LawfulBalances → IsLawful state → Balances state
law_of_balances h l = h state l

-- the second stream of the second reader, where a handle was bound at an instrument that does not feed it
pub law_of_handles : HandlesAreOfFeeds → (s : Shared) (p q : ReaderPart) (t u : Stream) → IsLawful (record { shared = s; readers = p ∷ record q { streams = t ∷ u ∷ [] } ∷ [] })
    → instrument_held 6 s.live ≡ Some 2 → is_fed q.feeds 2 u.demand.identity ≡ false → held_by 6 u.machine.live ≡ None
law_of_handles h s p q t u l e f = ((h (record { shared = s; readers = p ∷ record q { streams = t ∷ u ∷ [] } ∷ [] }) l).1.0 6 2 e).1.0 f

pub law_of_next : NextIsUnheld → (s : Shared) (p q : ReaderPart) (t u : Stream) → IsLawful (record { shared = s; readers = p ∷ record q { streams = t ∷ u ∷ [] } ∷ [] }) → held_by s.next u.machine.live ≡ None
law_of_next h s p q t u l = (h (record { shared = s; readers = p ∷ record q { streams = t ∷ u ∷ [] } ∷ [] }) l).1.0.1.0

pub law_of_observable : ObservableIsUnheld → (s : Shared) (p q : ReaderPart) (t u : Stream) (i : InstrumentState) → IsLawful (record { shared = s; readers = p ∷ record q { streams = t ∷ u ∷ [] } ∷ [] })
    → slice_get s.instruments 2 ≡ Some i → is_observable i.kind ≡ true → is_fed q.feeds 2 u.demand.identity ≡ true → u.machine.live ≡ []
law_of_observable h s p q t u i l e k f = ((h (record { shared = s; readers = p ∷ record q { streams = t ∷ u ∷ [] } ∷ [] }) l).1.0 2 i e k).1.0 f
