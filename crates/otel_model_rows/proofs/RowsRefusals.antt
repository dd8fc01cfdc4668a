-- Worked rows on refusals: which fault comes where several hold, and that a refused call changes nothing.
use Rattle.std.specs.Prelude.{◌≡◌, ℕ, pos, true, false, List, [], ◌∷◌, map, Option, Some, None}
use Rattle.std.proofs.Common.{refl}
use Rattle.otel_common.specs.Canonical.{canon}
use Rattle.otel_model.specs.Calls.{InstrumentKind, Counter, UpDownCounter, ObservableCounter, ObservableGauge, Number, Observed, Call, Meter, Build, Record, Bind, RecordBound, Unbind, Collect, Flush, Shutdown, Fault, UnknownMeter, UnknownInstrument, UnknownHandle, UnknownReader, WrongNumber, WrongKind, AlreadyShutdown, ReaderShutDown, Exhausted, Reply}
use Rattle.otel_model.specs.Resources.{empty_resource}
use Rattle.otel_model.specs.Refusals.{meter_refusal, number_refusal, record_refusal, bind_refusal, instrument_held, held_refusal, handle_refusal, unbind_refusal, observation_refusal, first_fault, observations_refusal, refusal}
use Rattle.otel_model.specs.State.{InstrumentState, Shared, State}
use Rattle.otel_model.specs.Steps.{reply_of, reply_by, after, after_by}
use Rattle.otel_model_rows.specs.Rows.{a, b, m, about, u64, i64, x1, cumulative, replies, on, observe}

-- ======== a provider in the middle of its life ========
-- an instrument of this kind and number type
abbrev instrument : InstrumentKind → InstrumentState
instrument kind = record { kind = kind; signed = false; count = 0; sum = 0 }

-- a counter of `u64`, an up-down counter of `i64`, an observable counter of `u64` and an observable gauge of `i64`
abbrev four : List InstrumentState
four = instrument Counter ∷ record (instrument UpDownCounter) { signed = true } ∷ instrument ObservableCounter ∷ record (instrument ObservableGauge) { signed = true } ∷ []

-- one meter; handle 5 of the counter, handle 7 of the up-down counter, and handle 8 of an instrument that is not there
abbrev open_shared : Shared
open_shared = record { resource = empty_resource; identity = 0; meters = m ∷ []; instruments = four; live = (5, 0) ∷ (7, 1) ∷ (8, 9) ∷ []; next = 9; shut = false }

abbrev shut_shared : Shared
shut_shared = record open_shared { shut = true }

-- of which all numbers of handles are used
abbrev used_shared : Shared
used_shared = record open_shared { next = 18446744073709551615 }

-- with two readers
abbrev refused : Call → Option Fault
refused call = refusal open_shared 2 call

abbrev refused_shut : Call → Option Fault
refused_shut call = refusal shut_shared 2 call

abbrev refused_used : Call → Option Fault
refused_used call = refusal used_shared 2 call

abbrev signed_one : Number
signed_one = i64 1 (pos 1)

abbrev observe_i64 : ℕ → Observed
observe_i64 instrument = record { instrument = instrument; value = signed_one; attributes = [] }

-- ======== meters and builds ========
pub asked_meters : map (meter_refusal open_shared) (None ∷ Some 0 ∷ Some 1 ∷ []) ≡ None ∷ None ∷ Some UnknownMeter ∷ []
asked_meters = refl

pub builds : map (λ meter. refused (Build meter (about Counter a) 100)) (None ∷ Some 0 ∷ Some 1 ∷ []) ≡ None ∷ None ∷ Some UnknownMeter ∷ []
builds = refl

-- a meter is never refused, nor is a build at a meter that was there before a shutdown
pub after_shutdown : map refused_shut (Meter m ∷ Build (Some 0) (about Counter a) 100 ∷ Build (Some 1) (about Counter a) 100 ∷ Record 0 (u64 1) [] ∷ Bind 0 [] ∷ RecordBound 5 (u64 1) ∷ Unbind 5 ∷ [])
    ≡ None ∷ None ∷ Some UnknownMeter ∷ None ∷ None ∷ None ∷ None ∷ []
after_shutdown = refl

-- ======== records and binds ========
pub numbers : map (number_refusal false) (false ∷ true ∷ []) ≡ None ∷ Some WrongNumber ∷ []
numbers = refl

pub signed_numbers : map (number_refusal true) (false ∷ true ∷ []) ≡ Some WrongNumber ∷ None ∷ []
signed_numbers = refl

-- a number at the counter, the up-down counter, the observable ones, and at no instrument: the kind comes before the
-- number type
abbrev at_each : (ℕ → Call) → List (Option Fault)
at_each call = map (λ n. refused (call n)) (0 ∷ 1 ∷ 2 ∷ 3 ∷ 4 ∷ [])

pub records : at_each (λ n. Record n (u64 1) x1) ≡ None ∷ Some WrongNumber ∷ Some WrongKind ∷ Some WrongKind ∷ Some UnknownInstrument ∷ []
records = refl

pub signed_records : at_each (λ n. Record n signed_one x1) ≡ Some WrongNumber ∷ None ∷ Some WrongKind ∷ Some WrongKind ∷ Some UnknownInstrument ∷ []
signed_records = refl

pub binds : at_each (λ n. Bind n x1) ≡ None ∷ None ∷ Some WrongKind ∷ Some WrongKind ∷ Some UnknownInstrument ∷ []
binds = refl

pub record_words : (record_refusal None true ≡ Some UnknownInstrument)
    × (record_refusal (Some (instrument ObservableCounter)) true ≡ Some WrongKind)
    × (record_refusal (Some (instrument Counter)) true ≡ Some WrongNumber)
    × (record_refusal (Some (instrument Counter)) false ≡ None)
record_words = (refl, refl, refl, refl)

-- where all numbers of handles are used, an unknown instrument and a wrong kind come first
pub used_binds : map (λ n. refused_used (Bind n [])) (0 ∷ 1 ∷ 2 ∷ 3 ∷ 4 ∷ []) ≡ Some Exhausted ∷ Some Exhausted ∷ Some WrongKind ∷ Some WrongKind ∷ Some UnknownInstrument ∷ []
used_binds = refl

-- the last number that is given is 2^64 - 2
pub bind_words : (bind_refusal 18446744073709551614 (Some (instrument Counter)) ≡ None)
    × (bind_refusal 18446744073709551615 (Some (instrument Counter)) ≡ Some Exhausted)
    × (bind_refusal 18446744073709551615 (Some (instrument ObservableCounter)) ≡ Some WrongKind)
    × (bind_refusal 18446744073709551615 None ≡ Some UnknownInstrument)
    × (bind_refusal 0 None ≡ Some UnknownInstrument)
bind_words = (refl, refl, refl, refl, refl)

-- by the replies of a run: what is refused at an observable `u64` counter, and at no instrument
pub replies_at_observable : replies [] (cumulative ∷ []) (on (about ObservableCounter a) (Record 0 signed_one [] ∷ Record 0 (u64 1) [] ∷ Bind 0 [] ∷ Record 1 (u64 1) [] ∷ Record 1 signed_one x1 ∷ Bind 1 [] ∷ []))
    ≡ Reply.Meter (Some 0) ∷ Reply.Instrument 0 ∷ Reply.Refused WrongKind ∷ Reply.Refused WrongKind ∷ Reply.Refused WrongKind ∷ Reply.Refused UnknownInstrument ∷ Reply.Refused UnknownInstrument ∷ Reply.Refused UnknownInstrument ∷ []
unfolding canon
replies_at_observable = refl

-- ======== handles ========
pub held : map (λ h. instrument_held h open_shared.live) (5 ∷ 6 ∷ 7 ∷ 8 ∷ []) ≡ Some 0 ∷ None ∷ Some 1 ∷ Some 9 ∷ []
held = refl

-- of two with one number the first counts
pub held_first : instrument_held 5 ((5, 1) ∷ (5, 2) ∷ []) ≡ Some 1
held_first = refl

pub through_handles : map (λ h. refused (RecordBound h (u64 1))) (5 ∷ 6 ∷ 7 ∷ 8 ∷ []) ≡ None ∷ Some UnknownHandle ∷ Some WrongNumber ∷ Some UnknownHandle ∷ []
through_handles = refl

pub signed_through_handles : map (λ h. refused (RecordBound h signed_one)) (5 ∷ 6 ∷ 7 ∷ 8 ∷ []) ≡ Some WrongNumber ∷ Some UnknownHandle ∷ None ∷ Some UnknownHandle ∷ []
signed_through_handles = refl

pub handle_words : (handle_refusal None four false ≡ Some UnknownHandle)
    × (handle_refusal (Some 1) four false ≡ Some WrongNumber)
    × (handle_refusal (Some 1) four true ≡ None)
    × (held_refusal None true ≡ Some UnknownHandle)
    × (held_refusal (Some (instrument Counter)) true ≡ Some WrongNumber)
    × (held_refusal (Some (instrument Counter)) false ≡ None)
handle_words = (refl, refl, refl, refl, refl, refl)

pub unbinds : map (λ h. refused (Unbind h)) (5 ∷ 6 ∷ 7 ∷ []) ≡ None ∷ Some UnknownHandle ∷ None ∷ []
unbinds = refl

pub unbind_words : map unbind_refusal (None ∷ Some 3 ∷ []) ≡ Some UnknownHandle ∷ None ∷ []
unbind_words = refl

-- ======== observations ========
pub observations : map (λ n. refused (Collect 0 200 (observe n 1 [] ∷ []))) (0 ∷ 1 ∷ 2 ∷ 3 ∷ 4 ∷ []) ≡ Some WrongKind ∷ Some WrongKind ∷ None ∷ Some WrongNumber ∷ Some UnknownInstrument ∷ []
observations = refl

pub signed_observations : map (λ n. refused (Collect 0 200 (observe_i64 n ∷ []))) (0 ∷ 1 ∷ 2 ∷ 3 ∷ 4 ∷ []) ≡ Some WrongKind ∷ Some WrongKind ∷ Some WrongNumber ∷ None ∷ Some UnknownInstrument ∷ []
signed_observations = refl

pub observation_words : (observation_refusal None false ≡ Some UnknownInstrument)
    × (observation_refusal (Some (instrument Counter)) true ≡ Some WrongKind)
    × (observation_refusal (Some (instrument ObservableCounter)) true ≡ Some WrongNumber)
    × (observation_refusal (Some (instrument ObservableCounter)) false ≡ None)
observation_words = (refl, refl, refl, refl)

-- the first bad one decides, and not the last or the first of the faults
pub first_observation : map (observations_refusal four)
    ((observe 2 1 [] ∷ observe 4 1 [] ∷ observe 3 1 [] ∷ [])
    ∷ (observe 3 1 [] ∷ observe 4 1 [] ∷ [])
    ∷ (observe 0 1 [] ∷ observe 4 1 [] ∷ observe 3 1 [] ∷ [])
    ∷ (observe 2 1 [] ∷ observe_i64 3 ∷ [])
    ∷ []
    ∷ [])
    ≡ Some UnknownInstrument ∷ Some WrongNumber ∷ Some WrongKind ∷ None ∷ None ∷ []
first_observation = refl

pub first_faults : (first_fault None None ≡ None)
    × (first_fault None (Some WrongKind) ≡ Some WrongKind)
    × (first_fault (Some WrongNumber) None ≡ Some WrongNumber)
    × (first_fault (Some WrongNumber) (Some WrongKind) ≡ Some WrongNumber)
first_faults = (refl, refl, refl, refl)

-- ======== collections, flush and shutdown ========
abbrev bad : List Observed
bad = observe 4 1 [] ∷ []

-- an unknown reader comes before a shutdown, and both before observations
pub collections : map (λ r. refused (Collect r 200 bad)) (0 ∷ 1 ∷ 2 ∷ []) ≡ Some UnknownInstrument ∷ Some UnknownInstrument ∷ Some UnknownReader ∷ []
collections = refl

pub collections_shut : map (λ r. refused_shut (Collect r 200 bad)) (0 ∷ 1 ∷ 2 ∷ []) ≡ Some ReaderShutDown ∷ Some ReaderShutDown ∷ Some UnknownReader ∷ []
collections_shut = refl

pub good_collections : map (λ r. refused (Collect r 200 [])) (0 ∷ 1 ∷ 2 ∷ []) ≡ None ∷ None ∷ Some UnknownReader ∷ []
good_collections = refl

pub asking : map refused (Flush ∷ Shutdown ∷ Meter m ∷ []) ≡ None ∷ None ∷ None ∷ []
asking = refl

pub asking_shut : map refused_shut (Flush ∷ Shutdown ∷ []) ≡ Some AlreadyShutdown ∷ Some AlreadyShutdown ∷ []
asking_shut = refl

-- by the replies of a run: observations for no instrument after a shutdown, and several bad ones before
pub replies_to_observations : replies [] (cumulative ∷ []) (on (about Counter a) (Build (Some 0) (about ObservableCounter b) 100
    ∷ Collect 0 200 (observe 0 1 [] ∷ observe 9 1 [] ∷ observe_i64 1 ∷ []) ∷ Collect 0 200 (observe_i64 1 ∷ observe 9 1 [] ∷ []) ∷ Collect 0 200 (observe 1 1 [] ∷ observe 9 1 [] ∷ observe 0 1 [] ∷ [])
    ∷ Shutdown ∷ Collect 0 300 (observe 9 1 [] ∷ []) ∷ Collect 1 300 (observe 9 1 [] ∷ []) ∷ []))
    ≡ Reply.Meter (Some 0) ∷ Reply.Instrument 0 ∷ Reply.Instrument 1
    ∷ Reply.Refused WrongKind ∷ Reply.Refused WrongNumber ∷ Reply.Refused UnknownInstrument
    ∷ Reply.Done ∷ Reply.Refused ReaderShutDown ∷ Reply.Refused UnknownReader ∷ []
unfolding canon
replies_to_observations = refl

-- ======== what a refusal does ========
pub refusals_are_replies : map (λ fault. reply_by fault Reply.Done) (None ∷ Some WrongKind ∷ []) ≡ Reply.Done ∷ Reply.Refused WrongKind ∷ []
refusals_are_replies = refl

abbrev middle : State
middle = record { shared = open_shared; readers = [] }

abbrev shut_middle : State
shut_middle = record { shared = shut_shared; readers = [] }

pub old_or_new : (after_by None middle shut_middle ≡ shut_middle) × (after_by (Some WrongKind) middle shut_middle ≡ middle)
old_or_new = (refl, refl)

-- a refused call changes nothing, one that is not refused does what it says
pub refused_bind : (after [] middle (Bind 2 []) ≡ middle) × (reply_of middle (Bind 2 []) ≡ Reply.Refused WrongKind)
refused_bind = (refl, refl)

pub accepted_bind : (after [] middle (Bind 0 []) ≡ record { shared = record open_shared { live = (5, 0) ∷ (7, 1) ∷ (8, 9) ∷ (9, 0) ∷ []; next = 10 }; readers = [] }) × (reply_of middle (Bind 0 []) ≡ Reply.Handle 9)
accepted_bind = (refl, refl)

pub accepted_shutdown : (after [] middle Shutdown ≡ shut_middle) × (after [] shut_middle Shutdown ≡ shut_middle) × (reply_of shut_middle Shutdown ≡ Reply.Refused AlreadyShutdown)
accepted_shutdown = (refl, refl, refl)
