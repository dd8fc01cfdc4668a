-- Worked rows on runs of callbacks. Many of them deny a run.
use Rattle.std.specs.Prelude.{◌≡◌, ℕ, ◌+◌, ℤ, pos, List, [], ◌∷◌, map, length, Result, Ok, Err}
use Rattle.std.proofs.Common.{refl, arith}
use Rattle.otel_common.specs.declared.attributes.KeyValue.{KeyValue}
use Rattle.otel_common.specs.declared.attributes.Value.TheVariants as value
use Rattle.otel_common.specs.declared.faults.Fault.{Fault}
use Rattle.otel_common.specs.declared.faults.Fault.TheVariants.{OutOfMemory, UnknownMeter, WrongNumber}
use Rattle.otel_data.specs.declared.numbers.NumberValue.TheVariants as number
use Rattle.otel_stream.specs.Runs.{Observes, of_instrument, Gives, RanOnce, Ran, RanTo, concat_lists, EndsWith, RanAll}
use Rattle.otel_stream.specs.declared.observation.Observation.{Observation}
use Rattle.otel_stream.specs.declared.observation.Observed.{Observed}
use Rattle.otel_stream.specs.declared.registered.Callback.{Callback}
use Rattle.otel_stream.specs.declared.registered.Callback.TheVariants.{U64, I64}
use Rattle.otel_stream.specs.declared.registered.Registered.{Registered}

-- ======== observations ========
abbrev x1 : List KeyValue
x1 = record { key = 120 ∷ []; value = value.I64 (pos 1) } ∷ []

abbrev seven : Observation ℕ
seven = record { value = 7; attributes = x1 }

abbrev minus : Observation ℤ
minus = record { value = pos 9; attributes = [] }

abbrev seen : Observed
seen = record { instrument = 3; value = number.U64 7; attributes = x1 }

abbrev seen_minus : Observed
seen_minus = record { instrument = 3; value = number.I64 (pos 9); attributes = [] }

pub of_number : (of_instrument number.U64 3 seven ≡ seen) × (of_instrument number.I64 3 minus ≡ seen_minus)
of_number = (refl, refl)

-- ======== what one run gives ========
pub gives_left : Gives (seen ∷ []) (Ok tt) (Ok (seen ∷ []))
gives_left = refl

pub gives_no_other : Gives (seen ∷ []) (Ok tt) (Ok []) → ⊥
gives_no_other e = cc

-- a callback that answered no fault may lack memory for its observations, and has no other fault
pub gives_without_memory : Gives (seen ∷ []) (Ok tt) (Err OutOfMemory)
gives_without_memory = refl

pub gives_no_other_want : Gives (seen ∷ []) (Ok tt) (Err WrongNumber) → ⊥
gives_no_other_want e = cc

pub gives_its_fault : Gives (seen ∷ []) (Err UnknownMeter) (Err UnknownMeter)
gives_its_fault = refl

pub gives_no_other_fault : Gives [] (Err UnknownMeter) (Err WrongNumber) → ⊥
gives_no_other_fault e = cc

pub gives_no_want_for_a_fault : Gives [] (Err UnknownMeter) (Err OutOfMemory) → ⊥
gives_no_want_for_a_fault e = cc

pub gives_nothing_after_a_fault : Gives [] (Err UnknownMeter) (Ok []) → ⊥
gives_nothing_after_a_fault h = h

-- ======== one callback ========
-- a callback is a number, which a run raises by one; it leaves one observation
abbrev counts : Observes ℕ ℕ
counts a b left answer = (b ≡ a + 1) × (left ≡ seven ∷ []) × (answer ≡ Ok tt)

abbrev counts_signed : Observes ℕ ℤ
counts_signed a b left answer = (b ≡ a + 1) × (left ≡ minus ∷ []) × (answer ≡ Ok tt)

-- and this one answers a fault
abbrev refuses : Observes ℕ ℕ
refuses a b left answer = (b ≡ a + 1) × (answer ≡ Err UnknownMeter)

abbrev Once : Callback ℕ ℕ → Callback ℕ ℕ → Result (List Observed) Fault → Type 0
Once = RanOnce counts counts_signed 3

pub once_u64 : Once (U64 1) (U64 2) (Ok (seen ∷ []))
once_u64 = (seven ∷ [], Ok tt, (refl, refl, refl), refl)

pub once_i64 : Once (I64 1) (I64 2) (Ok (seen_minus ∷ []))
once_i64 = (minus ∷ [], Ok tt, (refl, refl, refl), refl)

pub once_refused : RanOnce refuses counts_signed 3 (U64 1) (U64 2) (Err UnknownMeter)
once_refused = ([], Err UnknownMeter, (refl, refl), refl)

pub not_run : Once (U64 1) (U64 1) (Ok (seen ∷ [])) → ⊥
not_run h = absurd (omega (h.2.0, arith))

pub run_twice : Once (I64 1) (I64 3) (Ok (seen_minus ∷ [])) → ⊥
run_twice h = absurd (omega (h.2.0, arith))

pub another_type : Once (U64 1) (I64 2) (Ok (seen ∷ [])) → ⊥
another_type h = h

pub observation_lost : Once (U64 1) (U64 2) (Ok []) → ⊥
observation_lost h = lost h.0 h.1 h.2.1 h.2.2 h.3
  where
    lost : (left : List (Observation ℕ)) (answer : Result (Unit {0}) Fault) → left ≡ seven ∷ [] → answer ≡ Ok tt → Gives (map (of_instrument number.U64 3) left) answer (Ok []) → ⊥
    lost [] answer e f g = cc
    lost (o ∷ os) (Ok t) e f g = cc
    lost (o ∷ os) (Err q) e f g = g

abbrev registered : ℕ → ℕ → Registered ℕ ℕ
registered n c = record { instrument = n; callback = U64 c }

pub ran : Ran counts counts_signed (registered 3 1) (registered 3 2) (Ok (seen ∷ []))
ran = (refl, once_u64)

pub instrument_changed : Ran counts counts_signed (registered 3 1) (registered 4 2) (Ok (seen ∷ [])) → ⊥
instrument_changed h = absurd (omega (h.0, arith))

pub ran_not : Ran counts counts_signed (registered 3 1) (registered 3 1) (Ok (seen ∷ [])) → ⊥
ran_not h = not_run h.1

-- ======== the first ones ========
-- a run raises a number by one, and answers what it was
abbrev Raises : ℕ → ℕ → ℕ → Type 0
Raises a b r = (b ≡ a + 1) × (r ≡ a)

pub none_ran : RanTo Raises 0 (1 ∷ 5 ∷ []) (1 ∷ 5 ∷ []) []
none_ran = refl

pub first_ran : RanTo Raises 1 (1 ∷ 5 ∷ []) (2 ∷ 5 ∷ []) (1 ∷ [])
first_ran = ((refl, refl), refl)

pub both_ran : RanTo Raises 2 (1 ∷ 5 ∷ []) (2 ∷ 6 ∷ []) (1 ∷ 5 ∷ [])
both_ran = ((refl, refl), ((refl, refl), refl))

pub another_changed : RanTo Raises 1 (1 ∷ 5 ∷ []) (2 ∷ 6 ∷ []) (1 ∷ []) → ⊥
another_changed h = absurd (omega (fives h.1, arith))
  where
    fives : ◌≡◌ {A = List ℕ} (5 ∷ []) (6 ∷ []) → ◌≡◌ {A = ℕ} 5 6
    fives e = cc

pub first_left_out : RanTo Raises 1 (1 ∷ 5 ∷ []) (1 ∷ 6 ∷ []) (5 ∷ []) → ⊥
first_left_out h = absurd (omega (h.0.0, arith))

pub wrong_order : RanTo Raises 2 (1 ∷ 5 ∷ []) (2 ∷ 6 ∷ []) (5 ∷ 1 ∷ []) → ⊥
wrong_order h = absurd (omega (h.0.1, arith))

pub too_few_answers : RanTo Raises 1 (1 ∷ []) (1 ∷ []) [] → ⊥
too_few_answers h = h

pub too_many_answers : RanTo Raises 0 (1 ∷ []) (2 ∷ []) (1 ∷ []) → ⊥
too_many_answers h = h

pub one_too_many : RanTo Raises 1 (1 ∷ []) (2 ∷ 9 ∷ []) (1 ∷ []) → ⊥
one_too_many h = cc

pub one_lost : RanTo Raises 2 (1 ∷ 5 ∷ []) (2 ∷ []) (1 ∷ 5 ∷ []) → ⊥
one_lost h = h.1

-- ======== all ========
pub joined : concat_lists {B = ℕ} ((1 ∷ 2 ∷ []) ∷ [] ∷ (3 ∷ []) ∷ []) ≡ 1 ∷ 2 ∷ 3 ∷ []
joined = refl

abbrev Ends : List (Result (List ℕ) Fault) → Fault → Type 0
Ends = EndsWith

pub ends_without_memory : Ends [] OutOfMemory × Ends (Ok (1 ∷ []) ∷ []) OutOfMemory
ends_without_memory = (refl, refl)

pub ends_with_its_fault : Ends (Ok [] ∷ Err WrongNumber ∷ []) WrongNumber
ends_with_its_fault = refl

pub no_fault_of_none : Ends [] WrongNumber → ⊥
no_fault_of_none e = cc

pub no_fault_of_lists : Ends (Ok [] ∷ []) WrongNumber → ⊥
no_fault_of_lists e = cc

pub no_other_fault : Ends (Ok [] ∷ Err WrongNumber ∷ []) UnknownMeter → ⊥
no_other_fault e = cc

pub no_want_for_a_fault : Ends (Err WrongNumber ∷ []) OutOfMemory → ⊥
no_want_for_a_fault e = cc

pub nothing_behind_a_fault : Ends (Err WrongNumber ∷ Ok [] ∷ []) WrongNumber → ⊥
nothing_behind_a_fault h = h

-- a run gives a list with what the number was, or answers a fault
abbrev Lists : ℕ → ℕ → Result (List ℕ) Fault → Type 0
Lists a b r = (b ≡ a + 1) × (r ≡ Ok (a ∷ []))

abbrev Fails : ℕ → ℕ → Result (List ℕ) Fault → Type 0
Fails a b r = (b ≡ a + 1) × (r ≡ Err WrongNumber)

pub all_ran : RanAll Lists (1 ∷ 5 ∷ []) (2 ∷ 6 ∷ []) (Ok (1 ∷ 5 ∷ []))
all_ran = ((1 ∷ []) ∷ (5 ∷ []) ∷ [], ((refl, refl), ((refl, refl), refl)), refl)

pub first_failed : RanAll Fails (1 ∷ 5 ∷ []) (2 ∷ 5 ∷ []) (Err WrongNumber)
first_failed = (Err WrongNumber ∷ [], ((refl, refl), refl), refl)

pub ran_without_memory : RanAll Lists (1 ∷ 5 ∷ []) (2 ∷ 5 ∷ []) (Err OutOfMemory)
ran_without_memory = (Ok (1 ∷ []) ∷ [], ((refl, refl), refl), refl)

pub last_left_out : RanAll Lists (1 ∷ 5 ∷ []) (2 ∷ 5 ∷ []) (Ok (1 ∷ [])) → ⊥
last_left_out h = left_out h.0 h.1
  where
    left_out : (ls : List (List ℕ)) → RanTo Lists 2 (1 ∷ 5 ∷ []) (2 ∷ 5 ∷ []) (map Ok ls) → ⊥
    left_out [] r = r
    left_out (l ∷ []) r = r.1
    left_out (l ∷ k ∷ ks) r = absurd (omega (r.1.0.0, arith))

pub invented_fault : RanAll Lists (1 ∷ []) (2 ∷ []) (Err WrongNumber) → ⊥
invented_fault h = invented h.0 h.1 h.2
  where
    invented : (rs : List (Result (List ℕ) Fault)) → RanTo Lists (length rs) (1 ∷ []) (2 ∷ []) rs → EndsWith rs WrongNumber → ⊥
    invented [] r e = cc
    invented (Ok l ∷ []) r e = cc
    invented (Err f ∷ []) r e = let q : ◌≡◌ {A = Result (List ℕ) Fault} (Err f) (Ok (1 ∷ [])) = r.0.1 in cc
    invented (q ∷ p ∷ rs) r e = r.1

-- what stands behind a callback that failed has not run
pub ran_on : RanAll Fails (1 ∷ 5 ∷ []) (2 ∷ 6 ∷ []) (Err WrongNumber) → ⊥
ran_on h = on h.0 h.1 h.2
  where
    on : (rs : List (Result (List ℕ) Fault)) → RanTo Fails (length rs) (1 ∷ 5 ∷ []) (2 ∷ 6 ∷ []) rs → EndsWith rs WrongNumber → ⊥
    on [] r e = cc
    on (q ∷ []) r e = cc
    on (Ok l ∷ p ∷ rs) r e = let s : ◌≡◌ {A = Result (List ℕ) Fault} (Ok l) (Err WrongNumber) = r.0.1 in cc
    on (Err f ∷ p ∷ rs) r e = e
