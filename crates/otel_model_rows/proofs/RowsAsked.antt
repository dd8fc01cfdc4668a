-- Worked rows on what all readers are asked. Some of them deny an answer.
use Rattle.std.specs.Prelude.{◌≡◌, ℕ, ◌+◌, List, [], ◌∷◌, map, Some, None, Ok, Err}
use Rattle.std.proofs.Common.{refl, arith}
use Rattle.otel_common.specs.declared.faults.Fault.TheVariants.{OutOfMemory, AlreadyShutdown, InternalFailure}
use Rattle.otel_common.specs.declared.faults.InternalFault.TheVariants.{Readers}
use Rattle.otel_stream.specs.Requests.{Outcome, default_timeout, EachAsked, failures, first_failure, outcome_by, outcome_of, AllAsked}

pub five_seconds : default_timeout ≡ 5000000000
five_seconds = refl

-- ======== answers ========
abbrev done : Outcome
done = Ok tt

abbrev failed : Outcome
failed = Err OutOfMemory

-- two readers failed, and the first of them is the second one
abbrev two_failed : List Outcome
two_failed = done ∷ failed ∷ done ∷ Err AlreadyShutdown ∷ []

abbrev none_failed : List Outcome
none_failed = done ∷ done ∷ []

pub numbers_failed : map failures (two_failed ∷ none_failed ∷ [] ∷ []) ≡ 2 ∷ 0 ∷ 0 ∷ []
numbers_failed = refl

pub first_ones : map first_failure (two_failed ∷ none_failed ∷ [] ∷ (failed ∷ []) ∷ []) ≡ Some 1 ∷ None ∷ None ∷ Some 0 ∷ []
first_ones = refl

pub answered : (outcome_by 2 (Some 1) ≡ Err (InternalFailure (Readers 2 1))) × (outcome_by 0 None ≡ done)
answered = (refl, refl)

pub outcomes : map outcome_of (two_failed ∷ none_failed ∷ [] ∷ []) ≡ Err (InternalFailure (Readers 2 1)) ∷ done ∷ done ∷ []
outcomes = refl

-- ======== requests ========
-- a reader is a number, which a flush raises by one and a shutdown by its timeout
abbrev pub Flushes : ℕ → ℕ → Outcome → Type 0
Flushes a b outcome = (b ≡ a + 1) × (outcome ≡ done)

abbrev pub Shuts : ℕ → ℕ → ℕ → Outcome → Type 0
Shuts a timeout b outcome = (b ≡ a + timeout) × (outcome ≡ done)

-- ======== many readers ========
pub each_asked : EachAsked Flushes (1 ∷ 5 ∷ []) (2 ∷ 6 ∷ []) none_failed
each_asked = ((refl, refl), ((refl, refl), tt))

pub one_left_out : EachAsked Flushes (1 ∷ 5 ∷ []) (2 ∷ 5 ∷ []) none_failed → ⊥
one_left_out h = absurd (omega (h.1.0.0, arith))

pub one_asked_twice : EachAsked Flushes (1 ∷ []) (3 ∷ []) (done ∷ []) → ⊥
one_asked_twice h = absurd (omega (h.0.0, arith))

pub one_lost : EachAsked Flushes (1 ∷ 5 ∷ []) (2 ∷ []) (done ∷ []) → ⊥
one_lost h = h.1

pub one_more : EachAsked Flushes (1 ∷ []) (2 ∷ 6 ∷ []) (done ∷ []) → ⊥
one_more h = h.1

pub answer_too_many : EachAsked Flushes [] [] (done ∷ []) → ⊥
answer_too_many h = h

pub answer_missing : EachAsked Flushes (1 ∷ []) (2 ∷ []) [] → ⊥
answer_missing h = h

pub answer_of_another : EachAsked Flushes (1 ∷ []) (2 ∷ []) (failed ∷ []) → ⊥
answer_of_another h = let e : ◌≡◌ {A = Outcome} failed done = h.0.1 in cc

pub all_asked : AllAsked Flushes (1 ∷ 5 ∷ []) (2 ∷ 6 ∷ []) done
all_asked = (none_failed, each_asked, refl)

pub no_reader_asked : AllAsked Flushes [] [] done
no_reader_asked = ([], tt, refl)

pub last_left_out : AllAsked Flushes (1 ∷ 5 ∷ []) (2 ∷ 5 ∷ []) done → ⊥
last_left_out h = left_out h.0 h.1
  where
    left_out : (answers : List Outcome) → EachAsked Flushes (1 ∷ 5 ∷ []) (2 ∷ 5 ∷ []) answers → ⊥
    left_out [] r = r
    left_out (a ∷ []) r = r.1
    left_out (a ∷ b ∷ bs) r = absurd (omega (r.1.0.0, arith))

pub invented_answer : AllAsked Flushes (1 ∷ []) (2 ∷ []) failed → ⊥
invented_answer h = invented h.0 h.1 h.2
  where
    invented : (answers : List Outcome) → EachAsked Flushes (1 ∷ []) (2 ∷ []) answers → failed ≡ outcome_of answers → ⊥
    invented [] r e = r
    invented (a ∷ b ∷ bs) r e = r.1
    invented (Err f ∷ []) r e = let q : ◌≡◌ {A = Outcome} (Err f) done = r.0.1 in cc
    invented (Ok t ∷ []) r e = let q : ◌≡◌ {A = Outcome} failed done = e in cc

pub one_asked : {R : Type 0} (P : R → R → Outcome → Type 0) (before after : R) → P before after done → AllAsked P (before ∷ []) (after ∷ []) done
one_asked P before after h = (done ∷ [], (h, tt), refl)
