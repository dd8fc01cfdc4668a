-- What readers are asked to do, and what they answer (Metrics SDK, "ForceFlush", "Shutdown").
use Rattle.std.specs.Prelude.{◌≡◌, ℕ, ◌*◌, List, [], ◌∷◌, Option, Some, None, Result, Ok, Err, is_err}
use Rattle.std.specs.List.{position_from, count_by}
use Rattle.otel_common.specs.declared.faults.Fault.{Fault}
use Rattle.otel_common.specs.declared.faults.Fault.TheVariants.{InternalFailure}
use Rattle.otel_common.specs.declared.faults.InternalFault.TheVariants.{Readers}
use Rattle.otel_common.specs.declared.metrics.Aggregation.{Aggregation}
use Rattle.otel_common.specs.declared.metrics.Temporality.{Temporality}
use Rattle.otel_stream.specs.declared.instrument.InstrumentKind.{InstrumentKind}

-- what a reader answers: that it is done, or why not
abbrev pub Outcome : Type 0
Outcome = Result (Unit {0}) Fault

-- the timeout of a shutdown that is given none: five seconds, in nanoseconds
abbrev pub default_timeout : ℕ
default_timeout = 5 * 1_000_000_000

-- ======== many readers ========
-- each reader was asked once, and these are their answers, one for each
abbrev pub EachAsked : {R : Type 0} → (R → R → Outcome → Type 0) → List R → List R → List Outcome → Type 0
EachAsked P [] [] [] = Unit {0}
EachAsked P (a ∷ before) (b ∷ after) (answer ∷ answers) = P a b answer × EachAsked P before after answers
EachAsked P _ _ _ = ⊥

-- how many failed
abbrev pub failures : List Outcome → ℕ
failures answers = count_by is_err answers

-- the number of the first that failed, if any did
abbrev pub first_failure : List Outcome → Option ℕ
first_failure answers = position_from is_err 0 answers

-- the answer for all readers: done if there is no first failure, or else how many failed and which was the first
abbrev pub outcome_by : ℕ → Option ℕ → Outcome
outcome_by failed None = Ok tt
outcome_by failed (Some first) = Err (InternalFailure (Readers failed first))

-- done if none failed, or else how many failed and the number of the first
abbrev pub outcome_of : List Outcome → Outcome
outcome_of answers = outcome_by (failures answers) (first_failure answers)

-- all readers were asked, and this is the answer for all of them
abbrev pub AllAsked : {R : Type 0} → (R → R → Outcome → Type 0) → List R → List R → Outcome → Type 0
AllAsked P before after outcome = (answers : List Outcome) × EachAsked P before after answers × (outcome ≡ outcome_of answers)

-- ======== what readers want ========
-- what a reader wants for each kind of instrument: a temporality, and perhaps a limit and an aggregation
pub record Wanted : Type 0 where
  pub temporality : InstrumentKind → Temporality
  pub limit : InstrumentKind → Option ℕ
  pub aggregation : InstrumentKind → Option Aggregation

-- what a reader wants, as these three functions say
abbrev pub wanted_by : {R : Type 0} → (R → InstrumentKind → Temporality) → (R → InstrumentKind → Option ℕ) → (R → InstrumentKind → Option Aggregation) → R → Wanted
wanted_by preference limit aggregation reader = record { temporality = preference reader; limit = limit reader; aggregation = aggregation reader }
