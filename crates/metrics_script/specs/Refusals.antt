-- Why a line of a script can't be read.
use Rattle.std.specs.Prelude.{ℕ, List, Some}
use Rattle.std.specs.Borrow.{Bor}
use Rattle.metrics_script.specs.declared.reasons.Reason.{Reason}
use Rattle.metrics_script.specs.declared.refusals.Refusal.{Refusal}
use Rattle.metrics_script.specs.declared.refusals.Refusal.TheVariants.{BadCommand}

-- this word is wrong for this reason
abbrev pub wrong_word : Bor (List ℕ) → Reason → Refusal
wrong_word word reason = BadCommand (record { word = Some word; reason = reason })

-- the word cannot be read
abbrev pub StandsForNothing : {X : Type 0} → (List ℕ → X → Type 0) → List ℕ → Type 0
StandsForNothing {X} Reads word = (x : X) → ¬ Reads word x
