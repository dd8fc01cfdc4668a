-- Calls and runs keep readers, whatever is called.
use Rattle.std.proofs.Common.{◌≡◌, ⊎_elim, ℕ, List, ap, Result, Ok, Err, IfOk, OnErr}
use Rattle.std.proofs.lemmas.Bool.{cases_eq}
use Rattle.otel_common.specs.declared.faults.Fault.{Fault}
use Rattle.otel_model.specs.Calls as model
use Rattle.otel_model.specs.Demands.{Views}
use Rattle.otel_model.specs.Laws.{answers_in, KeepsReaders}
use Rattle.otel_model.specs.State.{State}
use Rattle.otel_model.specs.Steps.{Step, Run}
use Rattle.otel_model.proofs.Kept.{kept_at_once, kept_law}

-- a call that names a provider: one of another identity stays as it was
pub kept_named : {R : Type 0} (identity : ℕ) (views : Views) (old : State) (call : model.Call) (reply : model.Reply) (new : State)
    → (identity ≡ old.shared.identity → Step views old call reply new) → (¬ (identity ≡ old.shared.identity) → R × (new ≡ old)) → KeepsReaders old new
kept_named identity views old call reply new own foreign = ⊎_elim
    (λ is. kept_at_once views old call reply new (own is))
    (λ other. ap answers_in (foreign other).1)
    (cases_eq identity old.shared.identity)

-- where nothing was made the state is the old one
pub kept_run : {T : Type 0} (views : Views) (r : Result T Fault) (calls : List model.Call) (replies : T → List model.Reply) (old new : State)
    → IfOk r (λ t. Run views old calls (replies t) new) → OnErr r (new ≡ old) → KeepsReaders old new
kept_run views (Ok t) calls replies old new run same = kept_law views old calls (replies t) new run
kept_run views (Err f) calls replies old new run same = ap answers_in same
