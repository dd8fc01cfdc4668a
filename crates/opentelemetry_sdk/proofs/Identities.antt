-- No call changes a provider's identity.
use Rattle.std.proofs.Common.{◌≡◌, ◌∙◌, List, [], ◌∷◌, refl, ap}
use Rattle.otel_model.specs.Calls as model
use Rattle.otel_model.specs.Demands.{Views}
use Rattle.otel_model.specs.Machine.{shared_after}
use Rattle.otel_model.specs.State.{Shared, State}
use Rattle.otel_model.specs.Steps.{Step, Run}
use Rattle.opentelemetry_sdk.proofs.Stepped.{step-holds}

shared_identity : (s : Shared) (call : model.Call) → (shared_after s call).identity ≡ s.identity
shared_identity s (model.Call.Meter scope) = refl
shared_identity s call = refl

-- no call changes it
pub step_identity : (views : Views) (old : State) (call : model.Call) (reply : model.Reply) (new : State) → Step views old call reply new → new.shared.identity ≡ old.shared.identity
step_identity views old call reply new step = step-holds (λ (st : State). st.shared.identity ≡ old.shared.identity) views old new call reply refl (shared_identity old.shared call) step

pub run_identity : (views : Views) (old : State) (calls : List model.Call) (replies : List model.Reply) (new : State) → Run views old calls replies new → new.shared.identity ≡ old.shared.identity
run_identity views old [] [] new run = ap (λ (st : State). st.shared.identity) run
run_identity views old (call ∷ calls) (reply ∷ replies) new run = run_identity views run.0 calls replies new run.2 ∙ step_identity views old call reply run.0 run.1
run_identity views old calls replies new run = absurd run
