-- What calls do to a provider's readers (Metrics SDK, "ForceFlush", "Shutdown").
use Rattle.std.specs.Prelude.{◌≡◌, ℕ, Bool, true, false, List, [], ◌∷◌, Err}
use Rattle.otel_common.specs.declared.faults.Fault.TheVariants.{AlreadyShutdown}
use Rattle.otel_model.specs.Calls.{Call, Reply, Flush, Shutdown}
use Rattle.otel_stream.specs.Requests.{Outcome, AllAsked, default_timeout}
use Rattle.opentelemetry_sdk.specs.Correspondence.{reply_to}

-- a flush or a shutdown: each reader was asked exactly once; or none, if the provider was already shut down
abbrev pub AreReached : {R : Type 0} → (R → R → Outcome → Type 0) → Bool → List R → List R → Outcome → Type 0
AreReached does true before after outcome = (outcome ≡ Err AlreadyShutdown) × (after ≡ before)
AreReached does false before after outcome = AllAsked does before after outcome

-- what a shutdown does to one reader: it has the default timeout
abbrev pub ShutsDown : {R : Type 0} → (R → ℕ → R → Outcome → Type 0) → R → R → Outcome → Type 0
ShutsDown shuts before after outcome = shuts before default_timeout after outcome

-- a flush or a shutdown, and its reply
abbrev pub AreReachedBy : {R : Type 0} → (R → R → Outcome → Type 0) → Bool → List R → Reply → List R → Type 0
AreReachedBy does shut before reply after = (outcome : Outcome) × (reply ≡ reply_to outcome) × AreReached does shut before after outcome

-- one call of a provider, where `shut` says whether it was already shut down: a flush or a shutdown reaches the
-- readers, and any other call leaves them as they were
abbrev pub StepReaches : {R : Type 0} → (R → R → Outcome → Type 0) → (R → ℕ → R → Outcome → Type 0) → Bool → Call → List R → Reply → List R → Type 0
StepReaches flushes shuts shut Flush before reply after = AreReachedBy flushes shut before reply after
StepReaches flushes shuts shut Shutdown before reply after = AreReachedBy (ShutsDown shuts) shut before reply after
StepReaches flushes shuts shut call before reply after = after ≡ before

-- whether a provider is shut down after a call, given whether it was before
abbrev pub shut_after : Bool → Call → Bool
shut_after shut Shutdown = true
shut_after shut call = shut

-- a list of calls, each of which finds the readers as the call before left them
abbrev pub RunReaches : {R : Type 0} → (R → R → Outcome → Type 0) → (R → ℕ → R → Outcome → Type 0) → Bool → List Call → List R → List Reply → List R → Type 0
RunReaches flushes shuts shut [] before [] after = after ≡ before
RunReaches {R} flushes shuts shut (call ∷ calls) before (reply ∷ replies) after = (between : List R) × StepReaches flushes shuts shut call before reply between × RunReaches flushes shuts (shut_after shut call) calls between replies after
RunReaches flushes shuts shut calls before replies after = ⊥
