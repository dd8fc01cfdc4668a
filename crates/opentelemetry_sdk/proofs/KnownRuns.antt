-- Runs, one call more, with the readers that their calls leave, in which no known call is refused for lack of memory.
use Rattle.std.proofs.Common.{◌≡◌, ℕ, ◌+◌, ◌<◌, ◌≤◌, List, [], ◌∷◌, ◌++◌, map, length, take, get_or, refl, sym, ◌∙◌, ap, subst, ⊎_elim, true≢false}
use Rattle.std.proofs.lemmas.List.{take_all, take_more}
use Rattle.otel_model.specs.Calls as model
use Rattle.otel_model.specs.Demands.{Views}
use Rattle.otel_model.specs.State.{State}
use Rattle.otel_model.specs.Steps.{Step, Run}
use Rattle.otel_model.proofs.Single.{step_cases}
use Rattle.otel_stream.specs.Requests.{Outcome}
use Rattle.opentelemetry_sdk.specs.Correspondence.{call_of, reply_of}
use Rattle.opentelemetry_sdk.specs.Known.{IsKnown, HasMemory, EachKnownHasMemory}
use Rattle.opentelemetry_sdk.specs.Readers.{StepReaches, RunReaches}
use Rattle.opentelemetry_sdk.specs.declared.calls.Call.{Call}
use Rattle.opentelemetry_sdk.specs.declared.calls.Reply.{Reply}
use Rattle.opentelemetry_sdk.proofs.Reached.{shut-step}

module _ (views : Views) where
  -- a call with its reply leads to one state
  step-alike : (old a b : State) (call : model.Call) (reply : model.Reply) → Step views old call reply a → Step views old call reply b → a ≡ b
  step-alike old a b call reply s t = ⊎_elim
      (λ p. ⊎_elim (λ q. p.1 ∙ sym q.1) (λ q. absurd (true≢false (sym p.0 ∙ q.0))) (step_cases views old b call reply t))
      (λ p. ⊎_elim (λ q. absurd (true≢false (sym q.0 ∙ p.0))) (λ q. p.1 ∙ sym q.1) (step_cases views old b call reply t))
      (step_cases views old a call reply s)

  module _ {R : Type 0} (flushes : R → R → Outcome → Type 0) (shuts : R → ℕ → R → Outcome → Type 0) where
    -- one call on a state with readers
    abbrev IsNext : Call → Reply → State × List R → State × List R → Type 0
    IsNext call reply old new = Step views old.0 (call_of call) (reply_of reply) new.0 × (IsKnown old.0 (call_of call) → HasMemory reply) × StepReaches flushes shuts old.0.shared.shut (call_of call) old.1 (reply_of reply) new.1

    abbrev pub KnownRun : State × List R → List Call → List Reply → State × List R → Type 0
    KnownRun old [] [] new = new ≡ old
    KnownRun old (call ∷ calls) (reply ∷ replies) new = (mid : State × List R) × IsNext call reply old mid × KnownRun mid calls replies new
    KnownRun old calls replies new = ⊥

    known-push : (calls : List Call) (replies : List Reply) (old mid new : State × List R) (call : Call) (reply : Reply) → KnownRun old calls replies mid → IsNext call reply mid new → KnownRun old (calls ++ call ∷ []) (replies ++ reply ∷ []) new
    known-push [] [] old mid new call reply run next = (new, subst (λ x. IsNext call reply x new) run next, refl)
    known-push (c ∷ calls) (r ∷ replies) old mid new call reply run next = (run.0, run.1, known-push calls replies run.0 mid new call reply run.2 next)
    known-push calls replies old mid new call reply run next = absurd run

    -- the calls so far and one more
    pub known-more : (calls : List Call) (i : ℕ) (call : Call) (replies more : List Reply) (old mid new : State × List R) (reply : Reply) → i < length calls → call ≡ get_or calls i call → more ≡ replies ++ reply ∷ []
        → KnownRun old (take i calls) replies mid → IsNext call reply mid new → KnownRun old (take (i + 1) calls) more new
    known-more calls i call replies more old mid new reply h at e run next =
        let longer : take (i + 1) calls ≡ take i calls ++ call ∷ [] = take_more calls i call h ∙ ap (λ x. take i calls ++ x ∷ []) (sym at) in
        rw (longer, e) (known-push (take i calls) replies old mid new call reply run next)

    -- it is a run, and the readers are those that it reaches
    run-of : (calls : List Call) (replies : List Reply) (old new : State × List R) → KnownRun old calls replies new → Run views old.0 (map call_of calls) (map reply_of replies) new.0
    run-of [] [] old new run = ap (λ (x : State × List R). x.0) run
    run-of (c ∷ calls) (r ∷ replies) old new run = (run.0.0, run.1.0, run-of calls replies run.0 new run.2)
    run-of calls replies old new run = absurd run

    reached-by : (calls : List Call) (replies : List Reply) (old new : State × List R) → KnownRun old calls replies new → RunReaches flushes shuts old.0.shared.shut (map call_of calls) old.1 (map reply_of replies) new.1
    reached-by [] [] old new run = ap (λ (x : State × List R). x.1) run
    reached-by (c ∷ calls) (r ∷ replies) old new run = (
      run.0.1,
      run.1.2,
      subst (λ b. RunReaches flushes shuts b (map call_of calls) run.0.1 (map reply_of replies) new.1) (shut-step views old.0 run.0.0 (call_of c) (reply_of r) run.1.0) (reached-by calls replies run.0 new run.2),
    )
    reached-by calls replies old new run = absurd run

    -- the state between calls is that of any run of those before
    known-between : (before later : List Call) (call : Call) (earlier next : List Reply) (reply : Reply) (old new : State × List R) (mid : State)
        → KnownRun old (before ++ call ∷ later) (earlier ++ reply ∷ next) new → Run views old.0 (map call_of before) (map reply_of earlier) mid → IsKnown mid (call_of call) → HasMemory reply
    known-between [] later call [] next reply old new mid run first known = run.1.1 (subst (λ st. IsKnown st (call_of call)) first known)
    known-between (c ∷ before) later call (r ∷ earlier) next reply old new mid run first known =
        let same : first.0 ≡ run.0.0 = step-alike old.0 first.0 run.0.0 (call_of c) (reply_of r) first.1 run.1.0 in
        known-between before later call earlier next reply run.0 new mid run.2 (subst (λ st. Run views st (map call_of before) (map reply_of earlier) mid) same first.2) known
    known-between before later call earlier next reply old new mid run first known = absurd first

    each-known : (calls : List Call) (replies : List Reply) (old new : State × List R) → KnownRun old calls replies new → EachKnownHasMemory views old.0 calls replies
    each-known calls replies old new run before later call earlier next reply mid e f first =
        known-between before later call earlier next reply old new mid (subst (λ rs. KnownRun old (before ++ call ∷ later) rs new) f (subst (λ cs. KnownRun old cs replies new) e run)) first

    -- what it says of all the calls
    pub all-made : (calls : List Call) (i : ℕ) (replies : List Reply) (old new : State × List R) → length calls ≤ i → KnownRun old (take i calls) replies new
        → Run views old.0 (map call_of calls) (map reply_of replies) new.0 × EachKnownHasMemory views old.0 calls replies × RunReaches flushes shuts old.0.shared.shut (map call_of calls) old.1 (map reply_of replies) new.1
    all-made calls i replies old new le run =
        let whole = subst (λ cs. KnownRun old cs replies new) (take_all i calls le) run in
        (run-of calls replies old new whole, each-known calls replies old new whole, reached-by calls replies old new whole)
