-- No reader is lost, and none changes what it answered.
use Rattle.std.proofs.Common.{◌≡◌, ⊎_elim, ℕ, zero, suc, List, [], ◌∷◌, length, map, refl, ◌∙◌, ap, Option, Some, None, fold}
use Rattle.otel_common.specs.declared.scopes.InstrumentationScope.{InstrumentationScope}
use Rattle.otel_model.specs.Calls.{About, Call, Meter, Build, Record, Bind, RecordBound, Unbind, Collect, Flush, Shutdown, Fault}
use Rattle.otel_model.specs.Demands.{Demand, ReaderAnswers, Views}
use Rattle.otel_model.specs.State.{Shared, ReaderPart, State}
use Rattle.otel_model.specs.Refusals.{refusal}
use Rattle.otel_model.specs.Sent.{scope_of}
use Rattle.otel_model.specs.Machine.{changed_at, part_after_demand, build_demands, part_after_build, part_after_call, readers_after, accepted_after}
use Rattle.otel_model.specs.Steps.{after_by, after}
use Rattle.otel_model.specs.Laws.{answers_in, KeepsReaders, AreReadersKept, AreReadersKeptAtOnce}
use Rattle.otel_model.proofs.Single.{step_cases}

abbrev answers_of : List ReaderPart → List ReaderAnswers
answers_of ps = map (λ (p : ReaderPart). p.answers) ps

demanded_kept : (now : ℕ) (ds : List Demand) (p : ReaderPart) → (fold (part_after_demand now) p ds).answers ≡ p.answers
demanded_kept now [] p = refl
demanded_kept now (d ∷ ds) p = demanded_kept now ds (part_after_demand now p d)

map_kept : (f : ReaderPart → ReaderPart) → ((p : ReaderPart) → (f p).answers ≡ p.answers) → (ps : List ReaderPart) → answers_of (map f ps) ≡ answers_of ps
map_kept f same [] = refl
map_kept f same (p ∷ ps) = λ i. same p i ∷ map_kept f same ps i

changed_kept : (f : ReaderPart → ReaderPart) → ((p : ReaderPart) → (f p).answers ≡ p.answers) → (n : ℕ) (ps : List ReaderPart) → answers_of (changed_at n f ps) ≡ answers_of ps
changed_kept f same n [] = refl
changed_kept f same zero (p ∷ ps) = λ i. same p i ∷ answers_of ps
changed_kept f same (suc n) (p ∷ ps) = ap (λ l. p.answers ∷ l) (changed_kept f same n ps)

sent_kept : (next : ℕ) (call : Call) (p : ReaderPart) → (part_after_call next call p).answers ≡ p.answers
sent_kept next call p = refl

built_kept : (views : Views) (scope : Option InstrumentationScope) (about : About) (now : ℕ) (p : ReaderPart) → (part_after_build views scope about now p).answers ≡ p.answers
built_kept views scope about now p = demanded_kept now (build_demands views p scope about) p

readers_kept : (views : Views) (s : Shared) (call : Call) (ps : List ReaderPart) → answers_of (readers_after views s call ps) ≡ answers_of ps
readers_kept views s (Meter scope) ps = refl
readers_kept views s (Build meter about now) ps = map_kept (part_after_build views (scope_of s.meters meter) about now) (built_kept views (scope_of s.meters meter) about now) ps
readers_kept views s (Record n v l) ps = map_kept (part_after_call s.next (Record n v l)) (sent_kept s.next (Record n v l)) ps
readers_kept views s (Bind n l) ps = map_kept (part_after_call s.next (Bind n l)) (sent_kept s.next (Bind n l)) ps
readers_kept views s (RecordBound h v) ps = map_kept (part_after_call s.next (RecordBound h v)) (sent_kept s.next (RecordBound h v)) ps
readers_kept views s (Unbind h) ps = map_kept (part_after_call s.next (Unbind h)) (sent_kept s.next (Unbind h)) ps
readers_kept views s (Collect r now os) ps = changed_kept (part_after_call s.next (Collect r now os)) (sent_kept s.next (Collect r now os)) r ps
readers_kept views s Flush ps = refl
readers_kept views s Shutdown ps = refl

after_kept : (views : Views) (st : State) (call : Call) → KeepsReaders st (after views st call)
after_kept views st call = go (refusal st.shared (length st.readers) call)
  where
    go : (o : Option Fault) → KeepsReaders st (after_by o st (accepted_after views st call))
    go None = readers_kept views st.shared call st.readers
    go (Some f) = refl

pub kept_at_once : AreReadersKeptAtOnce
kept_at_once views old call reply new step = ⊎_elim
    (λ e. ap answers_in e.1)
    (λ e. ap answers_in e.1 ∙ after_kept views old call)
    (step_cases views old new call reply step)

pub kept_law : AreReadersKept
kept_law views old [] [] new run = ap answers_in run
kept_law views old [] (reply ∷ replies) new run = absurd run
kept_law views old (call ∷ calls) [] new run = absurd run
kept_law views old (call ∷ calls) (reply ∷ replies) new run = kept_law views run.0 calls replies new run.2 ∙ kept_at_once views old call reply run.0 run.1
