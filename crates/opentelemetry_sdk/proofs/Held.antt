-- Handles at all readers, and the calls on them as the machine makes them.
use Rattle.std.proofs.Common.{◌≡◌, ℕ, ◌+◌, ◌<◌, ◌==◌, false, cond, List, [], ◌∷◌, ◌++◌, map, length, get_or, Option, Some, None, slice_get, nat_eq, refl, sym, ◌∙◌, ap, arith, ne_eqb, All}
use Rattle.std.proofs.lemmas.Bool.Decides.{nat_tests}
use Rattle.std.proofs.lemmas.Option.{slice_get-get_or}
use Rattle.std.specs.List.{AllByRecursion as EachOf}
use Rattle.std.specs.Map.{lookup, remove_entry}
use Rattle.otel_common.specs.declared.attributes.KeyValue.{KeyValue}
use Rattle.otel_model.specs.Calls as model
use Rattle.otel_model.specs.Calls.{is_observable}
use Rattle.otel_model.specs.Demands.{Views}
use Rattle.otel_model.specs.Machine as machine
use Rattle.otel_model.specs.Machine.{part_after_call, accepted_by, without_handle}
use Rattle.otel_model.specs.Refusals.{bind_refusal, instrument_held, held_refusal, handle_refusal, unbind_refusal}
use Rattle.otel_model.specs.State.{InstrumentState, LiveHandle, Shared, ReaderPart, State}
use Rattle.otel_model.specs.Steps.{Step, reply_by, after_by}
use Rattle.otel_model.specs.Lawful.{HandlesAreSound, PartIsLawful, TakesRecords}
use Rattle.otel_model.proofs.Amounts.{each_at, each_weaker}
use Rattle.otel_model.proofs.Single.{get_map}
use Rattle.otel_model.proofs.Handles.{unfed-unheld, later-unheld}
use Rattle.otel_data.specs.declared.numbers.NumberValue.{NumberValue}
use Rattle.otel_aggregate.specs.Any.{is_signed_value}
use Rattle.otel_aggregate.proofs.All.{all-found}
use Rattle.opentelemetry_sdk.specs.declared.pipeline.change.Change.TheVariants as change
use Rattle.opentelemetry_sdk.specs.pipeline.Handles.{FeedsSynchronous, IsNewAt, IsHeldByFed, StandsFor}
use Rattle.opentelemetry_sdk.specs.pipeline.Pipelines.{FeedsType, Piped, number_of, part_of}
use Rattle.opentelemetry_sdk.specs.States.{AreTyped, IsTyped}

-- ======== all readers ========
-- what holds at each reader holds at one
pub each-at : (P : ReaderPart → Type 0) (ps : List Piped) (i : ℕ) (d : Piped) → i < length ps → EachOf P (map part_of ps) → P (part_of (get_or ps i d))
each-at P ps i d h all = each_at P (map part_of ps) i (part_of (get_or ps i d)) all (get_map part_of ps i (get_or ps i d) (slice_get-get_or ps i d h))

-- a record through a handle is the call at each reader
pub held-stands : (n h place : ℕ) (value : NumberValue) (ps : List Piped) → EachOf (FeedsType n (is_signed_value value)) (map part_of ps) → EachOf (FeedsSynchronous n) (map part_of ps) → EachOf (IsHeldByFed n h) (map part_of ps)
    → All (StandsFor n (change.Held h place value) 0 (model.Call.RecordBound h (number_of value))) ps
held-stands n h place value ps typed sync held i d l = (refl, each-at (FeedsType n (is_signed_value value)) ps i d l typed, each-at (FeedsSynchronous n) ps i d l sync, each-at (IsHeldByFed n h) ps i d l held)

-- and so is its end
pub unbind-stands : (n h : ℕ) (ps : List Piped) → EachOf (FeedsSynchronous n) (map part_of ps) → EachOf (IsHeldByFed n h) (map part_of ps) → All (StandsFor n (change.Unbind h) 0 (model.Call.Unbind h)) ps
unbind-stands n h ps sync held i d l = (refl, each-at (FeedsSynchronous n) ps i d l sync, each-at (IsHeldByFed n h) ps i d l held)

-- ======== what is known of handles ========
-- no stream has the next handle
pub next-new : (s : Shared) (ps : List ReaderPart) → HandlesAreSound s → EachOf (PartIsLawful s.live s.instruments) ps → EachOf (IsNewAt s.next) ps
next-new s ps sound all = each_weaker (PartIsLawful s.live s.instruments) (IsNewAt s.next) ps (λ p is. later-unheld s p s.next (omega arith) sound is) all

-- a stream that the handle's instrument does not feed doesn't have it
pub held-fed : (s : Shared) (h n : ℕ) (ps : List ReaderPart) → HandlesAreSound s → instrument_held h s.live ≡ Some n → EachOf (PartIsLawful s.live s.instruments) ps → EachOf (IsHeldByFed n h) ps
held-fed s h n ps sound at all = each_weaker (PartIsLawful s.live s.instruments) (IsHeldByFed n h) ps (λ p is. unfed-unheld s p h n sound is at) all

-- the handle of a number, as a map of handles has it
test-is : (h k : ℕ) → (k == h) ≡ nat_eq h k
test-is h k = grind (arith, nat_tests)

pub held-lookup : (h : ℕ) (live : List LiveHandle) → instrument_held h live ≡ lookup (nat_eq h) live
held-lookup h [] = refl
held-lookup h (p ∷ ps) = λ i. cond (test-is h p.0 i) (Some p.1) (held-lookup h ps i)

-- the instrument of a live handle takes in records, so it feeds no observable stream
pub synchronous-held : (s : Shared) (h n : ℕ) (ps : List ReaderPart) → HandlesAreSound s → instrument_held h s.live ≡ Some n → AreTyped s.instruments ps → EachOf (FeedsSynchronous n) ps
synchronous-held s h n ps sound at all =
    let takes = (all-found (λ (p : LiveHandle). TakesRecords s.instruments p.1) (nat_eq h) s.live n (sym (held-lookup h s.live) ∙ at) sound.synchronous).2 in
    each_weaker (IsTyped s.instruments) (FeedsSynchronous n) ps (λ p typed x fed. ap is_observable (typed.kinds n x takes.0 fed takes.1) ∙ takes.2) all

-- the instrument of a handle that the map has, or of one that it doesn't have
pub held-as : (h : ℕ) (live : List LiveHandle) (o : Option ℕ) → o ≡ lookup (nat_eq h) live → instrument_held h live ≡ o
held-as h live o e = held-lookup h live ∙ sym e

pub without-removed : (h : ℕ) (live : List LiveHandle) → remove_entry (nat_eq h) live ≡ without_handle h live
without-removed h [] = refl
without-removed h (p ∷ ps) = λ i. cond (sym (test-is h p.0) i) ps (p ∷ without-removed h ps i)

-- the next number is none of those that are live
pub next-absent : (next : ℕ) (live : List LiveHandle) → EachOf (λ (p : LiveHandle). p.0 < next) live → lookup (nat_eq next) live ≡ None
next-absent next [] all = refl
next-absent next (p ∷ ps) all =
    let away : nat_eq next p.0 ≡ false = sym (test-is next p.0) ∙ ne_eqb p.0 next (λ e. omega (arith, all.0)) in
    ap (λ b. cond b (Some p.1) (lookup (nat_eq next) ps)) away ∙ next-absent next ps all.1

-- ======== whole calls ========
module _ (old : State) where
  pub bind-made : (n : ℕ) (l : List KeyValue) (more : List LiveHandle) (after : ℕ) (readers : List ReaderPart) → bind_refusal old.shared.next (slice_get old.shared.instruments n) ≡ None
      → more ≡ old.shared.live ++ (old.shared.next, n) ∷ [] → after ≡ old.shared.next + 1 → readers ≡ map (part_after_call old.shared.next (model.Call.Bind n l)) old.readers
      → (views : Views) → Step views old (model.Call.Bind n l) (model.Reply.Handle old.shared.next) (record { shared = record old.shared { live = more; next = after }; readers = readers })
  bind-made n l more after readers fits added grown sent views = (
    sym (ap (λ o. reply_by o (model.Reply.Handle old.shared.next)) fits),
    (λ i. record { shared = record old.shared { live = added i; next = grown i }; readers = sent i })
        ∙ sym (ap (λ o. after_by o old (machine.accepted_after views old (model.Call.Bind n l))) fits),
  )

  pub update-made : (h n : ℕ) (v : model.Number) (more : List InstrumentState) (readers : List ReaderPart) → instrument_held h old.shared.live ≡ Some n → held_refusal (slice_get old.shared.instruments n) v.signed ≡ None
      → more ≡ machine.changed_at n (machine.instrument_after_record v.amount) old.shared.instruments → readers ≡ map (part_after_call 0 (model.Call.RecordBound h v)) old.readers
      → (views : Views) → Step views old (model.Call.RecordBound h v) model.Reply.Done (record { shared = record old.shared { instruments = more }; readers = readers })
  update-made h n v more readers held fits accepted sent views =
      let none : handle_refusal (instrument_held h old.shared.live) old.shared.instruments v.signed ≡ None = ap (λ o. handle_refusal o old.shared.instruments v.signed) held ∙ fits in
      let counted : more ≡ accepted_by (instrument_held h old.shared.live) v.amount old.shared.instruments = accepted ∙ ap (λ o. accepted_by o v.amount old.shared.instruments) (sym held) in (
        sym (ap (λ o. reply_by o model.Reply.Done) none),
        (λ i. record { shared = record old.shared { instruments = counted i }; readers = sent i })
            ∙ sym (ap (λ o. after_by o old (machine.accepted_after views old (model.Call.RecordBound h v))) none),
      )

  pub unbind-made : (h n : ℕ) (less : List LiveHandle) (readers : List ReaderPart) → instrument_held h old.shared.live ≡ Some n
      → less ≡ without_handle h old.shared.live → readers ≡ map (part_after_call 0 (model.Call.Unbind h)) old.readers
      → (views : Views) → Step views old (model.Call.Unbind h) model.Reply.Done (record { shared = record old.shared { live = less }; readers = readers })
  unbind-made h n less readers held ended sent views =
      let none : unbind_refusal (instrument_held h old.shared.live) ≡ None = ap unbind_refusal held in (
        sym (ap (λ o. reply_by o model.Reply.Done) none),
        (λ i. record { shared = record old.shared { live = ended i }; readers = sent i })
            ∙ sym (ap (λ o. after_by o old (machine.accepted_after views old (model.Call.Unbind h))) none),
      )
