-- Calls that the provider carries out are the model's.
use Rattle.std.proofs.Common.{◌≡◌, ℕ, ◌+◌, ◌<◌, Bool, true, false, cond, not, ◌||◌, List, [], ◌∷◌, ◌++◌, map, length, take, Option, Some, None, slice_get, refl, sym, ◌∙◌, ap, subst, arith, true≢false, Result, Ok, Err, OnOk, OnErr, IfOk, IsOkUnless, is_some, position, append-nil}
use Rattle.std.specs.List.{list_any, position_or_len}
use Rattle.std.proofs.Math.Seq.{take-append_seam}
use Rattle.std.proofs.lemmas.Option.{slice_get_within}
use Rattle.otel_common.specs.Scopes.{scope_eq, scope_eq-Decides}
use Rattle.otel_common.specs.declared.attributes.KeyValue.{KeyValue}
use Rattle.otel_common.specs.declared.faults.Fault.{Fault}
use Rattle.otel_common.specs.declared.faults.Fault.TheVariants as fault
use Rattle.otel_common.specs.declared.scopes.InstrumentationScope.{InstrumentationScope}
use Rattle.otel_model.specs.Calls as model
use Rattle.otel_model.specs.Demands.{StreamSpec, Views, is_good}
use Rattle.otel_model.specs.Machine as machine
use Rattle.otel_model.specs.Refusals.{meter_refusal, record_refusal}
use Rattle.otel_model.specs.Sent.{has_scope}
use Rattle.otel_model.specs.State.{ReaderPart, InstrumentState, LiveHandle, State}
use Rattle.otel_model.specs.Steps.{Step, number_from, reply_by, after_by}
use Rattle.opentelemetry_sdk.specs.pipeline.Pipelines.{Piped, part_of}
use Rattle.opentelemetry_sdk.proofs.pipeline.Builds.{any-position, position-at}
use Rattle.opentelemetry_sdk.proofs.pipeline.Identities.{scope-flip}
use Rattle.opentelemetry_sdk.specs.pipeline.Views.{views_answering}
use Rattle.opentelemetry_sdk.proofs.Asked.{built-answered}
use Rattle.opentelemetry_sdk.proofs.Stepped.{memory-step}
use Rattle.opentelemetry_sdk.proofs.Typed.{typed-feeds}
use Rattle.opentelemetry_sdk.specs.Correspondence.{reply_from}
use Rattle.opentelemetry_sdk.specs.States.{IsScopeOf, IsGoodIn, AreAsked, FeedType, IsTakenBy, AreTyped}

-- ======== meters ========
pub has_scope-flip : (scope : InstrumentationScope) (ms : List InstrumentationScope) → has_scope scope ms ≡ list_any (scope_eq scope) ms
has_scope-flip scope ms = λ i. list_any (λ m. scope-flip m scope i) ms

-- a scope that is there, or that is added at the end, has the number of its first place
number_at : (scope : InstrumentationScope) (k : ℕ) (ms more : List InstrumentationScope) → (list_any (scope_eq scope) ms ≡ false → (n : ℕ) → number_from n scope more ≡ Some n) → number_from k scope (ms ++ more) ≡ Some (k + position_or_len (scope_eq scope) ms)
number_at scope k [] more last = last refl k ∙ ap (λ n. Some n) (omega arith)
number_at scope k (m ∷ ms) more last = by (scope_eq scope m) (scope-flip m scope) last (λ l. number_at scope (k + 1) ms more l)
  where
    by : (b : Bool) → scope_eq m scope ≡ b → ((b || list_any (scope_eq scope) ms) ≡ false → (n : ℕ) → number_from n scope more ≡ Some n)
        → ((list_any (scope_eq scope) ms ≡ false → (n : ℕ) → number_from n scope more ≡ Some n) → number_from (k + 1) scope (ms ++ more) ≡ Some (k + 1 + position_or_len (scope_eq scope) ms))
        → cond (scope_eq m scope) (Some k) (number_from (k + 1) scope (ms ++ more)) ≡ Some (k + cond (not b) (1 + position_or_len (scope_eq scope) ms) 0)
    by true e l rest = rw e (ap (λ n. Some n) (omega arith))
    by false e l rest = rw e (rest l ∙ ap (λ n. Some n) (omega arith))

-- the number of a meter once it is there
pub meter_number : (scope : InstrumentationScope) (ms : List InstrumentationScope) (n : ℕ) → n ≡ position_or_len (scope_eq scope) ms → Some n ≡ number_from 0 scope (machine.with_meter scope ms)
meter_number scope ms n e = ap (λ m. Some m) (e ∙ omega arith) ∙ sym (by (list_any (scope_eq scope) ms) refl)
  where
    by : (b : Bool) → list_any (scope_eq scope) ms ≡ b → number_from 0 scope (machine.with_meter scope ms) ≡ Some (0 + position_or_len (scope_eq scope) ms)
    by true h = rw (has_scope-flip scope ms, h) (ap (number_from 0 scope) (sym (append-nil ms)) ∙ number_at scope 0 ms [] (λ none. absurd (true≢false (sym h ∙ none))))
    by false h = rw (has_scope-flip scope ms, h) (number_at scope 0 ms (scope ∷ []) (λ none n. rw ((scope_eq-Decides scope scope).1 refl) refl))

-- ======== builds ========
-- an instrument whose name, unit or bounds are bad has no scope
pub good-in : (scope : Option InstrumentationScope) (about : model.About) (b : Bool) → is_good about ≡ b → IsGoodIn (cond b scope None) about
good-in scope about false e = tt
good-in None about true e = tt
good-in (Some scope) about true e = e

-- and demands nothing
built-alike : (views : Views) (scope : Option InstrumentationScope) (about : model.About) (now : ℕ) (b : Bool) → is_good about ≡ b → (p : ReaderPart) → machine.part_after_build views (cond b scope None) about now p ≡ machine.part_after_build views scope about now p
built-alike views scope about now true e p = refl
built-alike views None about now false e p = refl
built-alike views (Some scope) about now false e p = rw e refl

-- a build sees what the views answer of the instrument, and no more
all-asked : (views : Views) (scope : Option InstrumentationScope) (about : model.About) (now : ℕ) (answered : List (Option StreamSpec)) → AreAsked views scope about answered
    → (ps : List ReaderPart) → map (machine.part_after_build (views_answering answered) scope about now) ps ≡ map (machine.part_after_build views scope about now) ps
all-asked views None about now answered asked ps = refl
all-asked views (Some scope) about now answered asked ps = λ i. map (λ p. (ap (λ l. machine.part_after_build (views_answering l) (Some scope) about now p) asked ∙ built-answered views scope about now p) i) ps

-- ======== lent readers ========
-- what was lent whole comes back whole
pub lent_back : {X : Type 0} (n : ℕ) (ys zs : List X) → n ≡ length ys → take n (ys ++ zs) ≡ ys
lent_back n ys zs e = ap (λ m. take m (ys ++ zs)) e ∙ take-append_seam ys zs

-- so what was done to it while it was lent was done to it
pub lent_as : {X : Type 0} (P : List X → List X → Type 0) (n : ℕ) (old lent new zs : List X) → n ≡ length new → lent ≡ old → P lent new → P old (take n (new ++ zs))
lent_as P n old lent new zs e is done = subst (P old) (sym (lent_back n new zs e)) (subst (λ xs. P xs new) is done)

-- so the readers' parts are what was made of them
pub lent-parts : (n : ℕ) (ys zs : List Piped) (ps : List ReaderPart) → n ≡ length ys → map part_of ys ≡ ps → map part_of (take n (ys ++ zs)) ≡ ps
lent-parts n ys zs ps e is = ap (map part_of) (lent_back n ys zs e) ∙ is

-- what was lent unchanged leaves the state unchanged
pub unchanged : (old : State) (live : List LiveHandle) (n : ℕ) (lent new zs : List Piped) → n ≡ length new → live ≡ old.shared.live → map part_of lent ≡ old.readers → map part_of new ≡ map part_of lent
    → record { shared = record old.shared { live = live }; readers = map part_of (take n (new ++ zs)) } ≡ old
unchanged old live n lent new zs e same was is =
    λ i. record { shared = record old.shared { live = same i }; readers = lent-parts n new zs old.readers e (is ∙ was) i }

-- ======== an instrument that takes a value ========
module _ (n : ℕ) (v : model.Number) (is shown : List InstrumentState) (same : shown ≡ is) (taken : IsTakenBy shown n v) where
  there : slice_get is n ≡ Some taken.instrument
  there = ap (λ l. slice_get l n) (sym same) ∙ taken.there

  pub taken-inside : n < length is
  taken-inside = slice_get_within is n taken.instrument there

  -- it feeds streams of the value's number type
  pub taken-feeds : (ps lent : List Piped) → lent ≡ ps → AreTyped is (map part_of ps) → FeedType n v (map part_of lent)
  taken-feeds ps lent back typed = typed-feeds n v is taken.instrument (map part_of lent) there taken.typed (subst (λ qs. AreTyped is (map part_of qs)) (sym back) typed)

-- ======== whole calls ========
module _ (old : State) where
  -- a record that is accepted
  pub record-made : (n : ℕ) (v : model.Number) (l : List KeyValue) (more : List InstrumentState) (readers : List ReaderPart) → record_refusal (slice_get old.shared.instruments n) v.signed ≡ None
      → more ≡ machine.changed_at n (machine.instrument_after_record v.amount) old.shared.instruments → readers ≡ map (machine.part_after_call 0 (model.Call.Record n v l)) old.readers
      → (views : Views) → Step views old (model.Call.Record n v l) model.Reply.Done (record { shared = record old.shared { instruments = more }; readers = readers })
  record-made n v l more readers fits accepted sent views = (
    sym (ap (λ o. reply_by o model.Reply.Done) fits),
    (λ i. record { shared = record old.shared { instruments = accepted i }; readers = sent i })
        ∙ sym (ap (λ o. after_by o old (machine.accepted_after views old (model.Call.Record n v l))) fits),
  )

  -- a build, of an instrument that may be bad
  pub build-made : (views : Views) (answered : List (Option StreamSpec)) (more : List InstrumentState) (readers : List ReaderPart) (meter : Option ℕ) (scope named : Option InstrumentationScope) (about : model.About) (now n : ℕ)
      → IsScopeOf old.shared.meters meter scope → named ≡ cond (is_good about) scope None → n ≡ length old.shared.instruments → more ≡ old.shared.instruments ++ machine.new_instrument about ∷ []
      → AreAsked views named about answered → readers ≡ map (machine.part_after_build (views_answering answered) named about now) old.readers
      → Step views old (model.Call.Build meter about now) (model.Reply.Instrument n) (record { shared = record old.shared { instruments = more }; readers = readers })
  build-made views answered more readers meter scope named about now n at named_is number made asked built =
      let known : meter_refusal old.shared meter ≡ None = at.known old.shared refl in (
        ap model.Reply.Instrument number ∙ sym (ap (λ o. reply_by o (model.Reply.Instrument (length old.shared.instruments))) known),
        (λ i. record {
          shared = record old.shared { instruments = made i };
          readers = (built ∙ (all-asked views named about now answered asked old.readers ∙ (ap (λ s. map (machine.part_after_build views s about now) old.readers) named_is ∙ ((λ j. map (λ p. built-alike views scope about now (is_good about) refl p j) old.readers) ∙ ap (λ s. map (machine.part_after_build views s about now) old.readers) at.is)))) i;
        })
            ∙ sym (ap (λ o. after_by o old (machine.accepted_after views old (model.Call.Build meter about now))) known),
      )

  -- whether it was made or not
  pub build-step : (views : Views) (answered : List (Option StreamSpec)) (more : List InstrumentState) (readers : List ReaderPart) (meter : Option ℕ) (scope named : Option InstrumentationScope) (about : model.About) (now : ℕ) (r : Result ℕ Fault)
      → IsScopeOf old.shared.meters meter scope → named ≡ cond (is_good about) scope None → AreAsked views named about answered
      → IfOk r (λ n. n ≡ length old.shared.instruments) → OnOk r (more ≡ old.shared.instruments ++ machine.new_instrument about ∷ []) → OnOk r (readers ≡ map (machine.part_after_build (views_answering answered) named about now) old.readers)
      → OnErr r (more ≡ old.shared.instruments) → OnErr r (readers ≡ old.readers) → IsOkUnless r fault.OutOfMemory
      → Step views old (model.Call.Build meter about now) (reply_from model.Reply.Instrument r) (record { shared = record old.shared { instruments = more }; readers = readers })
  build-step views answered more readers meter scope named about now (Ok n) at named_is asked number made built same same_readers only = build-made views answered more readers meter scope named about now n at named_is number made asked built
  build-step views answered more readers meter scope named about now (Err f) at named_is asked number made built same same_readers only =
      memory-step views old (record { shared = record old.shared { instruments = more }; readers = readers }) (model.Call.Build meter about now) f refl only (at.known old.shared refl)
      (λ i. record { shared = record old.shared { instruments = same i }; readers = same_readers i })

  -- the meter of a scope, where the provider was not shut down
  pub meter-made : (more : List InstrumentationScope) (scope : InstrumentationScope) (n : ℕ) → old.shared.shut ≡ false → n ≡ position_or_len (scope_eq scope) old.shared.meters → more ≡ machine.with_meter scope old.shared.meters
      → (views : Views) → Step views old (model.Call.Meter scope) (model.Reply.Meter (Some n)) (record old { shared = record old.shared { meters = more } })
  meter-made more scope n opened first made views = (
    ap model.Reply.Meter (meter_number scope old.shared.meters n first ∙ sym (ap (λ b. cond b None (number_from 0 scope (machine.with_meter scope old.shared.meters))) opened)),
    ap (λ ms. record old { shared = record old.shared { meters = ms } }) (made ∙ sym (ap (λ b. cond b old.shared.meters (machine.with_meter scope old.shared.meters)) opened)),
  )

  -- a meter that is known stays as it is, where the provider was not shut down
  pub meter-known : (scope : InstrumentationScope) (n : ℕ) → old.shared.shut ≡ false → position (scope_eq scope) old.shared.meters ≡ Some n → (views : Views) → Step views old (model.Call.Meter scope) (model.Reply.Meter (Some n)) old
  meter-known scope n opened at views =
      let ms : List InstrumentationScope = old.shared.meters in
      let there : list_any (scope_eq scope) ms ≡ true = sym (any-position (scope_eq scope) ms) ∙ ap is_some at in
      meter-made ms scope n opened (position-at (scope_eq scope) ms n scope at).0 (sym (ap (λ b. cond b ms (ms ++ scope ∷ [])) (has_scope-flip scope ms ∙ there))) views

pub meter-unknown : (meters : List InstrumentationScope) (scope : InstrumentationScope) → position (scope_eq scope) meters ≡ None → has_scope scope meters ≡ false
meter-unknown meters scope at = has_scope-flip scope meters ∙ (sym (any-position (scope_eq scope) meters) ∙ ap is_some at)
