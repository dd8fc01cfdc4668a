-- How a collection runs callbacks (Metrics API, "Asynchronous Instrument API").
use Rattle.std.specs.Prelude.{◌≡◌, ℕ, ℤ, zero, suc, List, [], ◌∷◌, ◌++◌, map, length, Result, Ok, Err}
use Rattle.otel_common.specs.declared.faults.Fault.{Fault}
use Rattle.otel_common.specs.declared.faults.Fault.TheVariants.{OutOfMemory}
use Rattle.otel_data.specs.declared.numbers.NumberValue.{NumberValue}
use Rattle.otel_data.specs.declared.numbers.NumberValue.TheVariants as number
use Rattle.otel_stream.specs.declared.observation.Observation.{Observation}
use Rattle.otel_stream.specs.declared.observation.Observed.{Observed}
use Rattle.otel_stream.specs.declared.registered.Callback.{Callback}
use Rattle.otel_stream.specs.declared.registered.Callback.TheVariants.{U64, I64}
use Rattle.otel_stream.specs.declared.registered.Registered.{Registered}

-- an observation, as one of the instrument with this number
abbrev pub of_instrument : {T : Type 0} → (T → NumberValue) → ℕ → Observation T → Observed
of_instrument number n o = record { instrument = n; value = number o.value; attributes = o.attributes }

-- how a run of a callback relates itself before and after, the observations that it leaves, and its answer
abbrev pub Observes : Type 0 → Type 0 → Type 1
Observes C T = C → C → List (Observation T) → Result (Unit {0}) Fault → Type 0

-- what a run gives: the callback's fault if it answered one, and otherwise the observations that it left, or
-- `OutOfMemory` if there was no memory for them
abbrev pub Gives : List Observed → Result (Unit {0}) Fault → Result (List Observed) Fault → Type 0
Gives left (Ok _) (Ok observed) = observed ≡ left
Gives left (Ok _) (Err f) = f ≡ OutOfMemory
Gives left (Err f) (Ok observed) = ⊥
Gives left (Err f) (Err g) = g ≡ f

-- the callback of instrument n ran once, and gave this
abbrev pub RanOnce : {U I : Type 0} → Observes U ℕ → Observes I ℤ → ℕ → Callback U I → Callback U I → Result (List Observed) Fault → Type 0
RanOnce S R n (U64 a) (U64 b) given = (left : List (Observation ℕ)) × (answer : Result (Unit {0}) Fault) × S a b left answer × Gives (map (of_instrument number.U64 n) left) answer given
RanOnce S R n (I64 a) (I64 b) given = (left : List (Observation ℤ)) × (answer : Result (Unit {0}) Fault) × R a b left answer × Gives (map (of_instrument number.I64 n) left) answer given
RanOnce S R n _ _ given = ⊥

-- a registered callback ran once, gave this, and observes the same instrument as before
abbrev pub Ran : {U I : Type 0} → Observes U ℕ → Observes I ℤ → Registered U I → Registered U I → Result (List Observed) Fault → Type 0
Ran S R a b given = (b.instrument ≡ a.instrument) × RanOnce S R a.instrument a.callback b.callback given

-- the first n ran, in order, with these answers, and the others are as before
abbrev pub RanTo : {X A : Type 0} → (X → X → A → Type 0) → ℕ → List X → List X → List A → Type 0
RanTo S zero before after [] = before ≡ after
RanTo S (suc n) (a ∷ before) (b ∷ after) (r ∷ rs) = S a b r × RanTo S n before after rs
RanTo S _ _ _ _ = ⊥

-- the lists joined, one after another
abbrev pub concat_lists : {B : Type 0} → List (List B) → List B
concat_lists [] = []
concat_lists (l ∷ ls) = l ++ concat_lists ls

-- no answer but perhaps the last is a fault; the run ends with that fault, or if there is none with `OutOfMemory`
abbrev pub EndsWith : {B : Type 0} → List (Result (List B) Fault) → Fault → Type 0
EndsWith [] f = f ≡ OutOfMemory
EndsWith (Ok l ∷ rs) f = EndsWith rs f
EndsWith (Err g ∷ []) f = g ≡ f
EndsWith (Err g ∷ r ∷ rs) f = ⊥

-- all ran, and what they gave is joined; or only the first ones ran, up to the point where the run ended with a fault
abbrev pub RanAll : {X B : Type 0} → (X → X → Result (List B) Fault → Type 0) → List X → List X → Result (List B) Fault → Type 0
RanAll {X} {B} S before after (Ok observed) = (ls : List (List B)) × RanTo S (length before) before after (map Ok ls) × (observed ≡ concat_lists ls)
RanAll {X} {B} S before after (Err f) = (rs : List (Result (List B) Fault)) × RanTo S (length rs) before after rs × EndsWith rs f
