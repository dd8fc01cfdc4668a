-- Lines that are calls, and lines that aren't.
use Rattle.std.proofs.Common.{◌≡◌, ◌≢◌, ◌<◌, ◌≤◌, ℕ, List, [], ◌∷◌, map, length, drop, get_or, codes, Some, Result, Ok, Err, Bor, subst, sym, arith}
use Rattle.std.specs.Prelude.{IfOk, IfErr}
use Rattle.otel_common.specs.declared.attributes.KeyValue.{KeyValue}
use Rattle.otel_common.specs.declared.scopes.InstrumentationScope.{InstrumentationScope}
use Rattle.otel_data.specs.declared.numbers.NumberValue.{NumberValue}
use Rattle.opentelemetry_sdk.specs.declared.calls.Call.{Call}
use Rattle.opentelemetry_sdk.specs.declared.calls.Call.TheVariants.{Meter, Build, Record, Bind, RecordBound, Unbind, Flush, Shutdown}
use Rattle.metrics_script.specs.Attributes.{ReadsAttributes}
use Rattle.metrics_script.specs.CallLines.{IsBuildOf, IsCallLine, IsScopeOf}
use Rattle.metrics_script.specs.Calls.{IsIndexWord}
use Rattle.metrics_script.specs.Numbers.{IsNumberWord}
use Rattle.metrics_script.specs.declared.refusals.Refusal.{Refusal}
use Rattle.metrics_script.specs.declared.refusals.Refusal.TheVariants.{OutOfMemory}

-- the words of a list of references
abbrev pub words : List (Bor (List ℕ)) → List (List ℕ)
words refs = map (λ word. word.now) refs

-- a meter of a name and a version that make no scope
pub no_scope : (refs : List (Bor (List ℕ))) (d : Bor (List ℕ)) → 3 ≤ length refs → length refs < 4 → (get_or refs 0 d).now ≡ codes "meter" → ((scope : InstrumentationScope) → ¬ IsScopeOf (get_or refs 1 d).now (Some (get_or refs 2 d).now) scope) → (call : Call) → ¬ IsCallLine (words refs) call
no_scope [] d least below verb none call is = absurd (omega (arith, least))
no_scope (a ∷ []) d least below verb none call is = absurd (omega (arith, least))
no_scope (a ∷ b ∷ []) d least below verb none call is = absurd (omega (arith, least))
no_scope (a ∷ b ∷ c ∷ []) d least below verb none (Meter scope) is = none scope is.1
no_scope (a ∷ b ∷ c ∷ []) d least below verb none (Bind i attributes) is = let other = is.0 in cc
no_scope (a ∷ b ∷ c ∷ []) d least below verb none (RecordBound h v) is = let other = is.0 in cc
no_scope (a ∷ b ∷ c ∷ []) d least below verb none call is = is
no_scope (a ∷ b ∷ c ∷ e ∷ rest) d least below verb none call is = absurd (omega (arith, below))

-- a record with attributes that are none
pub no_attributes : (refs : List (Bor (List ℕ))) (d : Bor (List ℕ)) → 4 ≤ length refs → length refs < 5 → ((attributes : List KeyValue) → ¬ ReadsAttributes (get_or refs 3 d).now attributes) → (call : Call) → ¬ IsCallLine (words refs) call
no_attributes [] d least below none call is = absurd (omega (arith, least))
no_attributes (a ∷ []) d least below none call is = absurd (omega (arith, least))
no_attributes (a ∷ b ∷ []) d least below none call is = absurd (omega (arith, least))
no_attributes (a ∷ b ∷ c ∷ []) d least below none call is = absurd (omega (arith, least))
no_attributes (a ∷ b ∷ c ∷ e ∷ []) d least below none (Record i v attributes) is = none attributes is.3
no_attributes (a ∷ b ∷ c ∷ e ∷ []) d least below none call is = is
no_attributes (a ∷ b ∷ c ∷ e ∷ f ∷ rest) d least below none call is = absurd (omega (arith, below))

-- a record through a handle of which a number can't be read
pub no_bound : (refs : List (Bor (List ℕ))) (d : Bor (List ℕ)) → 3 ≤ length refs → length refs < 4 → (get_or refs 0 d).now ≡ codes "recordbound" → ((handle : ℕ) (value : NumberValue) → IsIndexWord (get_or refs 1 d).now handle → ¬ IsNumberWord (get_or refs 2 d).now value) → (call : Call) → ¬ IsCallLine (words refs) call
no_bound [] d least below verb none call is = absurd (omega (arith, least))
no_bound (a ∷ []) d least below verb none call is = absurd (omega (arith, least))
no_bound (a ∷ b ∷ []) d least below verb none call is = absurd (omega (arith, least))
no_bound (a ∷ b ∷ c ∷ []) d least below verb none (Meter scope) is = let other = is.0 in cc
no_bound (a ∷ b ∷ c ∷ []) d least below verb none (Bind i attributes) is = let other = is.0 in cc
no_bound (a ∷ b ∷ c ∷ []) d least below verb none (RecordBound h v) is = none h v is.1 is.2
no_bound (a ∷ b ∷ c ∷ []) d least below verb none call is = is
no_bound (a ∷ b ∷ c ∷ e ∷ rest) d least below verb none call is = absurd (omega (arith, below))

-- a build
pub build_line : (refs options : List (Bor (List ℕ))) (d : Bor (List ℕ)) (result : Result Call Refusal) → 5 ≤ length refs → options ≡ drop 5 refs → (get_or refs 0 d).now ≡ codes "build" → IfOk result (IsBuildOf (get_or refs 1 d).now (get_or refs 2 d).now (get_or refs 3 d).now (get_or refs 4 d).now (words options)) → IfOk result (IsCallLine (words refs))
build_line [] options d result least tail verb made = absurd (omega (arith, least))
build_line (a ∷ []) options d result least tail verb made = absurd (omega (arith, least))
build_line (a ∷ b ∷ []) options d result least tail verb made = absurd (omega (arith, least))
build_line (a ∷ b ∷ c ∷ []) options d result least tail verb made = absurd (omega (arith, least))
build_line (a ∷ b ∷ c ∷ e ∷ []) options d result least tail verb made = absurd (omega (arith, least))
build_line (a ∷ b ∷ c ∷ e ∷ f ∷ rest) options d (Err refusal) least tail verb made = made
build_line (a ∷ b ∷ c ∷ e ∷ f ∷ rest) options d (Ok (Build m s n description unit bounds t)) least tail verb made = (verb, subst (λ (options : List (Bor (List ℕ))). IsBuildOf b.now c.now e.now f.now (words options) (Build m s n description unit bounds t)) tail made)
build_line (a ∷ b ∷ c ∷ e ∷ f ∷ rest) options d (Ok call) least tail verb made = absurd made

-- words of which none is built
no_build : (refs options : List (Bor (List ℕ))) (d : Bor (List ℕ)) → 5 ≤ length refs → options ≡ drop 5 refs → ((call : Call) → ¬ IsBuildOf (get_or refs 1 d).now (get_or refs 2 d).now (get_or refs 3 d).now (get_or refs 4 d).now (words options) call) → (call : Call) → ¬ IsCallLine (words refs) call
no_build [] options d least tail none call is = absurd (omega (arith, least))
no_build (a ∷ []) options d least tail none call is = absurd (omega (arith, least))
no_build (a ∷ b ∷ []) options d least tail none call is = absurd (omega (arith, least))
no_build (a ∷ b ∷ c ∷ []) options d least tail none call is = absurd (omega (arith, least))
no_build (a ∷ b ∷ c ∷ e ∷ []) options d least tail none call is = absurd (omega (arith, least))
no_build (a ∷ b ∷ c ∷ e ∷ f ∷ rest) options d least tail none (Build m s n description unit bounds t) is = none (Build m s n description unit bounds t) (subst (λ (options : List (Bor (List ℕ))). IsBuildOf b.now c.now e.now f.now (words options) (Build m s n description unit bounds t)) (sym tail) is.1)
no_build (a ∷ b ∷ c ∷ e ∷ f ∷ rest) options d least tail none call is = is

pub no_build_line : (refs options : List (Bor (List ℕ))) (d : Bor (List ℕ)) (result : Result Call Refusal) → 5 ≤ length refs → options ≡ drop 5 refs → IfErr result (λ refusal. refusal ≢ OutOfMemory → (call : Call) → ¬ IsBuildOf (get_or refs 1 d).now (get_or refs 2 d).now (get_or refs 3 d).now (get_or refs 4 d).now (words options) call) → IfErr result (λ refusal. refusal ≢ OutOfMemory → (call : Call) → ¬ IsCallLine (words refs) call)
no_build_line refs options d (Ok call) least tail none = none
no_build_line refs options d (Err refusal) least tail none = λ bad call. no_build refs options d least tail (none bad) call

-- no word
pub no_line0 : (refs : List (Bor (List ℕ))) → length refs < 1 → (call : Call) → ¬ IsCallLine (words refs) call
no_line0 [] below call is = is
no_line0 (a ∷ rest) below call is = absurd (omega (arith, below))

-- one word, which is no verb that stands alone
pub no_line1 : (refs : List (Bor (List ℕ))) (d : Bor (List ℕ)) → length refs < 2 → ((get_or refs 0 d).now ≡ codes "flush" → ⊥) → ((get_or refs 0 d).now ≡ codes "shutdown" → ⊥) → (call : Call) → ¬ IsCallLine (words refs) call
no_line1 [] d below no_flush no_shutdown call is = is
no_line1 (a ∷ []) d below no_flush no_shutdown Flush is = no_flush is
no_line1 (a ∷ []) d below no_flush no_shutdown Shutdown is = no_shutdown is
no_line1 (a ∷ []) d below no_flush no_shutdown call is = is
no_line1 (a ∷ b ∷ rest) d below no_flush no_shutdown call is = absurd (omega (arith, below))

-- two words, of which the first is no verb for one word
pub no_line2 : (refs : List (Bor (List ℕ))) (d : Bor (List ℕ)) → 2 ≤ length refs → length refs < 3 → ((get_or refs 0 d).now ≡ codes "meter" → ⊥) → ((get_or refs 0 d).now ≡ codes "unbind" → ⊥) → (call : Call) → ¬ IsCallLine (words refs) call
no_line2 [] d least below no_meter no_unbind call is = is
no_line2 (a ∷ []) d least below no_meter no_unbind call is = absurd (omega (arith, least))
no_line2 (a ∷ b ∷ []) d least below no_meter no_unbind (Meter scope) is = no_meter is.0
no_line2 (a ∷ b ∷ []) d least below no_meter no_unbind (Unbind h) is = no_unbind is.0
no_line2 (a ∷ b ∷ []) d least below no_meter no_unbind call is = is
no_line2 (a ∷ b ∷ c ∷ rest) d least below no_meter no_unbind call is = absurd (omega (arith, below))

-- three words, of which the first is no verb for two
pub no_line3 : (refs : List (Bor (List ℕ))) (d : Bor (List ℕ)) → 3 ≤ length refs → length refs < 4 → ((get_or refs 0 d).now ≡ codes "meter" → ⊥) → ((get_or refs 0 d).now ≡ codes "bind" → ⊥) → ((get_or refs 0 d).now ≡ codes "recordbound" → ⊥) → (call : Call) → ¬ IsCallLine (words refs) call
no_line3 [] d least below no_meter no_bind no_record call is = is
no_line3 (a ∷ []) d least below no_meter no_bind no_record call is = absurd (omega (arith, least))
no_line3 (a ∷ b ∷ []) d least below no_meter no_bind no_record call is = absurd (omega (arith, least))
no_line3 (a ∷ b ∷ c ∷ []) d least below no_meter no_bind no_record (Meter scope) is = no_meter is.0
no_line3 (a ∷ b ∷ c ∷ []) d least below no_meter no_bind no_record (Bind i attributes) is = no_bind is.0
no_line3 (a ∷ b ∷ c ∷ []) d least below no_meter no_bind no_record (RecordBound h v) is = no_record is.0
no_line3 (a ∷ b ∷ c ∷ []) d least below no_meter no_bind no_record call is = is
no_line3 (a ∷ b ∷ c ∷ e ∷ rest) d least below no_meter no_bind no_record call is = absurd (omega (arith, below))

-- four words, which are no record
pub no_line4 : (refs : List (Bor (List ℕ))) (d : Bor (List ℕ)) → 4 ≤ length refs → length refs < 5 → ((get_or refs 0 d).now ≡ codes "record" → ⊥) → (call : Call) → ¬ IsCallLine (words refs) call
no_line4 [] d least below no_record call is = is
no_line4 (a ∷ []) d least below no_record call is = absurd (omega (arith, least))
no_line4 (a ∷ b ∷ []) d least below no_record call is = absurd (omega (arith, least))
no_line4 (a ∷ b ∷ c ∷ []) d least below no_record call is = absurd (omega (arith, least))
no_line4 (a ∷ b ∷ c ∷ e ∷ []) d least below no_record (Record i v attributes) is = no_record is.0
no_line4 (a ∷ b ∷ c ∷ e ∷ []) d least below no_record call is = is
no_line4 (a ∷ b ∷ c ∷ e ∷ f ∷ rest) d least below no_record call is = absurd (omega (arith, below))

-- more words, which are no build
pub no_line5 : (refs : List (Bor (List ℕ))) (d : Bor (List ℕ)) → 5 ≤ length refs → ((get_or refs 0 d).now ≡ codes "build" → ⊥) → (call : Call) → ¬ IsCallLine (words refs) call
no_line5 [] d least no_build call is = is
no_line5 (a ∷ []) d least no_build call is = absurd (omega (arith, least))
no_line5 (a ∷ b ∷ []) d least no_build call is = absurd (omega (arith, least))
no_line5 (a ∷ b ∷ c ∷ []) d least no_build call is = absurd (omega (arith, least))
no_line5 (a ∷ b ∷ c ∷ e ∷ []) d least no_build call is = absurd (omega (arith, least))
no_line5 (a ∷ b ∷ c ∷ e ∷ f ∷ rest) d least no_build (Build m s n description unit bounds t) is = no_build is.0
no_line5 (a ∷ b ∷ c ∷ e ∷ f ∷ rest) d least no_build call is = is
