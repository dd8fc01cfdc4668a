use Rattle.std.proofs.Common.{ℕ, ◌≡◌, ◌∙◌, ◌||◌, Bool, List, [], ◌∷◌, Option, None, Some, is_some, false, sym, refl, ap, true≢false}
use Rattle.std.specs.Option.{IfNone, option_copied}
use Rattle.otel_common.specs.Canonical.{canon}
use Rattle.otel_common.specs.Equality.{set_eq}
use Rattle.otel_common.specs.declared.attributes.KeyValue.{KeyValue}
use Rattle.otel_model_stream.specs.Sets.{allowed_part, none_set}
use Rattle.otel_aggregate.proofs.value_map.CanonicalSets.{canon-nil}
use Rattle.otel_aggregate.proofs.value_map.pending.form_led_to.Goals as goal

some-there : (l : List KeyValue) → set_eq (canon l) [] ≡ false → set_eq l none_set ≡ false
some-there [] e = absurd (true≢false (sym (ap (λ s. set_eq s []) canon-nil) ∙ e))
some-there (p ∷ l) e = refl

pub is_form_of-requires : goal.is_form_of-requires
is_form_of-requires g c = canon-nil

-- nothing that is found leads there
unled : (o another : Option ℕ) (a b : Bool) → a ≡ false → is_some o ≡ false → IfNone o (b ≡ false) → IfNone another ((a || b) ≡ false)
unled None None a b e gone h = ap (λ x. x || b) e ∙ h
unled None (Some n) a b e gone h = tt
unled (Some m) another a b e gone h = absurd (true≢false gone)

alike : (o : Option ℕ) (a b : Bool) → a ≡ false → IfNone o (b ≡ false) → IfNone o ((a || b) ≡ false)
alike None a b e h = unled None None a b e refl h
alike (Some n) a b e h = tt

pub returns-then-few-clause-unled : goal.returns-then-few-clause-unled
returns-then-few-clause-unled g c =
    let l : List KeyValue = allowed_part (option_copied c.args.allow) c.args.attributes.now in
    alike c.find_form-found.result _ _ (some-there l (sym c.is_form_of.ensures ∙ c.if-is_form_of.false)) c.find_form-found.ensures.unknown

pub returns-clause-unled : goal.returns-clause-unled
returns-clause-unled g c =
    let l : List KeyValue = allowed_part (option_copied c.args.allow) c.args.attributes.now in
    unled c.find_form-found.result c.overflow.result _ _ (some-there l (sym c.is_form_of.ensures ∙ c.if-is_form_of.false)) (sym c.is_some.ensures ∙ c.if-is_some.false) c.find_form-found.ensures.unknown
