-- When scopes are equal: exactly if their names, versions, schema URLs and attributes are.
use Rattle.std.specs.Prelude.{◌≡◌, ℕ, Bool, ◌&&◌, List, Option, Some, None, refl}
use Rattle.std.proofs.Common.{sym, ap, true≢false}
use Rattle.std.specs.Bool.{Decides}
use Rattle.std.specs.Option.{option_eq}
use Rattle.std.specs.Cmp.Lexicographic.{bytes_decides}
use Rattle.otel_common.specs.declared.scopes.InstrumentationScope.{InstrumentationScope}
use Rattle.otel_common.specs.Equality.{bytes_eq, set_eq, set_eq-Decides, both_decide}

abbrev pub scope_eq : InstrumentationScope → InstrumentationScope → Bool
scope_eq x y = bytes_eq x.name y.name && (option_eq bytes_eq x.version y.version && (option_eq bytes_eq x.schema_url y.schema_url && set_eq x.attributes y.attributes))

pub option_eq-Decides : (x y : Option (List ℕ)) → Decides (option_eq bytes_eq x y) (x ≡ y)
option_eq-Decides None None = (λ h. refl, λ e. refl)
option_eq-Decides None (Some y) = (λ h. absurd (true≢false (sym h)), λ e. cc)
option_eq-Decides (Some x) None = (λ h. absurd (true≢false (sym h)), λ e. cc)
option_eq-Decides (Some x) (Some y) = (λ h. ap (λ z. Some z) ((bytes_decides x y).0 h), λ e. (bytes_decides x y).1 cc)

pub scope_eq-Decides : (x y : InstrumentationScope) → Decides (scope_eq x y) (x ≡ y)
scope_eq-Decides x y =
    both_decide _ _ (bytes_decides x.name y.name)
    (both_decide _ _ (option_eq-Decides x.version y.version)
    (both_decide _ _ (option_eq-Decides x.schema_url y.schema_url) (set_eq-Decides x.attributes y.attributes) (λ u a. (u, a)) (λ p. p))
    (λ v r. (v, r)) (λ p. p))
    (λ n r i. record { name = n i; version = r.0 i; schema_url = r.1.0 i; attributes = r.1.1 i })
    (λ e. (ap (λ s. s.name) e, (ap (λ s. s.version) e, (ap (λ s. s.schema_url) e, ap (λ s. s.attributes) e))))
