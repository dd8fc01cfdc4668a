-- Which canonical sets are empty, and that the overflow entry's is canonical.
use Rattle.std.proofs.lemmas.Bool.Decides.{nat_tests}
use Rattle.std.proofs.Common.{ℕ, suc, List, [], ◌∷◌, ◌≡◌, ◌∙◌, true, false, cond, ap, refl, sym, arith, length, Some, None, true≢false, ◌==◌}
use Rattle.std.specs.Cmp.Lexicographic.{texts_ties, bytes_decides}
use Rattle.otel_common.specs.Canonical.{canon}
use Rattle.otel_common.specs.Equality.{set_eq}
use Rattle.otel_common.specs.declared.attributes.KeyValue.{KeyValue}
use Rattle.otel_common.proofs.CanonLaws.{canon-unique, value_at, value_at-canon}
use Rattle.otel_model_stream.specs.Sets.{none_set, over_set}

pub canon-nil : canon [] ≡ []
canon-nil = sym (canon-unique [] [] tt (λ q. refl))

pub canon-over : canon over_set ≡ over_set
canon-over = sym (canon-unique over_set over_set tt (λ q. refl))

pub some-set : (l : List KeyValue) → (length l == 0) ≡ false → set_eq l none_set ≡ false
some-set [] e = absurd (true≢false e)
some-set (p ∷ l) e = refl

-- attributes leave something
pub some-canon : (l : List KeyValue) → set_eq l none_set ≡ false → set_eq (canon l) none_set ≡ false
some-canon [] h = absurd (true≢false h)
some-canon (p ∷ l) h = by (canon (p ∷ l)) refl
  where
    by : (c : List KeyValue) → canon (p ∷ l) ≡ c → set_eq c none_set ≡ false
    by (x ∷ c) e = refl
    by [] e =
        let here : value_at p.key (p ∷ l) ≡ Some p.value = ap (λ b. cond b (Some p.value) (value_at p.key l)) (sym (texts_ties p.key p.key) ∙ (bytes_decides p.key p.key).1 refl) in
        let gone : value_at p.key (p ∷ l) ≡ None = sym (value_at-canon (p ∷ l) p.key) ∙ ap (value_at p.key) e in
        absurd (cc)

-- no attributes are the empty set
pub is_nil : (l : List KeyValue) → (length l == 0) ≡ true → set_eq l none_set ≡ true
is_nil [] e = refl
is_nil (p ∷ l) e = absurd (true≢false (sym e ∙ some (length l)))
  where
    some : (n : ℕ) → (suc n == 0) ≡ false
    some n = grind (arith, nat_tests)
