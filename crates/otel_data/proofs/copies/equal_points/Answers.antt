use Rattle.std.proofs.Common.{◌≡◌, ◌==◌, ℕ, Option, Some, None, ap, refl, sym}
use Rattle.std.proofs.lemmas.Bool.{true≢false}
use Rattle.std.specs.Bool.{Decides}
use Rattle.std.specs.Cmp.{signed_Decides, unsigned_Decides}
use Rattle.std.specs.Option.{option_eq}
use Rattle.std.specs.Cmp.Lexicographic.{pointwise_decides}
use Rattle.otel_common.specs.Equality.{set_eq-Decides, both_decide}
use Rattle.otel_data.specs.declared.exemplars.Exemplar.{Exemplar}
use Rattle.otel_data.proofs.EqualExemplars.{exemplar_eq, exemplar_eq-Decides}
use Rattle.otel_data.proofs.copies.equal_points.Goals as goal

exemplar_decides : (x y : Exemplar ℕ) → Decides (exemplar_eq ◌==◌ x y) (x ≡ y)
exemplar_decides = exemplar_eq-Decides unsigned_Decides

pub returns-clause-exemplar : goal.returns-clause-exemplar
returns-clause-exemplar c = exemplar_decides

pub returns-clause-point : goal.returns-clause-point
returns-clause-point c = λ x y.
    both_decide _ _ (set_eq-Decides x.attributes y.attributes)
    (both_decide _ _ (pointwise_decides exemplar_decides x.exemplars y.exemplars) (unsigned_Decides x.value y.value) (λ e v. (e, v)) (λ p. p))
    (λ a r i. record { attributes = a i; exemplars = r.0 i; value = r.1 i })
    (λ e. (ap (λ s. s.attributes) e, (ap (λ s. s.exemplars) e, ap (λ s. s.value) e)))

pub returns-clause-gauge : goal.returns-clause-gauge
returns-clause-gauge c = λ x y.
    both_decide _ _ (set_eq-Decides x.attributes y.attributes)
    (both_decide _ _ (pointwise_decides exemplar_decides x.exemplars y.exemplars) (unsigned_Decides x.value y.value) (λ e v. (e, v)) (λ p. p))
    (λ a r i. record { attributes = a i; exemplars = r.0 i; value = r.1 i })
    (λ e. (ap (λ s. s.attributes) e, (ap (λ s. s.exemplars) e, ap (λ s. s.value) e)))

option_decides : (x y : Option ℕ) → Decides (option_eq ◌==◌ x y) (x ≡ y)
option_decides None None = (λ h. refl, λ e. refl)
option_decides None (Some y) = (λ h. absurd (true≢false (sym h)), λ e. cc)
option_decides (Some x) None = (λ h. absurd (true≢false (sym h)), λ e. cc)
option_decides (Some x) (Some y) = (λ h. ap (λ z. Some z) ((unsigned_Decides x y).0 h), λ e. (unsigned_Decides x y).1 cc)

pub returns-clause-histogram : goal.returns-clause-histogram
returns-clause-histogram c = λ x y.
    both_decide _ _ (set_eq-Decides x.attributes y.attributes)
    (both_decide _ _ (pointwise_decides exemplar_decides x.exemplars y.exemplars)
    (both_decide _ _ (pointwise_decides signed_Decides x.bounds y.bounds)
    (both_decide _ _ (pointwise_decides unsigned_Decides x.bucket_counts y.bucket_counts)
    (both_decide _ _ (unsigned_Decides x.count y.count)
    (both_decide _ _ (option_decides x.min y.min)
    (both_decide _ _ (option_decides x.max y.max) (unsigned_Decides x.sum y.sum) (λ a r. (a, r)) (λ p. p))
    (λ a r. (a, r)) (λ p. p)) (λ a r. (a, r)) (λ p. p)) (λ a r. (a, r)) (λ p. p)) (λ a r. (a, r)) (λ p. p)) (λ a r. (a, r)) (λ p. p))
    (λ a r i. record { attributes = a i; exemplars = r.0 i; bounds = r.1.0 i; bucket_counts = r.1.1.0 i; count = r.1.1.1.0 i; min = r.1.1.1.1.0 i; max = r.1.1.1.1.1.0 i; sum = r.1.1.1.1.1.1 i })
    (λ e. (ap (λ s. s.attributes) e, (ap (λ s. s.exemplars) e, (ap (λ s. s.bounds) e, (ap (λ s. s.bucket_counts) e, (ap (λ s. s.count) e, (ap (λ s. s.min) e, (ap (λ s. s.max) e, ap (λ s. s.sum) e))))))))
