-- When exemplars are equal: exactly if all their parts are.
use Rattle.std.proofs.Common.{◌≡◌, ◌==◌, ◌&&◌, Bool, ap}
use Rattle.std.specs.Bool.{Decides}
use Rattle.std.specs.Cmp.{unsigned_Decides}
use Rattle.std.specs.Cmp.Lexicographic.{pointwise, pointwise_decides}
use Rattle.otel_common.specs.Equality.{set_eq, set_eq-Decides, both_decide}
use Rattle.otel_data.specs.declared.exemplars.Exemplar.{Exemplar}

abbrev pub exemplar_eq : {T : Type 0} → (T → T → Bool) → Exemplar T → Exemplar T → Bool
exemplar_eq eq x y =
    set_eq x.filtered_attributes y.filtered_attributes && (x.time == y.time && (eq x.value y.value && (pointwise ◌==◌ x.span_id y.span_id && pointwise ◌==◌ x.trace_id y.trace_id)))

pub exemplar_eq-Decides : {T : Type 0} {eq : T → T → Bool} (decides : (x y : T) → Decides (eq x y) (x ≡ y)) (x y : Exemplar T) → Decides (exemplar_eq eq x y) (x ≡ y)
exemplar_eq-Decides decides x y =
    both_decide _ _ (set_eq-Decides x.filtered_attributes y.filtered_attributes)
    (both_decide _ _ (unsigned_Decides x.time y.time)
    (both_decide _ _ (decides x.value y.value)
    (both_decide _ _ (pointwise_decides unsigned_Decides x.span_id y.span_id) (pointwise_decides unsigned_Decides x.trace_id y.trace_id) (λ a r. (a, r)) (λ p. p))
    (λ a r. (a, r)) (λ p. p)) (λ a r. (a, r)) (λ p. p))
    (λ a r i. record { filtered_attributes = a i; time = r.0 i; value = r.1.0 i; span_id = r.1.1.0 i; trace_id = r.1.1.1 i })
    (λ e. (ap (λ s. s.filtered_attributes) e, (ap (λ s. s.time) e, (ap (λ s. s.value) e, (ap (λ s. s.span_id) e, ap (λ s. s.trace_id) e)))))
