use Rattle.std.proofs.Common.{ℕ, ◌≡◌, ◌∙◌, ◌≤◌, ◌<◌, ◌&&◌, ◌∷◌, [], List, Bool, true, ap, sym, refl, arith, length, slice_index_or}
use Rattle.std.proofs.Math.Bool.{and-true}
use Rattle.otel_common.specs.Equality.{set_eq, bytes_eq, value_eq}
use Rattle.otel_common.specs.declared.attributes.KeyValue.{KeyValue}
use Rattle.otel_common.specs.declared.attributes.Value.TheVariants as value
use Rattle.otel_aggregate.proofs.value_map.sets.is_overflow.Goals as goal

-- a list of one attribute
single : (l : List KeyValue) (x : KeyValue) → 1 ≤ length l → length l < 2 → x ≡ slice_index_or l 0 x → l ≡ x ∷ []
single [] x some few e = absurd (omega (arith, some))
single (y ∷ []) x some few e = ap (λ z. z ∷ []) (sym e)
single (y ∷ z ∷ l) x some few e = absurd (omega (arith, few))

over-is : (l : List KeyValue) (x : KeyValue) (key : List ℕ) (k v : Bool) → l ≡ x ∷ [] → k ≡ bytes_eq x.key key → v ≡ value_eq x.value (value.Bool true) → (k && v) ≡ set_eq l (record { key = key; value = value.Bool true } ∷ [])
over-is l x key k v is keys values = sym (and-true (k && v)) ∙ (λ i. (keys i && values i) && true) ∙ ap (λ m. set_eq m (record { key = key; value = value.Bool true } ∷ [])) (sym is)

pub returns-in-Bool-true : goal.returns-in-Bool-true
returns-in-Bool-true c =
    let l = c.args.list.now in
    let x = c.one-item.result in
    let is : x.value ≡ value.Bool true = c.in-Bool-true.is ∙ ap value.Bool (sym c.in-Bool-true.field-0-is ∙ c.in-Bool-true.field-0-test) in
    sym (ap (λ b. b && true) c.if-eq.true)
    ∙ over-is l x _ c.eq.result true (single l x c.in-len1.len_at_least c.in-len1.len_below c.one-item.is) (c.eq.ensures ∙ ap (λ k. bytes_eq k _) c.as_str.ensures) (sym (ap (λ w. value_eq w (value.Bool true)) is))

pub returns-else-eq : goal.returns-else-eq
returns-else-eq c =
    let l = c.args.list.now in
    let x = c.one-item.result in
    c.if-eq.false
    ∙ ap (λ b. b && value_eq x.value (value.Bool true)) (sym c.if-eq.false)
    ∙ over-is l x _ c.eq.result (value_eq x.value (value.Bool true)) (single l x c.in-len1.len_at_least c.in-len1.len_below c.one-item.is) (c.eq.ensures ∙ ap (λ k. bytes_eq k _) c.as_str.ensures) refl
