-- Tests of whether attributes are equal, each true exactly if the two values are the same.
use Rattle.std.specs.Prelude.{◌≡◌, ◌≢◌, ℕ, Bool, true, false, ◌&&◌, ◌==◌, List, refl}
use Rattle.std.proofs.Common.{sym, ap, true≢false}
use Rattle.std.specs.Bool.{Decides, beq}
use Rattle.std.specs.Ordering.{int_eq}
use Rattle.std.specs.Cmp.{IsEquivalence, decided, booleans_Decides, signed_Decides}
use Rattle.std.specs.Cmp.Lexicographic.{pointwise, pointwise_decides, bytes_decides}
use Rattle.otel_common.specs.declared.attributes.Array.{Array}
use Rattle.otel_common.specs.declared.attributes.Array.TheVariants as array
use Rattle.otel_common.specs.declared.attributes.Value.{Value}
use Rattle.otel_common.specs.declared.attributes.Value.TheVariants as value
use Rattle.otel_common.specs.declared.attributes.KeyValue.{KeyValue}

abbrev pub bytes_eq : List ℕ → List ℕ → Bool
bytes_eq = pointwise ◌==◌

abbrev pub array_eq : Array → Array → Bool
array_eq (array.Bool xs) (array.Bool ys) = pointwise beq xs ys
array_eq (array.I64 xs) (array.I64 ys) = pointwise int_eq xs ys
array_eq (array.String xs) (array.String ys) = pointwise bytes_eq xs ys
array_eq _ _ = false

abbrev pub value_eq : Value → Value → Bool
value_eq (value.Bool x) (value.Bool y) = beq x y
value_eq (value.I64 x) (value.I64 y) = int_eq x y
value_eq (value.String x) (value.String y) = bytes_eq x y
value_eq (value.Array x) (value.Array y) = array_eq x y
value_eq _ _ = false

abbrev pub key_value_eq : KeyValue → KeyValue → Bool
key_value_eq x y = bytes_eq x.key y.key && value_eq x.value y.value

-- if f is injective, a test that decides whether x and y are equal decides whether f x and f y are
decides_under : {A B : Type 0} (f : A → B) (inj : (x y : A) → f x ≡ f y → x ≡ y) (b : Bool) (x y : A) → Decides b (x ≡ y) → Decides b (f x ≡ f y)
decides_under f inj b x y d = (λ h. ap f (d.0 h), λ e. d.1 (inj x y e))

differs : {B : Type 0} (x y : B) → (x ≢ y) → Decides false (x ≡ y)
differs x y n = (λ h. absurd (true≢false (sym h)), λ e. absurd (n e))

pub array_eq-Decides : (x y : Array) → Decides (array_eq x y) (x ≡ y)
array_eq-Decides (array.Bool xs) (array.Bool ys) = decides_under array.Bool (λ x y e. cc) _ xs ys (pointwise_decides booleans_Decides xs ys)
array_eq-Decides (array.I64 xs) (array.I64 ys) = decides_under array.I64 (λ x y e. cc) _ xs ys (pointwise_decides signed_Decides xs ys)
array_eq-Decides (array.String xs) (array.String ys) = decides_under array.String (λ x y e. cc) _ xs ys (pointwise_decides bytes_decides xs ys)
array_eq-Decides (array.Bool xs) (array.I64 ys) = differs _ _ (λ e. cc)
array_eq-Decides (array.Bool xs) (array.String ys) = differs _ _ (λ e. cc)
array_eq-Decides (array.I64 xs) (array.Bool ys) = differs _ _ (λ e. cc)
array_eq-Decides (array.I64 xs) (array.String ys) = differs _ _ (λ e. cc)
array_eq-Decides (array.String xs) (array.Bool ys) = differs _ _ (λ e. cc)
array_eq-Decides (array.String xs) (array.I64 ys) = differs _ _ (λ e. cc)

pub value_eq-Decides : (x y : Value) → Decides (value_eq x y) (x ≡ y)
value_eq-Decides (value.Bool x) (value.Bool y) = decides_under value.Bool (λ x y e. cc) _ x y (booleans_Decides x y)
value_eq-Decides (value.I64 x) (value.I64 y) = decides_under value.I64 (λ x y e. cc) _ x y (signed_Decides x y)
value_eq-Decides (value.String x) (value.String y) = decides_under value.String (λ x y e. cc) _ x y (bytes_decides x y)
value_eq-Decides (value.Array x) (value.Array y) = decides_under value.Array (λ x y e. cc) _ x y (array_eq-Decides x y)
value_eq-Decides (value.Bool x) (value.I64 y) = differs _ _ (λ e. cc)
value_eq-Decides (value.Bool x) (value.String y) = differs _ _ (λ e. cc)
value_eq-Decides (value.Bool x) (value.Array y) = differs _ _ (λ e. cc)
value_eq-Decides (value.I64 x) (value.Bool y) = differs _ _ (λ e. cc)
value_eq-Decides (value.I64 x) (value.String y) = differs _ _ (λ e. cc)
value_eq-Decides (value.I64 x) (value.Array y) = differs _ _ (λ e. cc)
value_eq-Decides (value.String x) (value.Bool y) = differs _ _ (λ e. cc)
value_eq-Decides (value.String x) (value.I64 y) = differs _ _ (λ e. cc)
value_eq-Decides (value.String x) (value.Array y) = differs _ _ (λ e. cc)
value_eq-Decides (value.Array x) (value.Bool y) = differs _ _ (λ e. cc)
value_eq-Decides (value.Array x) (value.I64 y) = differs _ _ (λ e. cc)
value_eq-Decides (value.Array x) (value.String y) = differs _ _ (λ e. cc)

pub both_decide : (a b : Bool) {P Q R : Type 0} → Decides a P → Decides b Q → (P → Q → R) → (R → P × Q) → Decides (a && b) R
both_decide true true p q f g = (λ h. f (p.0 refl) (q.0 refl), λ r. refl)
both_decide true false p q f g = (λ h. absurd (true≢false (sym h)), λ r. q.1 (g r).1)
both_decide false b p q f g = (λ h. absurd (true≢false (sym h)), λ r. p.1 (g r).0)

pub key_value_eq-Decides : (x y : KeyValue) → Decides (key_value_eq x y) (x ≡ y)
key_value_eq-Decides x y =
    both_decide (bytes_eq x.key y.key) (value_eq x.value y.value) (bytes_decides x.key y.key) (value_eq-Decides x.value y.value)
    (λ k v i. record { key = k i; value = v i })
    (λ e. (ap (λ p. p.key) e, ap (λ p. p.value) e))

-- whether two lists of attributes are equal, pair by pair
abbrev pub set_eq : List KeyValue → List KeyValue → Bool
set_eq = pointwise key_value_eq

pub set_eq-Decides : (x y : List KeyValue) → Decides (set_eq x y) (x ≡ y)
set_eq-Decides = pointwise_decides key_value_eq-Decides

pub array_eq_equiv : IsEquivalence array_eq
array_eq_equiv = decided array_eq array_eq-Decides

pub value_eq_equiv : IsEquivalence value_eq
value_eq_equiv = decided value_eq value_eq-Decides

pub key_value_eq_equiv : IsEquivalence key_value_eq
key_value_eq_equiv = decided key_value_eq key_value_eq-Decides
