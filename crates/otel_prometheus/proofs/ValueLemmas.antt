-- What is no text is never shown as an empty one.
use Rattle.std.proofs.Common.{◌≡◌, ℕ, ◌<◌, ℤ, pos, negsuc, Bool, true, false, List, [], ◌∷◌, length, refl, arith}
use Rattle.std.specs.Prelude.{FitsSigned}
use Rattle.std.specs.Fmt.{decimal, signed_decimal}
use Rattle.std.proofs.lemmas.Fmt.{decimal_nonempty}
use Rattle.std.proofs.lemmas.Int.{ints}
use mir.Syntax.{w64}
use Rattle.json.specs.Print.{print_from}
use Rattle.otel_common.specs.declared.attributes.Array.{Array}
use Rattle.otel_common.specs.declared.attributes.Array.TheVariants as arrays
use Rattle.otel_common.specs.declared.attributes.Value.TheVariants as values
use Rattle.otel_prometheus.specs.Labels.{is_empty}
use Rattle.otel_prometheus.specs.Values.{value_text}

not_empty : (text : List ℕ) → 0 < length text → false ≡ is_empty text
not_empty [] h = absurd (omega (arith, h))
not_empty (b ∷ bs) h = refl

shown_integer : (z : ℤ) → FitsSigned w64 z → false ≡ is_empty (signed_decimal z)
shown_integer (pos n) h = not_empty (decimal n) (decimal_nonempty n (omega (arith, ints)))
shown_integer (negsuc n) h = refl

pub integer_is_shown : (z : ℤ) → FitsSigned w64 z → false ≡ is_empty (value_text (values.I64 z))
integer_is_shown z h = shown_integer z h

pub truth_is_shown : (b : Bool) → false ≡ is_empty (value_text (values.Bool b))
truth_is_shown true = refl
truth_is_shown false = refl

pub array_is_shown : (a : Array) → false ≡ is_empty (value_text (values.Array a))
unfolding print_from
array_is_shown (arrays.Bool bs) = refl
array_is_shown (arrays.I64 zs) = refl
array_is_shown (arrays.String ss) = refl
