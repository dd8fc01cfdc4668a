-- Equality of sets of attributes.
use Rattle.std.proofs.Common.{◌≡◌, true, false, refl}
use Rattle.otel_common.specs.Equality.{set_eq, set_eq-Decides}
use Rattle.otel_model_stream.specs.Sets.{AttributeSet, none_set, over_set}

pub set_eq_true : (a b : AttributeSet) → set_eq a b ≡ true → a ≡ b
set_eq_true a b e = (set_eq-Decides a b).0 e

pub set_eq_self : (a : AttributeSet) → set_eq a a ≡ true
set_eq_self a = (set_eq-Decides a a).1 refl

pub over_apart : set_eq over_set none_set ≡ false
over_apart = refl
