-- Numbers, spelled by hand.
use Rattle.std.proofs.Common.{◌≡◌, pos, negsuc, [], ◌∷◌, map, refl, codes}
use Rattle.otel_otlp.specs.Numbers.{digits_within, digits, signed_digits}

pub naturals : map digits (0 ∷ 9 ∷ 10 ∷ 1700000100000000000 ∷ 18446744073709551615 ∷ []) ≡ codes "0" ∷ codes "9" ∷ codes "10" ∷ codes "1700000100000000000" ∷ codes "18446744073709551615" ∷ []
unfolding digits
naturals = refl

-- the last digits, if there are more
pub last_digits : map (λ count. digits_within count 1234) (0 ∷ 1 ∷ 3 ∷ 4 ∷ 5 ∷ []) ≡ [] ∷ codes "4" ∷ codes "234" ∷ codes "1234" ∷ codes "1234" ∷ []
last_digits = refl

pub integers : map signed_digits (pos 0 ∷ pos 42 ∷ negsuc 0 ∷ negsuc 9 ∷ negsuc 9223372036854775807 ∷ []) ≡ codes "0" ∷ codes "42" ∷ codes "-1" ∷ codes "-10" ∷ codes "-9223372036854775808" ∷ []
unfolding digits
integers = refl
