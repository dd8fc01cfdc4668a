-- Bytes that stand for themselves, and those that don't.
use Rattle.std.proofs.Common.{◌≡◌, ℕ, ◌==◌, ◌||◌, Bool, true, false, cond, List, [], ◌∷◌, refl}
use Rattle.std.proofs.lemmas.Bool.{true≢false}
use Rattle.otel_prometheus.specs.Samples.{escaped_byte, is_special}

no_special : (x y z : Bool) (a b c d : List ℕ) → ((x || y) || z) ≡ false → cond x a (cond y b (cond z c d)) ≡ d
no_special true y z a b c d e = absurd (true≢false e)
no_special false true z a b c d e = absurd (true≢false e)
no_special false false true a b c d e = absurd (true≢false e)
no_special false false false a b c d e = refl

pub plain_byte : (b : ℕ) → is_special b ≡ false → escaped_byte b ≡ b ∷ []
plain_byte b e = no_special (b == 92) (b == 34) (b == 10) _ _ _ _ e
