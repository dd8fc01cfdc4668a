-- Sums regrouped.
use Rattle.std.proofs.Common.{◌≡◌, ℕ, ◌+◌, arith}

pub plus_zero : (n : ℕ) → n + 0 ≡ n
plus_zero n = omega arith

pub zero_plus : (n : ℕ) → 0 + n ≡ n
zero_plus n = omega arith

pub exchanged : (a b c : ℕ) → (a + b) + c ≡ (a + c) + b
exchanged a b c = omega arith

pub grouped : (a b c : ℕ) → a + (b + c) ≡ (a + b) + c
grouped a b c = omega arith
