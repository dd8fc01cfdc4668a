-- Numbers of 64 bits can be spelled.
use Rattle.std.proofs.Common.{ℕ, ℤ, pos, negsuc, arith}
use Rattle.otel_prometheus.specs.Samples.{IsNumber}
use Rattle.otel_prometheus.specs.Numbers.{unsigned, signed}

pub unsigned_fits : (n : ℕ) → IsNumber (unsigned n)
unsigned_fits n = omega arith

pub signed_fits : (z : ℤ) → IsNumber (signed z)
signed_fits (pos n) = grind arith
signed_fits (negsuc n) = grind arith
