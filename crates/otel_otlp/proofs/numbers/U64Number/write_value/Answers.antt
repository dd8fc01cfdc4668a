use Rattle.std.proofs.Common.{◌≡◌, ◌^◌, true, false, refl, append_assoc, nat_lt, arith}
use Rattle.std.proofs.lemmas.Bool.{lt-ltb, le-ltb}
use Rattle.otel_otlp.proofs.Digits.{decimal-digits}
use Rattle.otel_otlp.proofs.numbers.U64Number.write_value.Goals as goal

pub returns-then-self-clause-tokens : goal.returns-then-self-clause-tokens
returns-then-self-clause-tokens c =
    let is_small : nat_lt c.args.self (2 ^ 63) ≡ true = lt-ltb c.args.self (2 ^ 63) (omega (arith, c.if-self.true)) in
    simp (c.in_ok-quoted_u64.ensures.ok, c.in_ok-key.ensures.ok, append_assoc, is_small, decimal-digits c.args.self c.ranges.self.fits) refl

pub returns-clause-tokens : goal.returns-clause-tokens
returns-clause-tokens c =
    let is_great : nat_lt c.args.self (2 ^ 63) ≡ false = le-ltb c.args.self (2 ^ 63) (omega (arith, c.if-self.false)) in
    simp (c.in_ok-u64.ensures.ok, c.in_ok-key-2.ensures.ok, append_assoc, is_great, decimal-digits c.args.self c.ranges.self.fits) refl
