use Rattle.std.proofs.Common.{refl, append_assoc, w64}
use Rattle.std.proofs.lemmas.Int.{to_z-of_z}
use Rattle.otel_otlp.proofs.Digits.{signed_decimal-digits, signed_value}
use Rattle.otel_otlp.proofs.numbers.I64Number.write_value.Goals as goal

pub returns-clause-tokens : goal.returns-clause-tokens
returns-clause-tokens c =
    simp (
      c.in_ok-quoted_i64.ensures.ok,
      c.in_ok-key.ensures.ok,
      append_assoc,
      to_z-of_z w64 c.args.self c.ranges.self,
      signed_decimal-digits c.args.self c.ranges.self,
      signed_value c.args.self c.ranges.self,
    )
    refl
