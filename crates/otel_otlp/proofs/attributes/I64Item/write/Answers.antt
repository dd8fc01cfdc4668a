use Rattle.std.proofs.Common.{refl, append_assoc, rules, w64, SFits}
use Rattle.std.proofs.lemmas.Int.{to_z-of_z}
use Rattle.otel_otlp.proofs.Digits.{signed_decimal-digits}
use Rattle.otel_otlp.proofs.attributes.I64Item.write.Goals as goal

pub returns-clause-tokens : goal.returns-clause-tokens
returns-clause-tokens c =
    let fits : SFits w64 c.args.self.now = search rules in
    simp (c.in_ok-end_object.ensures.ok, c.in_ok-quoted_i64.ensures.ok, c.in_ok-key.ensures.ok, c.in_ok-begin_object.ensures.ok, append_assoc, to_z-of_z w64 c.args.self.now fits, signed_decimal-digits c.args.self.now fits) refl
