use Rattle.std.proofs.Common.{◌≡◌, [], ◌∷◌, ◌++◌, ◌∙◌, OnOk, ap, subst, w64}
use Rattle.std.specs.Fmt.{signed_decimal}
use Rattle.std.proofs.lemmas.Int.{to_z-of_z}
use Rattle.json.specs.Token.{Token}
use Rattle.otel_otlp.proofs.Digits.{signed_decimal-digits}
use Rattle.otel_otlp.proofs.numbers.I64Number.write_whole.Goals as goal

pub returns-clause-tokens : goal.returns-clause-tokens
returns-clause-tokens c =
    subst (λ ds. OnOk c.i64.result (c.i64.new.self.tokens ≡ c.args.out.now.tokens ++ Token.number ds ∷ []))
    (ap signed_decimal (to_z-of_z w64 c.args.self c.ranges.self) ∙ signed_decimal-digits c.args.self c.ranges.self) c.i64.ensures.ok
