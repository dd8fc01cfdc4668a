use Rattle.std.proofs.Common.{◌≡◌, [], ◌∷◌, ◌++◌, OnOk, subst}
use Rattle.json.specs.Token.{Token}
use Rattle.otel_otlp.proofs.Digits.{decimal-digits}
use Rattle.otel_otlp.proofs.numbers.U64Number.write_whole.Goals as goal

pub returns-clause-tokens : goal.returns-clause-tokens
returns-clause-tokens c =
    subst (λ ds. OnOk c.u64.result (c.u64.new.self.tokens ≡ c.args.out.now.tokens ++ Token.number ds ∷ [])) (decimal-digits c.args.self c.ranges.self.fits) c.u64.ensures.ok
