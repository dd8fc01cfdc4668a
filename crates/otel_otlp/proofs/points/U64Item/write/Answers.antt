use Rattle.std.proofs.Common.{◌≡◌, [], ◌∷◌, ◌++◌, ◌<◌, ◌^◌, OnOk, rules, subst}
use Rattle.json.specs.Token.{Token}
use Rattle.otel_otlp.proofs.Digits.{decimal-digits}
use Rattle.otel_otlp.proofs.points.U64Item.write.Goals as goal

pub returns-clause-tokens : goal.returns-clause-tokens
returns-clause-tokens c =
    let small : c.args.self.now < 2 ^ 64 = search rules in
    subst (λ ds. OnOk c.quoted_u64.result (c.quoted_u64.new.self.tokens ≡ c.args.out.now.tokens ++ Token.string ds ∷ [])) (decimal-digits c.args.self.now small) c.quoted_u64.ensures.ok
