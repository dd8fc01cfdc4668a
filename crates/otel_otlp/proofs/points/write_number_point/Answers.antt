use Rattle.std.proofs.Common.{[], ◌∷◌, ◌++◌, ◌∙◌, ap}
use Rattle.json.specs.Json.{no_members}
use Rattle.json.specs.Token.{Token}
use Rattle.otel_otlp.specs.Arrays.{members_front}
use Rattle.otel_otlp.specs.Numbers.{value_member}
use Rattle.otel_otlp.specs.Points.{point_members}
use Rattle.otel_otlp.proofs.PointTokens.{number_point}
use Rattle.otel_otlp.proofs.Steps.{joined3}
use Rattle.otel_otlp.proofs.points.write_number_point.Goals as goal

pub returns-clause-tokens : goal.returns-clause-tokens
returns-clause-tokens g c =
    simp (c.in_ok-end_object.ensures.ok, c.in_ok-write_value.ensures.tokens, c.in_ok-begin_point.ensures.tokens)
    (joined3 c.args.out.now.tokens (Token.begin_object ∷ members_front (point_members c.args.attributes.now c.args.start c.args.time no_members)) (members_front (value_member (g.T.Number.integer c.args.value) no_members)) (Token.end_object ∷ [])
    ∙ ap (λ x. c.args.out.now.tokens ++ x) (number_point g.T.Number.integer c.args.start c.args.time c.args.attributes.now c.args.value))
