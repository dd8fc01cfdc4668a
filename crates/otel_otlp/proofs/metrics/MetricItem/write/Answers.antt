use Rattle.std.proofs.Common.{[], ◌∷◌, ◌++◌, ◌∙◌, sym, codes}
use Rattle.json.specs.Token.{Token}
use Rattle.otel_otlp.specs.Arrays.{members_front}
use Rattle.otel_otlp.specs.Requests.{points_members}
use Rattle.otel_otlp.proofs.Fronts.{closed}
use Rattle.otel_otlp.proofs.Steps.{joined3}
use Rattle.otel_otlp.proofs.metrics.MetricItem.write.Goals as goal

pub returns-clause-tokens : goal.returns-clause-tokens
returns-clause-tokens c =
    let m = c.args.self.now in
    simp (
      c.in_ok-end_object.ensures.ok,
      c.in_ok-write_points.ensures.tokens,
      c.in_ok-write_parts.ensures.tokens,
      c.data.ensures,
    )
    (joined3 c.args.out.now.tokens (Token.begin_object ∷ Token.key (codes "name") ∷ Token.string c.name.result.now ∷ Token.key (codes "description") ∷ Token.string c.description.result.now ∷ Token.key (codes "unit") ∷ Token.string c.unit.result.now ∷ [])
    (members_front (points_members m.content)) (Token.end_object ∷ [])
    ∙ (λ i. c.args.out.now.tokens ++ Token.begin_object ∷ Token.key (codes "name") ∷ Token.string (c.name.ensures i) ∷ Token.key (codes "description") ∷ Token.string (c.description.ensures i)
    ∷ Token.key (codes "unit") ∷ Token.string (c.unit.ensures i) ∷ sym (closed (points_members m.content)) i))
