use Rattle.std.proofs.Common.{◌≡◌, [], ◌∷◌, ◌++◌, ◌∙◌, codes, arith}
use Rattle.std.proofs.lemmas.Grind.{common_steps}
use Rattle.json.specs.Token.{Token}
use Rattle.json.specs.Tree.{json_tokens}
use Rattle.otel_otlp.specs.Arrays.{array_of}
use Rattle.otel_otlp.specs.Points.{gauge_point_json}
use Rattle.otel_otlp.proofs.Steps.{joined3}
use Rattle.otel_otlp.proofs.points.write_gauge.Goals as goal

pub returns-clause-tokens : goal.returns-clause-tokens
returns-clause-tokens g c =
    let p = c.args.gauge.now in
    let old = c.args.out.now.tokens in
    let start : c.unwrap_or-start.result ≡ p.start_time = grind (arith, common_steps) in
    let points : c.as_slice-points.result.now ≡ p.data_points = c.as_slice-points.ensures.value ∙ c.data_points.ensures in
    simp (c.in_ok-end_object.ensures.ok, c.in_ok-write_points.ensures.tokens, c.in_ok-write_parts.ensures.tokens)
    (joined3 old (Token.begin_object ∷ Token.key (codes "dataPoints") ∷ []) (json_tokens (array_of (gauge_point_json g.T.Number.integer c.unwrap_or-start.result c.time.result) c.as_slice-points.result.now)) (Token.end_object ∷ [])
    ∙ (λ i. old ++ Token.begin_object ∷ Token.key (codes "dataPoints") ∷ (json_tokens (array_of (gauge_point_json g.T.Number.integer (start i) (c.time.ensures i)) (points i)) ++ Token.end_object ∷ [])))
