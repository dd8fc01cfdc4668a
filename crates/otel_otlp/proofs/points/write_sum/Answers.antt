use Rattle.std.proofs.Common.{◌≡◌, decimal, [], ◌∷◌, ◌++◌, ◌∙◌, ap, codes}
use Rattle.json.specs.Json.{number}
use Rattle.json.specs.Token.{Token}
use Rattle.json.specs.Tree.{json_tokens}
use Rattle.otel_otlp.specs.Arrays.{array_of}
use Rattle.otel_otlp.specs.Points.{sum_point_json, temporality_json}
use Rattle.otel_otlp.proofs.Steps.{joined3}
use Rattle.otel_otlp.proofs.points.write_sum.Goals as goal

pub returns-clause-tokens : goal.returns-clause-tokens
returns-clause-tokens g c =
    let p = c.args.sum.now in
    let old = c.args.out.now.tokens in
    let points : c.as_slice.result.now ≡ p.data_points = c.as_slice.ensures.value ∙ c.data_points.ensures in
    let relation : number (decimal c.temporality_number.result) ≡ temporality_json p.temporality = c.temporality_number.ensures ∙ ap temporality_json c.temporality.ensures in
    simp (c.in_ok-write_parts-2.ensures.tokens, c.in_ok-write_points.ensures.tokens, c.in_ok-write_parts.ensures.tokens)
    (joined3 old (Token.begin_object ∷ Token.key (codes "dataPoints") ∷ []) (json_tokens (array_of (sum_point_json g.T.Number.integer c.start_time.result c.time.result) c.as_slice.result.now))
    (Token.key (codes "aggregationTemporality") ∷ (json_tokens (number (decimal c.temporality_number.result)) ++ Token.key (codes "isMonotonic") ∷ Token.boolean c.is_monotonic.result ∷ Token.end_object ∷ []))
    ∙ (λ i. old ++ Token.begin_object ∷ Token.key (codes "dataPoints") ∷ (json_tokens (array_of (sum_point_json g.T.Number.integer (c.start_time.ensures i) (c.time.ensures i)) (points i))
    ++ Token.key (codes "aggregationTemporality") ∷ (json_tokens (relation i) ++ Token.key (codes "isMonotonic") ∷ Token.boolean (c.is_monotonic.ensures i) ∷ Token.end_object ∷ []))))
