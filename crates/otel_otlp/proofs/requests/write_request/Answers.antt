use Rattle.std.proofs.Common.{[], ◌∷◌, ◌++◌, ◌∙◌, ap, sym, append_assoc, codes}
use Rattle.json.specs.Token.{Token}
use Rattle.json.specs.Tree.{json_tokens}
use Rattle.otel_otlp.specs.Requests.{resource_metrics_json}
use Rattle.otel_otlp.proofs.Steps.{joined3}
use Rattle.otel_otlp.proofs.requests.write_request.Goals as goal

pub returns-clause-tokens : goal.returns-clause-tokens
returns-clause-tokens c =
    let body = json_tokens (resource_metrics_json c.args.collected.now) in
    simp (c.in_ok-write_parts-2.ensures.tokens, c.in_ok-write_resource_metrics.ensures.tokens, c.in_ok-write_parts.ensures.tokens)
    (joined3 c.args.out.now.tokens (Token.begin_object ∷ Token.key (codes "resourceMetrics") ∷ Token.begin_array ∷ []) body (Token.end_array ∷ Token.end_object ∷ [])
    ∙ ap (λ x. c.args.out.now.tokens ++ Token.begin_object ∷ Token.key (codes "resourceMetrics") ∷ Token.begin_array ∷ x) (sym (append_assoc body (Token.end_array ∷ []) (Token.end_object ∷ []))))
