use Rattle.std.proofs.Common.{[], ◌∷◌, ◌++◌, ◌∙◌, ap, sym, codes}
use Rattle.std.specs.Option.{option_map}
use Rattle.json.specs.Json.{string, no_members}
use Rattle.json.specs.Token.{Token}
use Rattle.json.specs.Tree.{json_tokens}
use Rattle.otel_otlp.specs.Arrays.{array_of, members_front, optional}
use Rattle.otel_otlp.specs.Requests.{resource_json, scope_metrics_json}
use Rattle.otel_otlp.proofs.Fronts.{closed}
use Rattle.otel_otlp.proofs.Steps.{joined6}
use Rattle.otel_otlp.proofs.requests.write_resource_metrics.Goals as goal

pub returns-clause-tokens : goal.returns-clause-tokens
returns-clause-tokens c =
    let s = c.args.collected.now in
    let url = optional (codes "schemaUrl") (option_map string s.resource.schema_url) no_members in
    simp (
      c.in_ok-end_object.ensures.ok,
      c.in_ok-write_optional.ensures.tokens,
      c.in_ok-write_items.ensures.tokens,
      c.in_ok-key.ensures.ok,
      c.in_ok-write_resource.ensures.tokens,
      c.in_ok-write_parts.ensures.tokens,
      c.resource.ensures,
      c.resource-2.ensures,
      c.schema_url.ensures,
      c.as_slice.ensures.value,
      c.scope_metrics.ensures,
    )
    (joined6 c.args.out.now.tokens (Token.begin_object ∷ Token.key (codes "resource") ∷ []) (json_tokens (resource_json s.resource)) (Token.key (codes "scopeMetrics") ∷ []) (json_tokens (array_of scope_metrics_json s.scope_metrics)) (members_front url) (Token.end_object ∷ [])
    ∙ ap (λ x. c.args.out.now.tokens ++ Token.begin_object ∷ Token.key (codes "resource") ∷ (json_tokens (resource_json s.resource) ++ Token.key (codes "scopeMetrics") ∷ (json_tokens (array_of scope_metrics_json s.scope_metrics) ++ x))) (sym (closed url)))
