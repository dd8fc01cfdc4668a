use Rattle.std.proofs.Common.{[], ◌∷◌, ◌++◌, ◌∙◌, ap, sym, codes}
use Rattle.std.specs.Option.{option_map}
use Rattle.json.specs.Json.{string, no_members}
use Rattle.json.specs.Token.{Token}
use Rattle.json.specs.Tree.{json_tokens}
use Rattle.otel_otlp.specs.Arrays.{array_of, members_front, optional}
use Rattle.otel_otlp.specs.Requests.{metric_json, scope_json}
use Rattle.otel_otlp.proofs.Fronts.{closed}
use Rattle.otel_otlp.proofs.Steps.{joined6}
use Rattle.otel_otlp.proofs.scopes.ScopeMetricsItem.write.Goals as goal

pub returns-clause-tokens : goal.returns-clause-tokens
returns-clause-tokens c =
    let s = c.args.self.now in
    let url = optional (codes "schemaUrl") (option_map string s.scope.schema_url) no_members in
    simp (
      c.in_ok-end_object.ensures.ok,
      c.in_ok-write_optional.ensures.tokens,
      c.in_ok-write_items.ensures.tokens,
      c.in_ok-key.ensures.ok,
      c.in_ok-write_scope.ensures.tokens,
      c.in_ok-write_parts.ensures.tokens,
      c.scope.ensures,
      c.scope-2.ensures,
      c.schema_url.ensures,
      c.as_slice.ensures.value,
      c.metrics.ensures,
    )
    (joined6 c.args.out.now.tokens (Token.begin_object ∷ Token.key (codes "scope") ∷ []) (json_tokens (scope_json s.scope)) (Token.key (codes "metrics") ∷ []) (json_tokens (array_of metric_json s.metrics)) (members_front url) (Token.end_object ∷ [])
    ∙ ap (λ x. c.args.out.now.tokens ++ Token.begin_object ∷ Token.key (codes "scope") ∷ (json_tokens (scope_json s.scope) ++ Token.key (codes "metrics") ∷ (json_tokens (array_of metric_json s.metrics) ++ x))) (sym (closed url)))
