use Rattle.std.proofs.Common.{[], ◌∷◌, codes}
use Rattle.json.specs.Token.{Token}
use Rattle.json.specs.Tree.{json_tokens}
use Rattle.otel_otlp.specs.Attributes.{attributes_json}
use Rattle.otel_otlp.proofs.Steps.{joined3}
use Rattle.otel_otlp.proofs.scopes.write_resource.Goals as goal

pub returns-clause-tokens : goal.returns-clause-tokens
returns-clause-tokens c = simp (c.in_ok-end_object.ensures.ok, c.in_ok-write_resource_attributes.ensures.tokens, c.in_ok-write_parts.ensures.tokens) (joined3 c.args.out.now.tokens (Token.begin_object ∷ Token.key (codes "attributes") ∷ []) (json_tokens (attributes_json c.args.resource.now.attributes)) (Token.end_object ∷ []))
