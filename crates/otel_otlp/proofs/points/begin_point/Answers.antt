use Rattle.std.proofs.Common.{[], ◌∷◌, codes}
use Rattle.json.specs.Token.{Token}
use Rattle.json.specs.Tree.{json_tokens}
use Rattle.otel_otlp.specs.Attributes.{attributes_json}
use Rattle.otel_otlp.specs.Numbers.{digits}
use Rattle.otel_otlp.proofs.Steps.{joined7}
use Rattle.otel_otlp.proofs.points.begin_point.Goals as goal

pub returns-clause-tokens : goal.returns-clause-tokens
returns-clause-tokens c =
    simp (
      c.in_ok-write-2.ensures.tokens,
      c.in_ok-key-3.ensures.ok,
      c.in_ok-write.ensures.tokens,
      c.in_ok-key-2.ensures.ok,
      c.in_ok-write_items.ensures.tokens,
      c.in_ok-key.ensures.ok,
      c.in_ok-begin_object.ensures.ok,
    )
    (joined7 c.args.out.now.tokens (Token.begin_object ∷ []) (Token.key (codes "attributes") ∷ []) (json_tokens (attributes_json c.args.attributes.now)) (Token.key (codes "startTimeUnixNano") ∷ []) (Token.string (digits c.args.start) ∷ [])
    (Token.key (codes "timeUnixNano") ∷ []) (Token.string (digits c.args.time) ∷ []))
