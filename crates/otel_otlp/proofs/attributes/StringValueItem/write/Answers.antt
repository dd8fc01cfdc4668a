use Rattle.std.proofs.Common.{refl, append_assoc}
use Rattle.otel_otlp.proofs.attributes.StringValueItem.write.Goals as goal

pub returns-clause-tokens : goal.returns-clause-tokens
returns-clause-tokens c =
    simp (c.in_ok-end_object.ensures.ok, c.in_ok-string.ensures.ok, c.in_ok-key.ensures.ok, c.in_ok-begin_object.ensures.ok, c.as_str.ensures, append_assoc) refl
