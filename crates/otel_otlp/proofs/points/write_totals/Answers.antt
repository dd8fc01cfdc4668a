use Rattle.std.proofs.Common.{refl, append_assoc}
use Rattle.otel_otlp.proofs.points.write_totals.Goals as goal

pub returns-clause-tokens : goal.returns-clause-tokens
returns-clause-tokens g c = simp (c.in_ok-write_optional.ensures.tokens, c.in_ok-write.ensures.tokens, c.in_ok-key.ensures.ok, append_assoc) refl
