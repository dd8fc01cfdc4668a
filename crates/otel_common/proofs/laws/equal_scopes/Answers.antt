use Rattle.otel_common.specs.Scopes.{scope_eq-Decides}
use Rattle.otel_common.proofs.laws.equal_scopes.Goals as goal

pub returns : goal.returns
returns c = record { scope = scope_eq-Decides }
