use Rattle.otel_model.proofs.Numbering.{fed_by_numbers}
use Rattle.otel_model.proofs.Single.{as_alone, as_only}
use Rattle.otel_model.proofs.is_alone.Goals as goal

pub returns-clause-only : goal.returns-clause-only
returns-clause-only c = let by_numbers = fed_by_numbers in as_only

pub returns-clause-from_any : goal.returns-clause-from_any
returns-clause-from_any c = λ views old calls replies new run. as_alone views old new calls replies run
