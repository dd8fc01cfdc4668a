use Rattle.otel_model.proofs.Kept.{kept_law, kept_at_once}
use Rattle.otel_model.proofs.keeps_readers.Goals as goal

pub returns-clause-run : goal.returns-clause-run
returns-clause-run c = kept_law

pub returns-clause-step : goal.returns-clause-step
returns-clause-step c = kept_at_once
