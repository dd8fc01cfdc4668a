use Rattle.otel_model.proofs.Accepting.{call_law, run_law}
use Rattle.otel_model.proofs.books.Goals as goal

pub returns-clause-call : goal.returns-clause-call
returns-clause-call c = call_law

pub returns-clause-run : goal.returns-clause-run
returns-clause-run c = run_law
