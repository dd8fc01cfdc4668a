use Rattle.otel_model.proofs.Booked.{first_lawful, after_lawful, run_lawful, balances_law}
use Rattle.otel_model.proofs.keeps.Goals as goal

pub returns-clause-first : goal.returns-clause-first
returns-clause-first c = first_lawful

pub returns-clause-call : goal.returns-clause-call
returns-clause-call c = after_lawful

pub returns-clause-run : goal.returns-clause-run
returns-clause-run c = run_lawful

pub returns-clause-balances : goal.returns-clause-balances
returns-clause-balances c = balances_law
