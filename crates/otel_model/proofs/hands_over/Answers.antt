use Rattle.otel_model.proofs.Given.{given_law, given_or_held_law}
use Rattle.otel_model.proofs.hands_over.Goals as goal

pub returns-clause-headings : goal.returns-clause-headings
returns-clause-headings c = given_law

pub returns-clause-streams : goal.returns-clause-streams
returns-clause-streams c = given_or_held_law
