use Rattle.opentelemetry_sdk.specs.Waiting.{lent_record}
use Rattle.opentelemetry_sdk.proofs.AcceptedSteps.{made}
use Rattle.opentelemetry_sdk.proofs.metrics.shared.booked.make.Goals as goal

pub returns-clause-done : goal.returns-clause-done
returns-clause-done c = (made c.answer_to.result c.args.core.now.state (lent_record c.args.pending.now) c.answer_to.new.core.state c.answer_to.ensures.step).0

pub returns-clause-refused : goal.returns-clause-refused
returns-clause-refused c = (made c.answer_to.result c.args.core.now.state (lent_record c.args.pending.now) c.answer_to.new.core.state c.answer_to.ensures.step).1
