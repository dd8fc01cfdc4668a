use Rattle.otel_model.proofs.Handles.{feeds_law, next_law, observable_law}
use Rattle.otel_model.proofs.live_handles.Goals as goal

pub returns-clause-feeds : goal.returns-clause-feeds
returns-clause-feeds c = feeds_law

pub returns-clause-next : goal.returns-clause-next
returns-clause-next c = next_law

pub returns-clause-observable : goal.returns-clause-observable
returns-clause-observable c = observable_law
