use Rattle.otel_model.proofs.Shown.{pending_law}
use Rattle.otel_model.proofs.agrees.Goals as goal
use Rattle.otel_model.proofs.Runs.{streams_law, feeds_law, places_law, counted_law, collections_law}

pub returns-clause-streams : goal.returns-clause-streams
returns-clause-streams c = streams_law

pub returns-clause-feeds : goal.returns-clause-feeds
returns-clause-feeds c = feeds_law

pub returns-clause-places : goal.returns-clause-places
returns-clause-places c = places_law

pub returns-clause-counted : goal.returns-clause-counted
returns-clause-counted c = counted_law

pub returns-clause-collections : goal.returns-clause-collections
returns-clause-collections c = collections_law

pub returns-clause-pending : goal.returns-clause-pending
returns-clause-pending c = pending_law
