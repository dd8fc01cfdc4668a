use Rattle.otel_model_stream.proofs.agrees.Goals as goal
use Rattle.otel_model_stream.proofs.Whole.{places_are, counted_are, points_are, points_of_run}

pub returns-clause-places : goal.returns-clause-places
returns-clause-places c = places_are

pub returns-clause-counted : goal.returns-clause-counted
returns-clause-counted c = counted_are

pub returns-clause-points : goal.returns-clause-points
returns-clause-points c = points_are

pub returns-clause-now : goal.returns-clause-now
returns-clause-now c = points_of_run
