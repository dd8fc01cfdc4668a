use Rattle.otel_model_stream.proofs.knowing.Goals as goal
use Rattle.otel_model_stream.proofs.KnownLists.{counted_admitted, known_measured, known_bound, known_still, known_placed, known_before, known_drained, keys_few}

pub returns-clause-admitted : goal.returns-clause-admitted
returns-clause-admitted c = counted_admitted

pub returns-clause-measured : goal.returns-clause-measured
returns-clause-measured c = known_measured

pub returns-clause-bound : goal.returns-clause-bound
returns-clause-bound c = known_bound

pub returns-clause-still : goal.returns-clause-still
returns-clause-still c = known_still

pub returns-clause-before : goal.returns-clause-before
returns-clause-before c = known_before

pub returns-clause-drained : goal.returns-clause-drained
returns-clause-drained c = known_drained

pub returns-clause-few : goal.returns-clause-few
returns-clause-few c = keys_few

pub returns-clause-placed : goal.returns-clause-placed
returns-clause-placed c = known_placed
