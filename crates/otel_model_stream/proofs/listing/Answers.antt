use Rattle.otel_model_stream.specs.Maps.{evicted_map, drained_map}
use Rattle.otel_model_stream.proofs.listing.Goals as goal
use Rattle.otel_model_stream.proofs.KnownLists.{listed_none, listed_measured, listed_bound, listed_updated, listed_unbound, listed_left}

pub returns-clause-first : goal.returns-clause-first
returns-clause-first c = listed_none

pub returns-clause-measured : goal.returns-clause-measured
returns-clause-measured c = listed_measured

pub returns-clause-bound : goal.returns-clause-bound
returns-clause-bound c = listed_bound

pub returns-clause-updated : goal.returns-clause-updated
returns-clause-updated c = listed_updated

pub returns-clause-unbound : goal.returns-clause-unbound
returns-clause-unbound c = listed_unbound

pub returns-clause-evicted : goal.returns-clause-evicted
returns-clause-evicted c = λ k. listed_left (evicted_map k.map_state) k

pub returns-clause-drained : goal.returns-clause-drained
returns-clause-drained c = λ k. listed_left (drained_map k.map_state) k
