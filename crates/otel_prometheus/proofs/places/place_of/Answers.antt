use Rattle.std.proofs.Common.{rules}
use Rattle.otel_prometheus.proofs.PlaceLemmas.{at_place}
use Rattle.otel_prometheus.proofs.places.place_of.Goals as goal

pub returns-in-Equal : goal.returns-in-Equal
returns-in-Equal c =
    at_place c.args.labels.now c.args.name.now c.loop-index.index c.index-labels-index.result c.loop-index.invariant c.loop-index-test.true c.index-labels-index.is (search rules)
