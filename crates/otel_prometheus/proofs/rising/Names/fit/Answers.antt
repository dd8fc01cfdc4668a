use Rattle.std.proofs.Common.{rules}
use Rattle.otel_prometheus.proofs.RisingLemmas.{same_keys}
use Rattle.otel_prometheus.proofs.rising.Names.fit.Goals as goal

pub loop-attribute-preserved : goal.loop-attribute-preserved
loop-attribute-preserved c =
    λ e. c.loop-attribute.invariant
    (same_keys c.args.attributes.now c.loop-attribute.attribute-index c.attribute-item.result c.loop-attribute.left.now c.in-Some.rest.now c.in-Some.key.now
    c.loop-attribute-test.true c.attribute-item.is (search rules) (search rules) e)
