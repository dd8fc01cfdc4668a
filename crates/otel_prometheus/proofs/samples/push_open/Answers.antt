use Rattle.otel_prometheus.proofs.RisingLemmas.{pushed_open}
use Rattle.otel_prometheus.proofs.samples.push_open.Goals as goal

pub returns : goal.returns
returns c =
    λ labels more e.
    pushed_open labels more c.args.spelled.now c.in-Some.front.now _ c.args.out.now.items c.extend_from_slice-2.new.self.items c.extend_from_slice-3.new.self.items
    e c.in-Some.ensures.cases.0 c.in_ok-extend_from_slice-2.ensures.items c.in_ok-extend_from_slice-3.ensures.items
