use Rattle.opentelemetry_sdk.proofs.pipeline.Asked.{taken-next, unbind-as, updated}
use Rattle.opentelemetry_sdk.proofs.pipeline.metric_stream.MetricStream.change.Goals as goal

pub returns-in-Unbind : goal.returns-in-Unbind
returns-in-Unbind c = rw (← c.self.view_is, c.in-Unbind.is) (unbind-as c.self.inside.demand c.self.inside.aggregate c.self.invariant c.unbind.new.self c.in-Unbind.handle c.unbind.ensures.unbound)

pub returns-in-Held : goal.returns-in-Held
returns-in-Held c = rw (← c.self.view_is, c.in-Held.is) (updated c.self.inside.demand c.self.inside.aggregate c.self.invariant c.update_bound.new.self c.in-Held.handle c.in-Held.place c.in-Held.value c.update_bound.ensures.updated)

pub invariant_of-self-in-Each : goal.invariant_of-self-in-Each
invariant_of-self-in-Each c = (taken-next c.self.inside.demand c.in-Each.values.now c.self.inside.aggregate c.commit_each.new.self c.self.invariant c.commit_each.ensures.idle c.commit_each.ensures.taken).0

pub returns-in-Each : goal.returns-in-Each
returns-in-Each c = rw (← c.self.view_is, c.in-Each.is) (taken-next c.self.inside.demand c.in-Each.values.now c.self.inside.aggregate c.commit_each.new.self c.self.invariant c.commit_each.ensures.idle c.commit_each.ensures.taken).1
