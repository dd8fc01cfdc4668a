use Rattle.std.proofs.Common.{◌∙◌, arith, map}
use Rattle.opentelemetry_sdk.proofs.KnownRuns.{known-more, all-made}
use Rattle.opentelemetry_sdk.proofs.provider_core.Core.run.Goals as goal

pub loop-call-preserved : goal.loop-call-preserved
loop-call-preserved g c = record {
  many = omega (arith, c.push_reserved.ensures.len, c.loop-call.invariant.many);
  room = omega (arith, c.push_reserved.ensures.capacity, c.loop-call.invariant.room);
  so_far = known-more (map g.V.View.answer c.args.views.now) g.R.MetricReader.flushes g.R.MetricReader.shuts c.args.calls.now c.loop-call.call-index c.call-item.result c.loop-call.replies.items c.push_reserved.new.self.items
      (c.args.self.now.state, c.args.readers.now) (c.loop-call.self.state, c.loop-call.readers) (c.step-reply.new.self.state, c.step-reply.new.readers) c.step-reply.result c.loop-call-test.true c.call-item.is c.push_reserved.ensures.items
      c.loop-call.invariant.so_far (c.step-reply.ensures.step, c.step-reply.ensures.known, c.step-reply.ensures.reached);
  seeded = c.step-reply.ensures.seeded ∙ c.loop-call.invariant.seeded;
  wants = c.step-reply.ensures.wants ∙ c.loop-call.invariant.wants;
}

pub returns-clause-run : goal.returns-clause-run
returns-clause-run g c = (all-made (map g.V.View.answer c.args.views.now) g.R.MetricReader.flushes g.R.MetricReader.shuts c.args.calls.now c.loop-call.call-index c.loop-call.replies.items (c.args.self.now.state, c.args.readers.now) (c.loop-call.self.state, c.loop-call.readers) (omega (arith, c.loop-call-test.false)) c.loop-call.invariant.so_far).0

pub returns-clause-known : goal.returns-clause-known
returns-clause-known g c = (all-made (map g.V.View.answer c.args.views.now) g.R.MetricReader.flushes g.R.MetricReader.shuts c.args.calls.now c.loop-call.call-index c.loop-call.replies.items (c.args.self.now.state, c.args.readers.now) (c.loop-call.self.state, c.loop-call.readers) (omega (arith, c.loop-call-test.false)) c.loop-call.invariant.so_far).1

pub returns-clause-reached : goal.returns-clause-reached
returns-clause-reached g c = (all-made (map g.V.View.answer c.args.views.now) g.R.MetricReader.flushes g.R.MetricReader.shuts c.args.calls.now c.loop-call.call-index c.loop-call.replies.items (c.args.self.now.state, c.args.readers.now) (c.loop-call.self.state, c.loop-call.readers) (omega (arith, c.loop-call-test.false)) c.loop-call.invariant.so_far).2
