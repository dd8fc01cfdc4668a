use Rattle.std.proofs.Common.{map}
use Rattle.otel_model.proofs.Kept.{kept_at_once}
use Rattle.opentelemetry_sdk.specs.Correspondence.{call_of, reply_of}
use Rattle.opentelemetry_sdk.proofs.provider.Provider.step.Goals as goal

pub returns-clause-readers : goal.returns-clause-readers
returns-clause-readers g c = kept_at_once (map g.P.View.View.answer c.deref.result.now) c.args.self.now.core.state (call_of c.args.call.now) (reply_of c.step-reply.result) c.step-reply.new.self.state c.step-reply.ensures.step
